use Rattle.report_tests.proofs.Bare.{no_clips}
use Rattle.report_tests.proofs.tests.reports.is_settled.Goals as goal

pub object_settled-requires-clause-clips : goal.object_settled-requires-clause-clips
object_settled-requires-clause-clips c = no_clips c.args.scene.now 0 c.in_ok-assure_bare.ensures.vertices
