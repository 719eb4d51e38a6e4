use Rattle.std.proofs.Common.{pos}
use Rattle.std.proofs.lemmas.Option.{slice_get-get_or}
use Rattle.cull_base.specs.declared.scene_types.Object.{Object}
use Rattle.cull_base.specs.declared.scene_types.Object.TheVariants.{Area}
use Rattle.cull_report.proofs.asked.Asked.verdict_at.Goals as goal

some_object : Object
some_object = Area (record { x0 = pos 0; y0 = pos 0; x1 = pos 0; y1 = pos 0 }) (pos 0)

pub object_verdict-requires-clause-holds : goal.object_verdict-requires-clause-holds
unfolding some_object
object_verdict-requires-clause-holds g c =
    let at = slice_get-get_or c.args.self.now.scene.now.objects c.args.object some_object c.requires in
    rw at (λ t below met. c.args.self.now.holds t below)
