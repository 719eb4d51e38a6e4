use Rattle.std.proofs.Common.{List, [], sym, subst}
use Rattle.std.proofs.lemmas.Result.{err_from_is_err_and}
use Rattle.cull_report.specs.Live.{LiveLineOf}
use Rattle.frame_reports.specs.Frames.{AreSeen}
use Rattle.frame_reports.proofs.FrameByFrame.{frames_no_memory}
use Rattle.frame_reports.proofs.frame_by_frame.report_frame.Goals as goal

pub returns-in_err-seen-clause-reported : goal.returns-in_err-seen-clause-reported
returns-in_err-seen-clause-reported g c =
    let plan = c.args.drawing.now.plan.now in
    let p = err_from_is_err_and c.from_residual.result c.from_residual.ensures.1 in
    rw (p.1, p.2) (frames_no_memory [] plan.lines plan.beside c.args.drawing.now.scene.now c.args.frame 1 (g.W.Sink.says c.args.report.now) (g.E.Sink.says c.args.notes.now))

pub write_and_note-requires-clause-seen : goal.write_and_note-requires-clause-seen
write_and_note-requires-clause-seen g c =
    let drawing = c.args.drawing.now in
    subst (λ (l : List LiveLineOf). AreSeen drawing.plan.now.beside drawing.scene.now c.args.frame l) (sym c.as_slice-lines.ensures.value) c.in_ok-seen.ensures.seen
