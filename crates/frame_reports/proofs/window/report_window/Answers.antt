use Rattle.std.proofs.Common.{[]}
use Rattle.std.proofs.lemmas.Result.{err_from_is_err_and}
use Rattle.frame_reports.proofs.FrameByFrame.{frames_no_memory}
use Rattle.frame_reports.proofs.window.report_window.Goals as goal

pub returns-in_err-frames-clause-reported : goal.returns-in_err-frames-clause-reported
returns-in_err-frames-clause-reported g c =
    let w = c.args.window.now in
    let d = w.drawing.now in
    let p = err_from_is_err_and c.from_residual.result c.from_residual.ensures.1 in
    rw (p.1, p.2) (frames_no_memory [] d.plan.now.lines d.plan.now.beside d.scene.now w.first w.count (g.W.Sink.says c.args.report.now) (g.E.Sink.says c.args.notes.now))
