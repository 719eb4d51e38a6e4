use Rattle.std.proofs.Common.{◌≡◌}
use Rattle.std.proofs.lemmas.Result.{err_from_is_err_and}
use Rattle.cull_report.proofs.WrittenFrames.{frame_ends, last_line, line_failed, verdicts_failed}
use Rattle.cull_report.proofs.report.write_frame.Goals as goal

pub returns-in_err-write_to : goal.returns-in_err-write_to
returns-in_err-write_to g c = let p = err_from_is_err_and c.from_residual.result c.from_residual.ensures.1 in
    rw (p.1, p.2) (line_failed c.args.frame c.args.pieces c.args.verdicts.now (g.W.Sink.says c.args.sink.now) (g.W.Sink.says c.write_to.new.sink) c.in_err-write_to.field-0.0 (rw (← c.frame_line.ensures) c.in_err-write_to.ensures))

pub returns-in_err-write_verdicts : goal.returns-in_err-write_verdicts
returns-in_err-write_verdicts g c =
    let p = err_from_is_err_and c.from_residual-in_err-write_verdicts.result c.from_residual-in_err-write_verdicts.ensures.1 in
    rw (p.1, p.2) (verdicts_failed c.args.frame c.args.pieces c.args.verdicts.now (g.W.Sink.says c.args.sink.now) (g.W.Sink.says c.write_to.new.sink) (g.W.Sink.says c.write_verdicts.new.sink) c.in_err-write_verdicts.field-0.0 c.write_to.result
    (rw (← c.frame_line.ensures) c.write_to.ensures) (rw (← c.frame_line.ensures) c.in_ok-write_to.ensures.ok) c.in_err-write_verdicts.ensures)

pub returns : goal.returns
returns g c =
    let is : c.end_line.result ≡ last_line c.args.frame c.args.verdicts.now = rw (← c.of.ensures.visible, ← c.of.ensures.occluded, ← c.of.ensures.outside) c.end_line.ensures in
    frame_ends c.args.frame c.args.pieces c.args.verdicts.now (g.W.Sink.says c.args.sink.now) (g.W.Sink.says c.write_to.new.sink) (g.W.Sink.says c.write_verdicts.new.sink) (g.W.Sink.says c.write_to-2.new.sink) c.write_to.result c.write_to-2.result
    (rw (← c.frame_line.ensures) c.write_to.ensures) (rw (← c.frame_line.ensures) c.in_ok-write_to.ensures.ok) c.write_verdicts.ensures.faults_stay c.write_verdicts.ensures.refusals_stay c.in_ok-write_verdicts.ensures.ok
    (rw (← is) c.write_to-2.ensures)
