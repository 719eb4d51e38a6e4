use Rattle.std.proofs.Common.{◌≡◌, Err}
use Rattle.std.proofs.lemmas.Result.{err_from_is_err_and}
use Rattle.cull_base.specs.Stream.{Appends, Writes}
use Rattle.cull_report.specs.Text.{verdict_lines}
use Rattle.cull_report.proofs.WrittenFrames.{frame_ends, last_line, line_failed, verdicts_failed}
use Rattle.cull_report.proofs.frame_verdicts.FrameVerdicts.write_frame.Goals as goal

pub returns-in_err-write_to : goal.returns-in_err-write_to
returns-in_err-write_to g c = let p = err_from_is_err_and c.from_residual.result c.from_residual.ensures.1 in
    rw (p.1, p.2) (line_failed c.args.frame c.args.pieces c.args.self.now (g.W.Sink.says c.args.sink.now) (g.W.Sink.says c.write_to.new.sink) c.in_err-write_to.field-0.0 (rw (← c.frame_line.ensures) c.in_err-write_to.ensures))

pub returns-in_err-write_lines : goal.returns-in_err-write_lines
returns-in_err-write_lines g c =
    let verdicts = c.args.self.now in
    let p = err_from_is_err_and c.from_residual-in_err-write_lines.result c.from_residual-in_err-write_lines.ensures.1 in
    let s1 = g.W.Sink.says c.write_to.new.sink in let s2 = g.W.Sink.says c.write_lines.new.sink in let e = c.in_err-write_lines.field-0.0 in
    let failed : Writes s1 s2 (Err e) (verdict_lines 0 verdicts) = c.in_err-write_lines.ensures in
    rw (p.1, p.2) (verdicts_failed c.args.frame c.args.pieces verdicts (g.W.Sink.says c.args.sink.now) s1 s2 e c.write_to.result (rw (← c.frame_line.ensures) c.write_to.ensures) (rw (← c.frame_line.ensures) c.in_ok-write_to.ensures.ok) failed)

pub returns : goal.returns
returns g c =
    let verdicts = c.args.self.now in
    let s1 = g.W.Sink.says c.write_to.new.sink in let s2 = g.W.Sink.says c.write_lines.new.sink in
    let visible = c.counts.ensures.visible in
    let occluded = c.counts.ensures.occluded in
    let outside = c.counts.ensures.outside in
    let is : c.end_line.result ≡ last_line c.args.frame verdicts = rw (← visible, ← occluded, ← outside) c.end_line.ensures in
    let wrote : Appends s1 s2 (verdict_lines 0 verdicts) = c.in_ok-write_lines.ensures.ok in
    frame_ends c.args.frame c.args.pieces verdicts (g.W.Sink.says c.args.sink.now) s1 s2 (g.W.Sink.says c.write_to-2.new.sink) c.write_to.result c.write_to-2.result (rw (← c.frame_line.ensures) c.write_to.ensures)
    (rw (← c.frame_line.ensures) c.in_ok-write_to.ensures.ok) c.write_lines.ensures.faults_stay c.write_lines.ensures.refusals_stay wrote (rw (← is) c.write_to-2.ensures)
