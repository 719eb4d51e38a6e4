use Rattle.std.proofs.Common.{List, ℕ, take, arith, sym, subst, Err}
use Rattle.std.specs.List.{flat_map}
use Rattle.std.proofs.lemmas.Result.{err_from_is_err_and}
use Rattle.cull_base.specs.Stream.{Writes}
use Rattle.cull_base.proofs.Streams.{writes_then, writes_no_more}
use Rattle.cull_report.specs.Live.{text_of_line}
use Rattle.frame_reports.proofs.LiveTexts.{texts_begin}
use Rattle.frame_reports.proofs.live_frame.write_all.Goals as goal

pub returns-in_err-write_live : goal.returns-in_err-write_live
returns-in_err-write_live g c =
    let lines = c.args.lines.now in
    let k = c.loop-line.line-index in
    let line = c.line-item.result in
    let e = c.in_err-write_live.field-0.0 in
    let p = err_from_is_err_and c.from_residual.result c.from_residual.ensures.1 in
    let s0 = g.E.Sink.says c.args.notes.now in
    let s1 = g.E.Sink.says c.loop-line.notes in
    let s2 = g.E.Sink.says c.write_live.new.sink in
    let (rest, split) = texts_begin text_of_line lines k line (omega arith) c.line-item.is in
    let whole = writes_then s0 s1 s2 (Err e) (flat_map text_of_line (take k lines)) _ c.loop-line.invariant.written c.loop-line.invariant.faults c.loop-line.invariant.refusals (writes_no_more s1 s2 e (text_of_line line) rest c.in_err-write_live.ensures) in
    rw (p.1, p.2) (subst (λ (t : List ℕ). Writes s0 s2 (Err e) t) (sym split) whole)
