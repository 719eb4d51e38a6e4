use Rattle.std.proofs.Common.{◌≡◌, ℕ, ◌+◌, ◌-◌, ◌++◌, List, length, take, drop, arith, ap, sym, subst, ◌∙◌, Err}
use Rattle.std.proofs.Math.Seq.{take-add}
use Rattle.std.proofs.lemmas.List.{length-drop, take_all, take-append-drop}
use Rattle.std.proofs.lemmas.Result.{err_from_is_err_and}
use Rattle.cull_base.specs.Stream.{Appends, Writes}
use Rattle.cull_base.proofs.Streams.{appends_then, writes_then, writes_no_more}
use Rattle.cull_report.proofs.frame_verdicts.write_by_ends.Goals as goal

pub loop-end-preserved : goal.loop-end-preserved
loop-end-preserved g c =
    let text = c.args.text.now in
    let from = c.loop-end.from in
    let end = c.clamp-end.result in
    let so_far = c.loop-end.invariant in
    let s0 = g.W.Sink.says c.args.sink.now in
    let s1 = g.W.Sink.says c.loop-end.sink in
    let s2 = g.W.Sink.says c.write_whole.new.sink in
    let next : from + (end - from) ≡ end = omega (arith, c.clamp-end.ensures) in
    let more : take end text ≡ take from text ++ take (end - from) (drop from text) = ap (λ (n : ℕ). take n text) (sym next) ∙ take-add from (end - from) text in
    record {
      written = subst (λ (t : List ℕ). Appends s0 s2 t) (sym more) (appends_then s0 s1 s2 (take from text) (take (end - from) (drop from text)) so_far.written c.in_ok-write_whole.ensures.ok);
      within = omega (arith, c.clamp-end.ensures, so_far.within);
      faults = omega (arith, so_far.faults, c.in_ok-write_whole.ensures.faults_stay);
      refusals = omega (arith, so_far.refusals, c.in_ok-write_whole.ensures.refusals_stay);
    }

pub returns-in_err-write_whole : goal.returns-in_err-write_whole
returns-in_err-write_whole g c =
    let text = c.args.text.now in
    let from = c.loop-end.from in
    let so_far = c.loop-end.invariant in
    let e = c.in_err-write_whole.field-0.0 in
    let p = err_from_is_err_and c.from_residual.result c.from_residual.ensures.1 in
    let s0 = g.W.Sink.says c.args.sink.now in
    let s1 = g.W.Sink.says c.loop-end.sink in
    let s2 = g.W.Sink.says c.write_whole.new.sink in
    let rest = drop from text in
    let n = c.clamp-end.result - from in
    let whole : text ≡ take from text ++ (take n rest ++ drop n rest) =
    sym (take-append-drop from text) ∙ ap (λ (t : List ℕ). take from text ++ t) (sym (take-append-drop n rest)) in
    let failed = writes_no_more s1 s2 e (take n rest) (drop n rest) c.in_err-write_whole.ensures in
    rw (p.1, p.2) (subst (λ (t : List ℕ). Writes s0 s2 (Err e) t) (sym whole) (writes_then s0 s1 s2 (Err e) (take from text) (take n rest ++ drop n rest) so_far.written so_far.faults so_far.refusals failed))

pub returns : goal.returns
returns g c =
    let text = c.args.text.now in
    let from = c.loop-end.from in
    let so_far = c.loop-end.invariant in
    let s0 = g.W.Sink.says c.args.sink.now in
    let s1 = g.W.Sink.says c.loop-end.sink in
    let s2 = g.W.Sink.says c.write_whole-2.new.sink in
    let rest = take (length text - from) (drop from text) in
    let left : rest ≡ drop from text = take_all (length text - from) (drop from text) (omega (arith, length-drop from text)) in
    let whole : take from text ++ rest ≡ text = ap (λ (t : List ℕ). take from text ++ t) left ∙ take-append-drop from text in
    subst (λ (t : List ℕ). Writes s0 s2 c.write_whole-2.result t) whole (writes_then s0 s1 s2 c.write_whole-2.result (take from text) rest so_far.written so_far.faults so_far.refusals c.write_whole-2.ensures)
