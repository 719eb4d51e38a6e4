use Rattle.std.proofs.Common.{◌≡◌, ℕ, ◌+◌, ◌-◌, ◌*◌, ◌/◌, ◌++◌, List, [], ◌∷◌, length, take, drop, Err, arith, sym, ap, ◌∙◌, subst}
use Rattle.std.proofs.lemmas.List.{append-nil}
use Rattle.std.proofs.lemmas.Result.{err_from_is_err_and}
use Rattle.cull_base.specs.Stream.{Writes}
use Rattle.cull_base.proofs.Streams.{appends_then, writes_then, writes_no_more}
use Rattle.cull_report.specs.LivePieces.{head_text, counts_text}
use Rattle.cull_report.proofs.LiveFields.{next_front, line_after, line_ends}
use Rattle.cull_report.proofs.live_text.write_live.Goals as goal

pub loop-batch-preserved : goal.loop-batch-preserved
loop-batch-preserved g c =
    let line = c.args.line.now in
    let head = head_text line in
    let first = 64 * c.loop-batch.batch in
    let count = first + 64 - first in
    let so_far = c.loop-batch.invariant in
    let (front, written, is) = so_far.written in
    let s0 = g.W.Sink.says c.args.sink.now in
    let s1 = g.W.Sink.says c.loop-batch.sink in
    let s2 = g.W.Sink.says c.write_out.new.sink in
    let text : c.push_counts.new.text ≡ c.loop-batch.text ++ counts_text (take count (drop first line.counts)) = c.push_counts.ensures.value in
    let batch = c.in_ok-write_out.ensures.written in
    let next : first + count ≡ 64 * (c.loop-batch.batch + 1) = omega arith in
    let whole : front ++ c.push_counts.new.text ≡ head ++ counts_text (take (64 * (c.loop-batch.batch + 1)) line.counts) =
    ap (λ (t : List ℕ). front ++ t) text ∙ next_front head front c.loop-batch.text line.counts first count is ∙ ap (λ (n : ℕ). head ++ counts_text (take n line.counts)) next in
    let after = front ++ c.push_counts.new.text in
    record {
      written = (after, appends_then s0 s1 s2 front c.push_counts.new.text written batch.ok, ap (λ (t : List ℕ). after ++ t) c.write_out.ensures.empty ∙ append-nil after ∙ whole);
      short = let none = ap length c.write_out.ensures.empty in omega (arith, none);
      faults = omega (arith, so_far.faults, batch.faults_stay);
      refusals = omega (arith, so_far.refusals, batch.refusals_stay);
    }

pub returns-in_err-write_out : goal.returns-in_err-write_out
returns-in_err-write_out g c =
    let line = c.args.line.now in
    let first = 64 * c.loop-batch.batch in
    let count = first + 64 - first in
    let so_far = c.loop-batch.invariant in
    let (front, written, is) = so_far.written in
    let e = c.in_err-write_out.field-0.0 in
    let p = err_from_is_err_and c.from_residual.result c.from_residual.ensures.1 in
    let s0 = g.W.Sink.says c.args.sink.now in
    let s1 = g.W.Sink.says c.loop-batch.sink in
    let s2 = g.W.Sink.says c.write_out.new.sink in
    let piece = c.loop-batch.text ++ counts_text (take count (drop first line.counts)) in
    let left = counts_text (drop (first + count) line.counts) ++ 10 ∷ [] in
    let failed : Writes s1 s2 (Err e) piece = subst (λ (t : List ℕ). Writes s1 s2 (Err e) t) c.push_counts.ensures.value c.in_err-write_out.ensures.written in
    let whole = writes_then s0 s1 s2 (Err e) front (piece ++ left) written so_far.faults so_far.refusals (writes_no_more s1 s2 e piece left failed) in
    rw (p.1, p.2) (subst (λ (t : List ℕ). Writes s0 s2 (Err e) t) (sym (line_after line front c.loop-batch.text first count is)) whole)

pub returns : goal.returns
returns g c =
    let line = c.args.line.now in
    let first = 64 * (c.len-batches.result / 64) in
    let count = c.len.result - first in
    let so_far = c.loop-batch.invariant in
    let (front, written, told) = so_far.written in
    let s0 = g.W.Sink.says c.args.sink.now in
    let s1 = g.W.Sink.says c.loop-batch.sink in
    let s2 = g.W.Sink.says c.write_to.new.sink in
    let all : 64 * c.loop-batch.batch ≡ first = omega (arith, c.loop-batch-test.false, c.loop-batch.auto.batch-end) in
    let is = told ∙ ap (λ (n : ℕ). head_text line ++ counts_text (take n line.counts)) all in
    let piece = (c.loop-batch.text ++ counts_text (take count (drop first line.counts))) ++ 10 ∷ [] in
    let text : c.end.new.self ≡ piece = c.end.ensures ∙ ap (λ (t : List ℕ). t ++ 10 ∷ []) c.push_counts-2.ensures.value in
    let last : Writes s1 s2 c.write_to.result piece = subst (λ (t : List ℕ). Writes s1 s2 c.write_to.result t) text c.write_to.ensures in
    let whole = writes_then s0 s1 s2 c.write_to.result front piece written so_far.faults so_far.refusals last in
    subst (λ (t : List ℕ). Writes s0 s2 c.write_to.result t) (sym (line_ends line front c.loop-batch.text first count (omega (arith, c.len.ensures)) is)) whole
