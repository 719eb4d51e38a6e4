use Rattle.std.proofs.Common.{◌≡◌, ◌∙◌, ℕ, ◌+◌, ◌-◌, ◌*◌, ◌≤◌, ◌++◌, min, List, length, drop, take, ap, arith, sym, subst, Err}
use Rattle.std.proofs.lemmas.Result.{err_from_is_err_and}
use Rattle.cull_report.specs.Text.{verdict_lines}
use Rattle.cull_base.specs.Stream.{Appends, Writes}
use Rattle.cull_base.proofs.Streams.{appends_then, writes_then, writes_no_more}
use Rattle.cull_report.proofs.ReportLines.{verdict_lines-batch, verdict_lines-batches, taken_batch}
use Rattle.cull_report.proofs.report.write_verdicts.Goals as goal

pub loop-batch-preserved : goal.loop-batch-preserved
loop-batch-preserved g c =
    let verdicts = c.args.verdicts.now in
    let first = 128 * c.loop-batch.batch in
    let count = (first + c.min.result) - first in
    let so_far = c.loop-batch.invariant in
    let s0 = g.W.Sink.says c.args.sink.now in
    let s1 = g.W.Sink.says c.loop-batch.sink in
    let s2 = g.W.Sink.says c.write_to.new.sink in
    let le : first ≤ length verdicts = omega (arith, c.loop-batch-test.true, c.div_ceil-batch-end.ensures) in
    let is : count ≡ min 128 (length verdicts - first) = omega (arith, c.min.ensures) in
    let next : 128 * (c.loop-batch.batch + 1) ≡ first + 128 = omega arith in
    let text = ap (λ n. verdict_lines 0 (take n verdicts)) next ∙ ap (verdict_lines 0) (taken_batch verdicts first count le is) ∙ verdict_lines-batch verdicts first count ∙ ap (λ (t : List ℕ). verdict_lines 0 (take first verdicts) ++ t) (sym c.lines_from.ensures.value) in
    record {
      written = subst (λ (t : List ℕ). Appends s0 s2 t) (sym text) (appends_then s0 s1 s2 (verdict_lines 0 (take first verdicts)) c.lines_from.result so_far.written c.in_ok-write_to.ensures.ok);
      faults = omega (arith, so_far.faults, c.in_ok-write_to.ensures.faults_stay);
      refusals = omega (arith, so_far.refusals, c.in_ok-write_to.ensures.refusals_stay);
    }

pub returns-in_err-write_to : goal.returns-in_err-write_to
returns-in_err-write_to g c =
    let verdicts = c.args.verdicts.now in
    let first = 128 * c.loop-batch.batch in
    let count = (first + c.min.result) - first in
    let e = c.in_err-write_to.field-0.0 in
    let p = err_from_is_err_and c.from_residual.result c.from_residual.ensures.1 in
    let s0 = g.W.Sink.says c.args.sink.now in
    let s1 = g.W.Sink.says c.loop-batch.sink in
    let s2 = g.W.Sink.says c.write_to.new.sink in
    let batch = verdict_lines first (take count (drop first verdicts)) in
    let (others, split) = verdict_lines-batches verdicts first count in
    let failed : Writes s1 s2 (Err e) batch = rw (← c.lines_from.ensures.value) c.in_err-write_to.ensures in
    let whole = writes_then s0 s1 s2 (Err e) (verdict_lines 0 (take first verdicts)) (batch ++ others) c.loop-batch.invariant.written c.loop-batch.invariant.faults c.loop-batch.invariant.refusals (writes_no_more s1 s2 e batch others failed) in
    rw (p.1, p.2) (subst (λ (t : List ℕ). Writes s0 s2 (Err e) t) (sym split) whole)
