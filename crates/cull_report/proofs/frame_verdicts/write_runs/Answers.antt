use Rattle.std.proofs.Common.{◌∙◌, ℕ, ◌*◌, ◌++◌, List, take, arith, sym, subst, Err}
use Rattle.std.proofs.lemmas.Result.{err_from_is_err_and}
use Rattle.cull_base.specs.Stream.{Appends, Writes}
use Rattle.cull_base.proofs.Streams.{appends_then, writes_then, writes_no_more}
use Rattle.cull_report.specs.Runs.{run_of}
use Rattle.cull_report.specs.Text.{verdict_lines}
use Rattle.cull_report.proofs.MadeRuns.{lines_more, run_at}
use Rattle.cull_report.proofs.ReportLines.{verdict_lines-batches}
use Rattle.cull_report.proofs.frame_verdicts.write_runs.Goals as goal

pub loop-run-preserved : goal.loop-run-preserved
loop-run-preserved g c =
    let verdicts = c.args._verdicts.now in
    let size = c.args._size in
    let k = c.loop-run.run-index in
    let so_far = c.loop-run.invariant in
    let s0 = g.W.Sink.says c.args.sink.now in
    let s1 = g.W.Sink.says c.loop-run.sink in
    let s2 = g.W.Sink.says c.write_whole.new.sink in
    let made = run_at verdicts size k c.args.runs.now c.run-item.result c.requires (omega (arith, c.loop-run-test.true)) c.run-item.is in
    let text = c.as_slice.ensures.value ∙ made.lines_are in
    let wrote : Appends s1 s2 (verdict_lines (size * k) (run_of verdicts size k)) = subst (λ (t : List ℕ). Appends s1 s2 t) text c.in_ok-write_whole.ensures.ok in
    record {
      written = subst (λ (t : List ℕ). Appends s0 s2 t) (sym (lines_more verdicts size k)) (appends_then s0 s1 s2 (verdict_lines 0 (take (size * k) verdicts)) (verdict_lines (size * k) (run_of verdicts size k)) so_far.written wrote);
      faults = omega (arith, so_far.faults, c.in_ok-write_whole.ensures.faults_stay);
      refusals = omega (arith, so_far.refusals, c.in_ok-write_whole.ensures.refusals_stay);
    }

pub returns-in_err-write_whole : goal.returns-in_err-write_whole
returns-in_err-write_whole g c =
    let verdicts = c.args._verdicts.now in
    let size = c.args._size in
    let k = c.loop-run.run-index in
    let e = c.in_err-write_whole.field-0.0 in
    let p = err_from_is_err_and c.from_residual.result c.from_residual.ensures.1 in
    let s0 = g.W.Sink.says c.args.sink.now in
    let s1 = g.W.Sink.says c.loop-run.sink in
    let s2 = g.W.Sink.says c.write_whole.new.sink in
    let made = run_at verdicts size k c.args.runs.now c.run-item.result c.requires (omega (arith, c.loop-run-test.true)) c.run-item.is in
    let lines = verdict_lines (size * k) (run_of verdicts size k) in
    let (others, split) = verdict_lines-batches verdicts (size * k) size in
    let text = c.as_slice.ensures.value ∙ made.lines_are in
    let failed : Writes s1 s2 (Err e) lines = subst (λ (t : List ℕ). Writes s1 s2 (Err e) t) text c.in_err-write_whole.ensures in
    let whole = writes_then s0 s1 s2 (Err e) (verdict_lines 0 (take (size * k) verdicts)) (lines ++ others) c.loop-run.invariant.written c.loop-run.invariant.faults c.loop-run.invariant.refusals (writes_no_more s1 s2 e lines others failed) in
    rw (p.1, p.2) (subst (λ (t : List ℕ). Writes s0 s2 (Err e) t) (sym split) whole)
