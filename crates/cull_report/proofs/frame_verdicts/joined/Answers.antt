use Rattle.std.proofs.Common.{◌≡◌, ◌∙◌, ◌*◌, ◌++◌, List, take, arith, rules, sym, ap}
use Rattle.cull_base.specs.declared.scene_types.Verdict.{Verdict}
use Rattle.cull_report.proofs.MadeRuns.{joined_more, run_at}
use Rattle.cull_report.proofs.frame_verdicts.joined.Goals as goal

pub loop-run-preserved : goal.loop-run-preserved
loop-run-preserved c all are =
    let size = c.args._size in
    let k = c.loop-run.run-index in
    let made = run_at all size k c.args.runs.now c.run-item.result are (omega (arith, c.loop-run-test.true)) c.run-item.is in
    let longer : c.extend_from_slice.new.self.items ≡ c.loop-run.list.items ++ c.as_slice.result.now = search rules in
    longer ∙ ap (λ (xs : List Verdict). xs ++ c.as_slice.result.now) (c.loop-run.invariant all are)
    ∙ ap (λ (xs : List Verdict). take (size * k) all ++ xs) (c.as_slice.ensures.value ∙ made.verdicts_are) ∙ sym (joined_more all size k)
