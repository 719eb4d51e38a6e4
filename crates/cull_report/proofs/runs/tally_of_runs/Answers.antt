use Rattle.std.proofs.Common.{◌≡◌, ℕ, ◌+◌, ◌≤◌, length, arith, ap, ◌∙◌}
use Rattle.std.proofs.lemmas.Nat.{mul-le}
use Rattle.cull_report.specs.Runs.{run_place}
use Rattle.cull_report.specs.declared.tally.Tally.{Tally}
use Rattle.cull_report.proofs.MadeRuns.{few_so_far, tally_and, told_more}
use Rattle.cull_report.proofs.runs.tally_of_runs.Goals as goal

pub loop-run-init : goal.loop-run-init
loop-run-init g c =
    let told = g.A.Answering.told c.args.asked.now in let objects = length (g.A.Answering.all c.args.asked.now) in
    let begins : 0 ≡ run_place objects c.args._size 0 = omega arith in
    let hidden = ap (λ (m : ℕ). (told m).hidden) begins in
    let members = ap (λ (m : ℕ). (told m).members) begins in
    record { hidden = omega (arith, hidden); members = omega (arith, members) }

pub overflow_add-hidden : goal.overflow_add-hidden
overflow_add-hidden g c =
    let told = g.A.Answering.told c.args.asked.now in let objects = length (g.A.Answering.all c.args.asked.now) in let t : Tally = record { hidden = c.loop-run.hidden; members = c.loop-run.members } in let after = run_place objects c.args._size (c.loop-run.run-index + 1) in
    omega (arith, (few_so_far (told 0) (tally_and t c.run-item.result.tally) (told after) (told_more objects told c.args._size c.loop-run.run-index c.args.runs.now c.run-item.result (told 0) t c.requires (omega (arith, c.loop-run-test.true)) c.run-item.is c.loop-run.invariant) (c.count-count.ensures.few after)).hidden)

pub overflow_add-members : goal.overflow_add-members
overflow_add-members g c =
    let told = g.A.Answering.told c.args.asked.now in let objects = length (g.A.Answering.all c.args.asked.now) in let t : Tally = record { hidden = c.loop-run.hidden; members = c.loop-run.members } in let after = run_place objects c.args._size (c.loop-run.run-index + 1) in
    omega (arith, (few_so_far (told 0) (tally_and t c.run-item.result.tally) (told after) (told_more objects told c.args._size c.loop-run.run-index c.args.runs.now c.run-item.result (told 0) t c.requires (omega (arith, c.loop-run-test.true)) c.run-item.is c.loop-run.invariant) (c.count-count.ensures.few after)).members)

pub loop-run-preserved : goal.loop-run-preserved
loop-run-preserved g c = let told = g.A.Answering.told c.args.asked.now in told_more (length (g.A.Answering.all c.args.asked.now)) told c.args._size c.loop-run.run-index c.args.runs.now c.run-item.result (told 0) (record { hidden = c.loop-run.hidden; members = c.loop-run.members }) c.requires (omega (arith, c.loop-run-test.true)) c.run-item.is c.loop-run.invariant

pub returns : goal.returns
returns g c =
    let told = g.A.Answering.told c.args.asked.now in let objects = length (g.A.Answering.all c.args.asked.now) in
    let size = c.args._size in
    let k = c.loop-run.run-index in
    let all = length c.args.runs.now in
    let past : all ≤ k = omega (arith, c.loop-run-test.false) in
    let ends : run_place objects size k ≡ objects = omega (arith, c.requires.whole, mul-le size all size k (omega arith) past) in
    record {
      hidden = c.loop-run.invariant.hidden ∙ ap (λ (m : ℕ). (told m).hidden) ends;
      members = c.loop-run.invariant.members ∙ ap (λ (m : ℕ). (told m).members) ends;
    }
