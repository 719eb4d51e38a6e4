use Rattle.std.proofs.Common.{◌≡◌, ◌+◌, ◌≤◌, ◌++◌, ℕ, List, [], length, take, drop, arith, rules, ap, ◌∙◌, subst}
use Rattle.std.proofs.lemmas.List.{take_all}
use Rattle.cull_base.specs.declared.scene_types.Verdict.{Verdict}
use Rattle.cull_report.specs.Tallies.{Adds}
use Rattle.cull_report.proofs.MadeRuns.{drop_none}
use Rattle.cull_report.proofs.answering.all_answers.Goals as goal

pub returns-clause-verdicts : goal.returns-clause-verdicts
returns-clause-verdicts g c =
    let all = g.A.Answering.all c.args.asked.now in
    let n = c.count-count.result in
    let none : c.in_ok-verdicts.verdicts.items ≡ [] = search rules in
    let size : length all ≤ n = omega (arith, c.count-count.ensures.count) in
    c.answer-tally.ensures.verdicts ∙ ap (λ (xs : List Verdict). xs ++ take n (drop 0 all)) none ∙ ap (λ (xs : List Verdict). take n xs) (drop_none all) ∙ take_all n all size

pub returns-clause-told : goal.returns-clause-told
returns-clause-told g c =
    let all = g.A.Answering.all c.args.asked.now in let told = g.A.Answering.told c.args.asked.now in
    let whole : 0 + c.count-count.result ≡ length all = omega (arith, c.count-count.ensures.count) in
    subst (λ (m : ℕ). Adds (told 0) c.answer-tally.result (told m)) whole c.answer-tally.ensures.told
