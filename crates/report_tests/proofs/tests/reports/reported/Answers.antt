use Rattle.std.proofs.Common.{◌≡◌, List, Bool, false, length, replicate, rules, ap, sym, subst}
use Rattle.std.specs.Prelude.{slice_index_or}
use Rattle.std.proofs.lemmas.List.{get_or-replicate}
use Rattle.group_query.specs.Grouping.{AreApart}
use Rattle.group_query.specs.declared.grouping.Group.{Group}
use Rattle.report_tests.proofs.Bare.{no_clips}
use Rattle.report_tests.proofs.tests.reports.reported.Goals as goal

pub invariant_of-asked-clause-are_clips : goal.invariant_of-asked-clause-are_clips
invariant_of-asked-clause-are_clips g c = no_clips c.args.scene.now 0 c.in_ok-assure_bare.ensures.vertices

pub invariant_of-asked-clause-right : goal.invariant_of-asked-clause-right
invariant_of-asked-clause-right g c = λ o other lt mark.
    let count = length c.args.scene.now.objects in
    let unset : c.as_slice-marks.result.now ≡ replicate count false = search rules in
    let e = ap (λ (ms : List Bool). slice_index_or ms o false) unset in
    let p = get_or-replicate count o false false lt in
    absurd cc

pub group_verdicts-requires : goal.group_verdicts-requires
group_verdicts-requires g c =
    subst (λ (gs : List Group). AreApart (length c.args.scene.now.objects) gs) (sym c.as_slice-given.ensures.value) c.in_ok-list.ensures.apart
