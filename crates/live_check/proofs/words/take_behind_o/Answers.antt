use Rattle.std.proofs.Common.{[], ◌∷◌, codes, arith, inr}
use Rattle.std.proofs.lemmas.Result.{IfOk-weaker}
use Rattle.cull_base.specs.declared.scene_types.Verdict.TheVariants.{Occluded, Outside}
use Rattle.live_check.proofs.ByBytes.{came_occluded, came_outside, found_behind, found_from, found_or_never, never_apart, ok_both, only_behind_o}
use Rattle.live_check.proofs.LineParts.{never_longer}
use Rattle.live_check.proofs.words.take_behind_o.Goals as goal

pub returns-then-branch-clause-came : goal.returns-then-branch-clause-came
returns-then-branch-clause-came g c = IfOk-weaker c.if_text.result _ _ (λ o some. came_occluded _ _ _ o (c.in_ok-takes_byte.ensures.came c.if-branch.true) some) c.if_text.ensures.some

pub returns-then-branch-clause-only : goal.returns-then-branch-clause-only
returns-then-branch-clause-only g c =
    let came = c.in_ok-takes_byte.ensures.came c.if-branch.true in
    ok_both c.if_text.result _ _ _ (λ o some none.
    only_behind_o _ o (found_behind _ _ o Occluded 99 (codes "cluded") came (found_or_never _ _ o Occluded (codes "cluded") some none))
    (inr (never_apart _ _ 99 117 [] (codes "tside") came (λ e. omega (arith, e))))) c.if_text.ensures.some c.if_text.ensures.none

pub returns-clause-came : goal.returns-clause-came
returns-clause-came g c = IfOk-weaker c.if_text-2.result _ _ (λ o some. came_outside _ _ _ o (c.in_ok-takes_byte.ensures.stays c.if-branch.false) some) c.if_text-2.ensures.some

pub returns-clause-only : goal.returns-clause-only
returns-clause-only g c =
    let never = c.in_ok-takes_byte.ensures.other c.if-branch.false in
    let stays = c.in_ok-takes_byte.ensures.stays c.if-branch.false in
    ok_both c.if_text-2.result _ _ _ (λ o some none.
    only_behind_o _ o (inr (never_longer _ (99 ∷ []) (codes "cluded") never))
    (found_from _ _ o Outside (codes "utside") stays (found_or_never _ _ o Outside (codes "utside") some none))) c.if_text-2.ensures.some c.if_text-2.ensures.none
