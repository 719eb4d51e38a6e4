use Rattle.std.proofs.Common.{codes}
use Rattle.std.proofs.lemmas.Result.{IfOk-weaker}
use Rattle.cull_base.specs.declared.scene_types.Verdict.TheVariants.{Visible}
use Rattle.live_check.proofs.ByBytes.{came_behind_o, came_visible, found_from, found_or_never, ok_both, word_behind_o, word_without_o}
use Rattle.live_check.proofs.words.take_verdict.Goals as goal

pub returns-then-branch-clause-came : goal.returns-then-branch-clause-came
returns-then-branch-clause-came g c = IfOk-weaker c.take_behind_o.result _ _ (λ o behind. came_behind_o _ _ _ o (c.in_ok-takes_byte.ensures.came c.if-branch.true) behind) c.take_behind_o.ensures.came

pub returns-then-branch-clause-only : goal.returns-then-branch-clause-only
returns-then-branch-clause-only g c =
    let came = c.in_ok-takes_byte.ensures.came c.if-branch.true in
    IfOk-weaker c.take_behind_o.result _ _ (λ o only. word_behind_o _ _ o came only) c.take_behind_o.ensures.only

pub returns-clause-came : goal.returns-clause-came
returns-clause-came g c = IfOk-weaker c.if_text.result _ _ (λ o some. came_visible _ _ _ o (c.in_ok-takes_byte.ensures.stays c.if-branch.false) some) c.if_text.ensures.some

pub returns-clause-only : goal.returns-clause-only
returns-clause-only g c =
    let never = c.in_ok-takes_byte.ensures.other c.if-branch.false in
    let stays = c.in_ok-takes_byte.ensures.stays c.if-branch.false in
    ok_both c.if_text.result _ _ _ (λ o some none.
    word_without_o _ o never (found_from _ _ o Visible (codes "visible") stays (found_or_never _ _ o Visible (codes "visible") some none))) c.if_text.ensures.some c.if_text.ensures.none
