use Rattle.std.proofs.Common.{◌≡◌, false, arith, ◌∙◌, sym}
use Rattle.near_clip.specs.NearPart.{corner, is_in_front}
use Rattle.near_clip.proofs.Guarded.{guarded}
use Rattle.near_clip.proofs.Reaches.{near_part_reaches, near_part-empty, near_part-outside, all_corners}
use Rattle.near_clip.proofs.clip.clip_near.Goals as goal

pub returns-clause-reach : goal.returns-clause-reach
returns-clause-reach c =
    let v0 = corner c.args.tri.now 0 in let v1 = corner c.args.tri.now 1 in let v2 = corner c.args.tri.now 2 in
    let n = c.args.near in
    let ok = c.requires.guarded in
    let g0 = guarded v0 n (ok 0 _ (omega (arith, c.told-tri))) in
    let g1 = guarded v1 n (ok 1 _ (omega (arith, c.told-tri))) in
    let g2 = guarded v2 n (ok 2 _ (omega (arith, c.told-tri))) in
    rw c.part.ensures (near_part_reaches v0 v1 v2 n c.requires.near_most g0 g1 g2)

pub returns-clause-empty : goal.returns-clause-empty
returns-clause-empty c =
    let v0 = corner c.args.tri.now 0 in let v1 = corner c.args.tri.now 1 in let v2 = corner c.args.tri.now 2 in
    let n = c.args.near in (
      λ e. let (a, b, d) = near_part-empty v0 v1 v2 n (sym c.part.ensures ∙ e) in all_corners (λ v. is_in_front v n ≡ false) c.args.tri.now c.told-tri a b d,
      λ h. c.part.ensures ∙ near_part-outside v0 v1 v2 n (h 0 _ (omega (arith, c.told-tri))) (h 1 _ (omega (arith, c.told-tri))) (h 2 _ (omega (arith, c.told-tri))),
    )
