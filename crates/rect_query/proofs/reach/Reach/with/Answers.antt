use Rattle.std.proofs.Common.{FitsSigned, w64, rules, refl}
use Rattle.std.proofs.lemmas.Int.{to_z-of_z}
use Rattle.rect_query.proofs.Reaching.{limits_is}
use Rattle.rect_query.proofs.reach.Reach.with.Goals as goal

pub returns : goal.returns
returns c =
    let v = c.args.v.now in
    let fx : FitsSigned w64 v.x = search rules in let fy : FitsSigned w64 v.y = search rules in let fw : FitsSigned w64 v.w = search rules in
    let x = limits_is c.with.result _ _ (simp to_z-of_z at c.with.ensures.least) (simp to_z-of_z at c.with.ensures.greatest) in
    let y = limits_is c.with-2.result _ _ (simp to_z-of_z at c.with-2.ensures.least) (simp to_z-of_z at c.with-2.ensures.greatest) in
    let w = limits_is c.with-3.result _ _ (simp to_z-of_z at c.with-3.ensures.least) (simp to_z-of_z at c.with-3.ensures.greatest) in
    rw (x, y, w) refl
