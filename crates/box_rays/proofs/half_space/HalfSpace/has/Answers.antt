use Rattle.std.proofs.Common.{rules, neg_ℤ, ◌*ℤ◌, FitsSigned, w64}
use Rattle.std.proofs.lemmas.Int.{to_z-of_z}
use Rattle.box_rays.proofs.Steps.{positive_is, positive_sum}
use Rattle.box_rays.proofs.half_space.HalfSpace.has.Goals as goal

pub returns : goal.returns
returns c =
    let self = c.args.self.now in let corner = c.args.corner.now in
    let sx : FitsSigned w64 self.across = search rules in let sy : FitsSigned w64 self.down = search rules in let sw : FitsSigned w64 self.w = search rules in
    let cx : FitsSigned w64 corner.across = search rules in let cy : FitsSigned w64 corner.down = search rules in let cw : FitsSigned w64 corner.w = search rules in
    let x : FitsSigned w64 c.least_product-across.result = search rules in let y : FitsSigned w64 c.least_product-down.result = search rules in
    let w : FitsSigned w64 c.least_product-w.result = search rules in let s : FitsSigned w64 c.sum.result = search rules in
    let across = simp to_z-of_z at c.least_product-across.ensures.least in let down = simp to_z-of_z at c.least_product-down.ensures.least in
    let far = simp to_z-of_z at c.least_product-w.ensures.least in let sum = simp to_z-of_z at c.sum.ensures in
    λ is step exact stands.
    let positive = positive_is c.sum.result (simp to_z-of_z at is) in
    positive_sum step c.least_product-across.result c.least_product-down.result c.least_product-w.result
    (self.across *ℤ exact.x) (self.down *ℤ neg_ℤ exact.y) (self.w *ℤ exact.w)
    stands.proper (rw sum at positive) (across step exact.x stands.across) (down step (neg_ℤ exact.y) stands.down) (far step exact.w stands.w)
