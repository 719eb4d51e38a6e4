use Rattle.std.proofs.Common.{◌≡◌, ℤ, ◌+ℤ◌, ◌*ℤ◌, FitsSigned, w64, rules, refl}
use Rattle.std.specs.Int.{w128}
use Rattle.std.proofs.lemmas.Int.{to_z-of_z}
use Rattle.clip_lines.proofs.plane.product_of.Goals as goal

joined : (r p q s a b c d e f : ℤ) → r ≡ (p +ℤ q) +ℤ s → p ≡ a *ℤ b → q ≡ c *ℤ d → s ≡ e *ℤ f → r ≡ ((a *ℤ b) +ℤ (c *ℤ d)) +ℤ (e *ℤ f)
joined r p q s a b c d e f er ep eq es = rw (er, ep, eq, es) refl

pub returns-clause-value : goal.returns-clause-value
returns-clause-value c =
    let p = c.args.p.now in let l = c.args.l.now in
    let px : FitsSigned w64 p.x = search rules in let py : FitsSigned w64 p.y = search rules in let pw : FitsSigned w64 p.w = search rules in
    let lx : FitsSigned w64 l.x = search rules in let ly : FitsSigned w64 l.y = search rules in let lw : FitsSigned w64 l.w = search rules in
    let fx : FitsSigned w128 c.wide_product.result = search rules in let fy : FitsSigned w128 c.wide_product-2.result = search rules in let fw : FitsSigned w128 c.wide_product-3.result = search rules in
    let fr : FitsSigned w128 c.wide_sum.result = search rules in
    simp to_z-of_z (joined c.wide_sum.result c.wide_product.result c.wide_product-2.result c.wide_product-3.result l.x p.x l.y p.y l.w p.w
    (simp to_z-of_z at c.wide_sum.ensures.value) (simp to_z-of_z at c.wide_product.ensures.value) (simp to_z-of_z at c.wide_product-2.ensures.value) (simp to_z-of_z at c.wide_product-3.ensures.value))
