use Rattle.std.proofs.Common.{◌≡◌, ◌*ℤ◌, ◌+ℤ◌, ℤ, FitsSigned, w64, arith, rules, refl}
use Rattle.std.proofs.lemmas.Int.{ints, to_z-of_z}
use Rattle.near_clip.proofs.clip.weighted_sum.Goals as goal

summed : (p b q a x y : ℤ) → x ≡ p *ℤ b → y ≡ q *ℤ a → x +ℤ y ≡ (p *ℤ b) +ℤ (q *ℤ a)
summed p b q a x y ex ey = rw (ex, ey) refl

pub returns : goal.returns
returns c =
    let fp : FitsSigned w64 c.args.p = c.ranges.p in let fb : FitsSigned w64 c.args.b = c.ranges.b in
    let fq : FitsSigned w64 c.args.q = c.ranges.q in let fa : FitsSigned w64 c.args.a = c.ranges.a in
    let fx : FitsSigned w64 c.product.result = search rules in let fy : FitsSigned w64 c.product-2.result = search rules in
    let fs : FitsSigned w64 (c.product.result +ℤ c.product-2.result) = omega (arith, ints, c.product.ensures.bounded, c.product-2.ensures.bounded) in
    simp to_z-of_z (summed c.args.p c.args.b c.args.q c.args.a c.product.result c.product-2.result (simp to_z-of_z at c.product.ensures.value) (simp to_z-of_z at c.product-2.ensures.value))
