use Rattle.std.proofs.Common.{◌≡◌, ◌^◌, ◌*ℤ◌, ◌-ℤ◌, ℤ, FitsSigned, w64, rules, refl}
use Rattle.std.proofs.lemmas.Int.{to_z-of_z}
use Rattle.clip_lines.proofs.line.cross_part.Goals as goal

joined : (r p q a b c d : ℤ) → r ≡ p -ℤ q → p ≡ a *ℤ d → q ≡ b *ℤ c → r ≡ (a *ℤ d) -ℤ (b *ℤ c)
joined r p q a b c d er ep eq = rw (er, ep, eq) refl

pub returns-clause-value : goal.returns-clause-value
returns-clause-value c =
    let fa : FitsSigned w64 c.args.a = c.ranges.a in let fb : FitsSigned w64 c.args.b = c.ranges.b in
    let fc : FitsSigned w64 c.args.c = c.ranges.c in let fd : FitsSigned w64 c.args.d = c.ranges.d in
    let fm : FitsSigned w64 c.minus.result = search rules in
    let fp : FitsSigned w64 c.product.result = search rules in let fq : FitsSigned w64 c.product-2.result = search rules in
    simp to_z-of_z (joined c.minus.result c.product.result c.product-2.result c.args.a c.args.b c.args.c c.args.d
    (simp to_z-of_z at c.minus.ensures.value) (simp to_z-of_z at c.product.ensures.value) (simp to_z-of_z at c.product-2.ensures.value))

pub returns-clause-bounded : goal.returns-clause-bounded
returns-clause-bounded c =
    let fm : FitsSigned w64 c.minus.result = search rules in
    let fp : FitsSigned w64 c.product.result = search rules in let fq : FitsSigned w64 c.product-2.result = search rules in
    let within = simp to_z-of_z at (c.minus.ensures.bounded (2 ^ 60)) in
    simp to_z-of_z (within c.product.ensures.bounded c.product-2.ensures.bounded)
