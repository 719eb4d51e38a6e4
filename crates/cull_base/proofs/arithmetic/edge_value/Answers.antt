use Rattle.std.proofs.Common.{◌≡◌, ◌^◌, ◌*ℤ◌, ◌-ℤ◌, ℤ, FitsSigned, w64, rules, w32, refl}
use Rattle.std.proofs.lemmas.Int.{to_z-of_z}
use Rattle.cull_base.specs.Piece.{Point, edge_value}
use Rattle.cull_base.proofs.arithmetic.edge_value.Goals as goal

abbrev at : ℤ → ℤ → Point
at x y = record { x = x; y = y }

joined : (r p q a b c d ax ay bx by px py : ℤ) → r ≡ p -ℤ q → p ≡ a *ℤ b → q ≡ c *ℤ d → a ≡ bx -ℤ ax → b ≡ py -ℤ ay → c ≡ by -ℤ ay → d ≡ px -ℤ ax → r ≡ edge_value (at ax ay) (at bx by) (at px py)
joined r p q a b c d ax ay bx by px py er ep eq ea eb ec ed = rw (er, ep, eq, ea, eb, ec, ed) refl

pub returns-clause-value : goal.returns-clause-value
returns-clause-value c =
    let fax : FitsSigned w32 c.args.ax = c.ranges.ax in let fay : FitsSigned w32 c.args.ay = c.ranges.ay in
    let fbx : FitsSigned w32 c.args.bx = c.ranges.bx in let fby : FitsSigned w32 c.args.by = c.ranges.by in
    let fcx : FitsSigned w32 c.args.px = c.ranges.px in let fcy : FitsSigned w32 c.args.py = c.ranges.py in
    let fm : FitsSigned w64 c.minus.result = search rules in
    let fp : FitsSigned w64 c.product.result = search rules in let fq : FitsSigned w64 c.product-2.result = search rules in
    let fa : FitsSigned w64 c.difference.result = search rules in let fb : FitsSigned w64 c.difference-2.result = search rules in
    let fc : FitsSigned w64 c.difference-3.result = search rules in let fd : FitsSigned w64 c.difference-4.result = search rules in
    simp to_z-of_z (joined c.minus.result c.product.result c.product-2.result c.difference.result c.difference-2.result c.difference-3.result c.difference-4.result
    c.args.ax c.args.ay c.args.bx c.args.by c.args.px c.args.py
    (simp to_z-of_z at c.minus.ensures.value) (simp to_z-of_z at c.product.ensures.value) (simp to_z-of_z at c.product-2.ensures.value)
    (simp to_z-of_z at c.difference.ensures.value) (simp to_z-of_z at c.difference-2.ensures.value) (simp to_z-of_z at c.difference-3.ensures.value) (simp to_z-of_z at c.difference-4.ensures.value))

pub returns-clause-bounded : goal.returns-clause-bounded
returns-clause-bounded c =
    let fm : FitsSigned w64 c.minus.result = search rules in
    let fp : FitsSigned w64 c.product.result = search rules in let fq : FitsSigned w64 c.product-2.result = search rules in
    let within = simp to_z-of_z at (c.minus.ensures.bounded (2 ^ 60)) in
    simp to_z-of_z (within c.product.ensures.bounded c.product-2.ensures.bounded)
