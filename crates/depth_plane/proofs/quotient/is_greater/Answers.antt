use Rattle.std.proofs.Common.{◌≡◌, ℕ, ℤ, pos, ◌*◌, ◌<◌, ◌*ℤ◌, ◌<ℤ◌, rules, arith, FitsSigned, IsTrue, Bool, true, false, nat_lt, of_z, to_z, ap, sym, ◌∙◌}
use Rattle.std.specs.Int.{w128}
use lib.Signed.{lt_z}
use lib.Dec.{T}
use Rattle.std.proofs.lemmas.Int.{ints, to_z-of_z}
use Rattle.depth_plane.proofs.Fractions.{same_quotient, floors_differ}
use Rattle.depth_plane.proofs.quotient.is_greater.Goals as goal

tested : (x y : ℤ) (P : Type 0) → (y <ℤ x → P) × (P → y <ℤ x) → (IsTrue (lt_z y x) → P) × (P → IsTrue (lt_z y x))
tested x y P h = (λ t. h.0 (record { lt = into (lt_z y x) t }), λ p. out (lt_z y x) (h.1 p).lt)
  where
    into : (b : Bool) → IsTrue b → T b
    into true t = tt
    into false t = search rules

    out : (b : Bool) → T b → IsTrue b
    out true t = search rules
    out false t = absurd t

-- the same of natural numbers
counted : (x y : ℕ) (P : Type 0) → (pos y <ℤ pos x → P) × (P → pos y <ℤ pos x) → (IsTrue (nat_lt y x) → P) × (P → IsTrue (nat_lt y x))
counted x y P h = (λ t. h.0 (let l : y < x = grind (arith, t) in omega (arith, ints, l)), λ p. let l = h.1 p in let k : y < x = omega (arith, ints, l) in grind (arith, k))

equal : (x y : ℤ) → FitsSigned w128 x → FitsSigned w128 y → of_z w128 x ≡ of_z w128 y → x ≡ y
equal x y f g e = sym (to_z-of_z w128 x f) ∙ ap (to_z w128) e ∙ to_z-of_z w128 y g

times : (p r d : ℕ) → p ≡ r * d → pos p ≡ pos r *ℤ pos d
times p r d e = ap pos e

pub returns-then-whole-other_whole : goal.returns-then-whole-other_whole
returns-then-whole-other_whole c =
    let fn : FitsSigned w128 c.args.numerator = c.ranges.numerator in let fm : FitsSigned w128 c.args.other = c.ranges.other in
    let fw : FitsSigned w128 c.wide_floor-whole.result = search rules in let fv : FitsSigned w128 c.wide_floor-other_whole.result = search rules in
    let r = c.remainder-left.result in let s = c.remainder-other_left.result in
    counted c.product.result c.product-then-whole-other_whole.result _
    (same_quotient c.args.numerator c.args.other c.wide_floor-whole.result c.wide_floor-other_whole.result (pos c.args.area.now) (pos c.args.other_area.now) (pos r) (pos s) (pos c.product.result) (pos c.product-then-whole-other_whole.result)
    (equal c.wide_floor-whole.result c.wide_floor-other_whole.result fw fv c.if-whole-other_whole.true)
    (simp to_z-of_z at c.remainder-left.ensures) (simp to_z-of_z at c.remainder-other_left.ensures) (times _ r c.args.other_area.now c.product.ensures) (times _ s c.args.area.now c.product-then-whole-other_whole.ensures))

pub returns-else-whole-other_whole : goal.returns-else-whole-other_whole
returns-else-whole-other_whole c =
    let fn : FitsSigned w128 c.args.numerator = c.ranges.numerator in let fm : FitsSigned w128 c.args.other = c.ranges.other in
    let fw : FitsSigned w128 c.wide_floor-whole.result = search rules in let fv : FitsSigned w128 c.wide_floor-other_whole.result = search rules in
    let d = c.args.area.now in let e = c.args.other_area.now in
    let hd : pos 0 <ℤ pos d = omega (arith, ints, c.wide_floor-whole.ensures.positive) in let he : pos 0 <ℤ pos e = omega (arith, ints, c.wide_floor-other_whole.ensures.positive) in
    simp to_z-of_z (tested c.wide_floor-whole.result c.wide_floor-other_whole.result _
    (floors_differ c.args.numerator c.args.other c.wide_floor-whole.result c.wide_floor-other_whole.result (pos d) (pos e) hd he
    (simp to_z-of_z at c.wide_floor-whole.ensures.value) (simp to_z-of_z at c.wide_floor-other_whole.ensures.value)
    (λ e. c.if-whole-other_whole.false (ap (of_z w128) e))))
