use Rattle.std.proofs.Common.{◌≡◌, ◌≤◌, ℕ, ℤ, pos, negsuc, ◌+◌, ◌+ℤ◌, ◌*ℤ◌, ◌^◌, FitsSigned, w64, arith, rules, IsTrue, Bool, true}
use Rattle.std.specs.Int.{w128}
use Rattle.std.proofs.lemmas.Int.{ints, to_z-of_z}
use Rattle.cull_base.specs.Bounds.{Bounded}
use Rattle.cull_base.proofs.Bounds.{bounded-mul}
use Rattle.depth_plane.specs.Corner.{least_place}
use Rattle.depth_plane.specs.Plane.{coefficients, IsNarrow}
use Rattle.depth_plane.proofs.corner.narrow_first.Goals as goal

small_place : (n : ℤ) (h : ℕ) → h ≤ 112 → 8 + least_place n h ≤ 128
small_place (pos n) h le = omega arith
small_place (negsuc n) h le = omega (arith, le)

-- within 2 * 2^46 * 128 of the level
near_level : (a d l f : ℤ) (x y : ℕ) → Bounded (2 ^ 46) a → Bounded (2 ^ 46) d → Bounded (2 ^ 61) l → x ≤ 128 → y ≤ 128 → f ≡ (l +ℤ (a *ℤ pos x)) +ℤ (d *ℤ pos y) → Bounded (2 ^ 61 + 2 ^ 54) f
near_level a d l f x y ba bd bl hx hy ef =
    let p = bounded-mul (2 ^ 46) 128 a (pos x) ba (omega (arith, ints, hx), omega (arith, ints, hx)) in
    let q = bounded-mul (2 ^ 46) 128 d (pos y) bd (omega (arith, ints, hy), omega (arith, ints, hy)) in
    (omega (arith, ints, ef, bl, p, q), omega (arith, ints, ef, bl, p, q))

narrow : (a d l area f : ℤ) (x y : ℕ) → Bounded (2 ^ 46) a → Bounded (2 ^ 46) d → Bounded (2 ^ 61) l → f ≡ (l +ℤ (a *ℤ pos x)) +ℤ (d *ℤ pos y) →
    x ≡ 8 + least_place a 112 → y ≡ 8 + least_place d 48 → IsNarrow (coefficients a d l area) f
narrow a d l area f x y ba bd bl ef ex ey = record {
  across = ba;
  down = bd;
  value = rw (ef, ex, ey) (last_first l _ _);
  within = near_level a d l f x y ba bd bl (rw ex (small_place a 112 (omega arith))) (rw ey (small_place d 48 (omega arith))) ef;
}
  where
    last_first : (l p q : ℤ) → (l +ℤ p) +ℤ q ≡ (p +ℤ q) +ℤ l
    last_first l p q = omega (arith, ints)

told : (b : Bool) (n : ℕ) (v : ℤ) → (IsTrue b → Bounded n v) → b ≡ true → Bounded n v
told b n v h e = h e

pub narrow_numerator-requires-clause-first : goal.narrow_numerator-requires-clause-first
narrow_numerator-requires-clause-first c =
    let fl : FitsSigned w128 c.args.level = c.ranges.level in
    let bl = told c.is_small.result (2 ^ 61) c.args.level (simp to_z-of_z at c.is_small.ensures).0 c.if-is_small.true in
    let gl : FitsSigned w64 c.args.level = omega (arith, ints, bl) in
    simp to_z-of_z (omega (arith, ints, bl), omega (arith, ints, bl))

pub returns-then-is_small : goal.returns-then-is_small
returns-then-is_small c area =
    let fa : FitsSigned w64 c.args.across = c.ranges.across in let fd : FitsSigned w64 c.args.down = c.ranges.down in
    let fl : FitsSigned w128 c.args.level = c.ranges.level in let fn : FitsSigned w64 c.narrow_numerator.result = search rules in
    let ba = told c.is_gentle.result (2 ^ 46) c.args.across (simp to_z-of_z at c.is_gentle.ensures).0 c.if-is_gentle.true in
    let bd = told c.is_gentle-then-is_gentle.result (2 ^ 46) c.args.down (simp to_z-of_z at c.is_gentle-then-is_gentle.ensures).0 c.if-is_gentle-2.true in
    let bl = told c.is_small.result (2 ^ 61) c.args.level (simp to_z-of_z at c.is_small.ensures).0 c.if-is_small.true in
    let gl : FitsSigned w64 c.args.level = omega (arith, ints, bl) in
    simp to_z-of_z (narrow c.args.across c.args.down c.args.level area c.narrow_numerator.result c.place_along-x.result c.place_along-y.result ba bd bl
    (simp to_z-of_z at c.narrow_numerator.ensures.value) (simp to_z-of_z at c.place_along-x.ensures.value) (simp to_z-of_z at c.place_along-y.ensures.value))
