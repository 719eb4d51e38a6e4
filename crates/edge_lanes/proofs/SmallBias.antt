-- The bias of an occluder's edge between points that lie near each other.
use Rattle.std.proofs.Common.{◌≡◌, ℤ, pos, negsuc, neg_ℤ, ◌+◌, ◌^◌, ◌+ℤ◌, ◌-ℤ◌, ◌*ℤ◌, ◌<ℤ◌, ◌≤ℤ◌, true, false, int_lt, arith}
use Rattle.std.specs.Int.{int_div_euclid}
use Rattle.std.proofs.lemmas.Int.{ints, by_lt_z}
use Rattle.cull_base.specs.Bounds.{Bounded}
use Rattle.cull_base.specs.Piece.{is_top_or_left, point}
use Rattle.cull_base.specs.declared.triangle.Side.TheVariants.{Occluder}
use Rattle.edge_lanes.specs.Lanes.{bias_of}
use Rattle.edge_lanes.proofs.Floors.{floor_is}

int_lt-true : (x y : ℤ) → x <ℤ y → int_lt x y ≡ true
int_lt-true x y h = grind (arith, ints)

int_lt-false : (x y : ℤ) → y ≤ℤ x → int_lt x y ≡ false
int_lt-false x y h = grind (arith, ints)

-- the sign of a number
none : (v : ℤ) → pos 0 ≤ℤ v → v <ℤ pos (2 ^ 31) → int_div_euclid v (pos (2 ^ 31)) ≡ pos 0
none v a b = floor_is v (pos 0) (2 ^ 31) (omega arith) (omega (arith, ints)) (omega (arith, ints))

one : (v : ℤ) → v <ℤ pos 0 → neg_ℤ (pos (2 ^ 31)) ≤ℤ v → int_div_euclid v (pos (2 ^ 31)) ≡ negsuc 0
one v a b = floor_is v (negsuc 0) (2 ^ 31) (omega arith) (omega (arith, ints)) (omega (arith, ints))

-- a row outweighs all columns
pub bias_by_sign : (ax ay bx by v : ℤ) → Bounded (2 ^ 10) (bx -ℤ ax) → Bounded (2 ^ 10) (by -ℤ ay) → v ≡ ((bx -ℤ ax) +ℤ ((ay -ℤ by) *ℤ pos 2048)) -ℤ pos 1
    → int_div_euclid v (pos (2 ^ 31)) ≡ bias_of Occluder (is_top_or_left (point ax ay) (point bx by))
bias_by_sign ax ay bx by v across down e =
    by_lt_z by ay
    (λ l. let p = int_lt-true by ay l in let s = none v (omega (arith, ints)) (omega (arith, ints)) in rw p s)
    (λ g. by_lt_z ay by
    (λ l. let p = int_lt-true ay by l in let q = int_lt-false by ay g in let s = one v (omega (arith, ints)) (omega (arith, ints)) in rw (p, q) s)
    (λ h. let p = int_lt-false ay by h in let q = int_lt-false by ay g in
    by_lt_z ax bx
    (λ l. let r = int_lt-true ax bx l in let s = none v (omega (arith, ints)) (omega (arith, ints)) in rw (p, q, r) s)
    (λ m. let r = int_lt-false ax bx m in let s = one v (omega (arith, ints)) (omega (arith, ints)) in rw (p, q, r) s)))
