use Rattle.std.proofs.Common.{◌≡◌, ℕ, ℤ, pos, nat_abs, ◌<◌, ◌^◌, ◌+◌, ◌/◌, ◌≤ℤ◌, ◌<ℤ◌, min, true, false, int_lt, rules, arith, to_z, FitsSigned, w64}
use Rattle.std.proofs.lemmas.Int.{ints, to_z-of_z}
use Rattle.cull_base.specs.declared.nearness.TheConstants.{HELD_TOP}
use Rattle.depth_plane.proofs.Rises.{by_sizes, less_than_size}
use Rattle.depth_plane.proofs.small_plane.raised_floor.Goals as goal

-- what the test says
less : (x : ℤ) (d : ℕ) → d < 2 ^ 31 → int_lt x (to_z w64 d) ≡ true → x <ℤ pos d
less x d small h = let l : x <ℤ to_z w64 d = grind (arith, ints, h) in omega (arith, ints, l, small)

no_less : (x : ℤ) (d : ℕ) → d < 2 ^ 31 → int_lt x (to_z w64 d) ≡ false → pos d ≤ℤ x
no_less x d small h = let l : to_z w64 d ≤ℤ x = grind (arith, ints, h) in omega (arith, ints, l, small)

-- the sum as it is computed
summed : (m a t q d z : ℕ) (r : ℤ) → m ≡ min (a + nat_abs r / d) t → a ≡ q → t ≡ HELD_TOP → min (q + nat_abs r / d) HELD_TOP ≡ z → m ≡ z
summed m a t q d z r em ea et h = rw (em, ea, et) h

pub returns-then-rise-area-clause-value : goal.returns-then-rise-area-clause-value
returns-then-rise-area-clause-value c =
    let fn : FitsSigned w64 c.args.numerator = c.ranges.numerator in
    let fr : FitsSigned w64 c.rise_above-rise.result = search rules in
    less_than_size c.args.numerator c.rise_above-rise.result c.args.nearness c.args.area c.requires.positive c.requires.nearness
    (simp to_z-of_z at c.rise_above-rise.ensures) (less c.rise_above-rise.result c.args.area c.requires.small (simp to_z-of_z at c.if-rise-area.true))

pub returns-else-rise-area-clause-value : goal.returns-else-rise-area-clause-value
returns-else-rise-area-clause-value c =
    let fn : FitsSigned w64 c.args.numerator = c.ranges.numerator in
    let fr : FitsSigned w64 c.rise_above-rise.result = search rules in
    summed c.min.result c.from.result c.from-else-rise-area.result c.args.nearness c.args.area _ c.rise_above-rise.result (simp to_z-of_z at c.min.ensures) c.from.ensures c.from-else-rise-area.ensures
    (by_sizes c.args.numerator c.rise_above-rise.result c.args.nearness c.args.area c.requires.positive
    (simp to_z-of_z at c.rise_above-rise.ensures) (no_less c.rise_above-rise.result c.args.area c.requires.small (simp to_z-of_z at c.if-rise-area.false)))
