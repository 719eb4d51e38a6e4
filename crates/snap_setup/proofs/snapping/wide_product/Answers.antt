use Rattle.std.proofs.Common.{◌*ℤ◌, ◌^◌, ℕ, ℤ, pos, ◌≤◌, FitsSigned, w64, arith}
use Rattle.std.specs.Int.{w128}
use Rattle.std.proofs.lemmas.Int.{ints, to_z-of_z}
use Rattle.cull_base.specs.Bounds.{Bounded}
use Rattle.cull_base.proofs.Bounds.{bounded-mul}
use Rattle.snap_setup.proofs.snapping.wide_product.Goals as goal

-- a product of such numbers, and that each of the three fits 128 bits
record IsWide (a : ℕ) (b : ℤ) : Type 0 where
  small : Bounded (2 ^ 78) (pos a *ℤ b)
  first : FitsSigned w128 (pos a)
  second : FitsSigned w128 b
  whole : FitsSigned w128 (pos a *ℤ b)

wide : (a : ℕ) (b : ℤ) → a ≤ 2 ^ 15 → FitsSigned w64 b → IsWide a b
wide a b le f =
    let n = bounded-mul (2 ^ 15) (2 ^ 63) (pos a) b (omega (arith, ints), omega (arith, ints)) (omega (arith, ints), omega (arith, ints)) in
    record { small = n; first = omega (arith, ints); second = omega (arith, ints); whole = omega (arith, ints, n) }

pub returns-clause-value : goal.returns-clause-value
returns-clause-value c =
    let f : FitsSigned w64 c.args.b = c.ranges.b in let k = wide c.args.a c.args.b c.requires f in
    let fa = k.first in let fb = k.second in let fp = k.whole in
    rw (c.from.ensures, c.from-2.ensures) (simp to_z-of_z)

pub returns-clause-bounded : goal.returns-clause-bounded
returns-clause-bounded c =
    let f : FitsSigned w64 c.args.b = c.ranges.b in let k = wide c.args.a c.args.b c.requires f in
    let fa = k.first in let fb = k.second in let fp = k.whole in
    rw (c.from.ensures, c.from-2.ensures) (simp to_z-of_z k.small)
