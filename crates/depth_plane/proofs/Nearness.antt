-- How far nearness goes.
use Rattle.std.proofs.Common.{◌≡◌, ℕ, ℤ, pos, ◌^◌, ◌≤◌, ◌<◌, arith}
use Rattle.std.proofs.lemmas.Int.{ints}
use Rattle.cull_base.specs.Bounds.{Bounded}
use Rattle.cull_base.specs.declared.nearness.TheConstants.{HELD_TOP}

-- nearness has 24 bits
held_top-lt : HELD_TOP < 2 ^ 24
held_top-lt = omega arith

pub nearness-bounded : (q : ℕ) (r : ℤ) → r ≡ pos q → q ≤ HELD_TOP → Bounded (2 ^ 24) r
nearness-bounded q r e h = let top = held_top-lt in (omega (arith, ints, e, h, top), omega (arith, ints, e, h, top))
