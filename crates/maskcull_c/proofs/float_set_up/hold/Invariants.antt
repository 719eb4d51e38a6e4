use Rattle.std.proofs.Common.{ℕ, ◌<◌, IfSome}
use Rattle.maskcull_c.specs.Lenses.{IsPoint, held_in, scratch_at}
use Rattle.maskcull_c.proofs.float_set_up.hold.Given as goal

abbrev pub invariant-loop-k : goal.invariant-loop-k
invariant-loop-k l = (j : ℕ) → j < l.k → IfSome (held_in (scratch_at l.scratch j)) (IsPoint l.lens l.positions j)
