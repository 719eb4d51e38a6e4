use Rattle.std.proofs.Common.{◌≡◌, ◌+◌, vec_len}
use Rattle.std.specs.Vec.Iter.{into_iter_len}
use Rattle.seats.proofs.hands.merge_all.Given as goal

abbrev pub invariant-loop-hand : goal.invariant-loop-hand
invariant-loop-hand g l =
    (goal.iterator-loop-hand g).can_next l.hand-iterator × (goal.iterator-loop-hand g).is_finite l.hand-iterator × (l.own.parts + into_iter_len l.hand-iterator ≡ l.fn.own.parts + vec_len l.fn.hands) × (l.own.amount ≡ 0)
