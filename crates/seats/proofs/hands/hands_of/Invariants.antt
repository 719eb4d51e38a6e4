use Rattle.std.proofs.Common.{◌≡◌, ◌+◌, ◌≤◌, vec_len, vec_capacity}
use Rattle.seats.proofs.hands.hands_of.Given as goal

abbrev pub invariant-loop-i : goal.invariant-loop-i
invariant-loop-i g l = (l.own.parts + l._i ≡ l.workers + 1) × (l.own.amount ≡ 0) × (vec_len l.hands ≡ l._i) × (l.workers ≤ vec_capacity l.hands)
