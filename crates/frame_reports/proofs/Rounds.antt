-- Rounds of frames, a frame for each worker in each.
use Rattle.std.proofs.Common.{ℕ, ◌+◌, ◌*◌, ◌≤◌, arith}
use Rattle.std.proofs.lemmas.Nat.{mul-le}

-- some rounds, and then so many more
pub part_within : (done more rounds size : ℕ) → done + more ≤ rounds → done * size + more * size ≤ rounds * size
part_within done more rounds size le = omega (arith, mul-le (done + more) size rounds size le (omega arith))
