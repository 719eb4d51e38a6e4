use Rattle.std.proofs.Common.{◌≡◌, ◌*◌, ◌<◌, ℕ, get_or, pos, length}
use Rattle.scene_reader.specs.Fault.{signed_at}
use Rattle.scene_reader.proofs.numbers.row_of.Given as goal

abbrev pub invariant-loop-k : goal.invariant-loop-k
invariant-loop-k g l =
    record {
      len : length l.row ≡ g.row.N;
      read : (k : ℕ) → k < l.k → get_or l.row k (pos 0) ≡ signed_at (4 * k) l.bytes;
    }
