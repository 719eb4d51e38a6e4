use Rattle.std.proofs.Common.{◌≡◌, ℕ, ◌<◌, ◌≤◌, [], length, get_or, vec_capacity}
use Rattle.tile_queues.specs.declared.share.Share.{Share}
use Rattle.tile_queues.proofs.share.empty_shares.Given as goal

abbrev pub invariant-loop : goal.invariant-loop
invariant-loop l =
    record {
      made : length l.shares.items ≡ l.counter;
      none : (w : ℕ) (s : Share) → w < l.counter → (get_or l.shares.items w s).tasks.items ≡ [];
      room : l.workers ≤ vec_capacity l.shares;
    }
