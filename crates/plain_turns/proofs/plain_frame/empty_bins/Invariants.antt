use Rattle.std.proofs.Common.{◌≡◌, ℕ, ◌<◌, ◌≤◌, length, get_or, vec_capacity}
use Rattle.masked_update.specs.Canvas.{CanvasOf}
use Rattle.bin_tiles.specs.Bins.{IsBinAt}
use Rattle.bin_tiles.specs.Plain.{StandsPlain}
use Rattle.plain_turns.proofs.plain_frame.empty_bins.Given as goal

abbrev pub invariant-loop-bin : goal.invariant-loop-bin
invariant-loop-bin l =
    record {
      made : length l.bins.items ≡ l.bin;
      each : (i : ℕ) (d : CanvasOf) → i < l.bin → IsBinAt StandsPlain (tt {0}) l.list.list l.cut 0 i (get_or l.bins.items i d);
      room : l.count ≤ vec_capacity l.bins;
    }
