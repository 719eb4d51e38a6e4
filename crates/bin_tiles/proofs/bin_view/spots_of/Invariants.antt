use Rattle.std.proofs.Common.{◌≡◌, ℕ, ◌<◌, ◌≤◌, length, get_or, vec_capacity}
use Rattle.bin_tiles.specs.BinViews.{spot_of}
use Rattle.bin_tiles.specs.declared.bin_view.Spot.{Spot}
use Rattle.bin_tiles.proofs.bin_view.spots_of.Given as goal

abbrev pub invariant-loop-tile : goal.invariant-loop-tile
invariant-loop-tile l =
    record {
      made : length l.spots.items ≡ l.tile;
      each : (t : ℕ) (d : Spot) → t < l.tile → get_or l.spots.items t d ≡ spot_of l.size l.cut t;
      room : l.count ≤ vec_capacity l.spots;
    }
