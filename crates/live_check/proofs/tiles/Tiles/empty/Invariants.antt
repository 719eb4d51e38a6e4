use Rattle.std.proofs.Common.{◌≡◌, ℕ, ◌<◌}
use Rattle.std.specs.Prelude.{slice_index}
use Rattle.masked_update.specs.TileOf.{empty_tile, tile_at}
use Rattle.live_check.specs.Standing.{AreWhole}
use Rattle.live_check.proofs.tiles.Tiles.empty.Given as goal

abbrev pub invariant-loop-tile : goal.invariant-loop-tile
invariant-loop-tile l = record {
  size : l.self.size ≡ l.fn.self.size;
  whole : AreWhole l.self;
  states : (t : ℕ) → t < l.tile → tile_at l.self.states t ≡ empty_tile;
  behind : (t : ℕ) → t < l.tile → slice_index l.self.behind t ≡ 0;
}
