-- Tiles with a table of the least reference of each, which tells where a piece changes nothing.
use Rattle.std.specs.Prelude.{ℕ, ◌≡◌, ◌+◌, ◌<◌, ◌≤◌, List, length, slice_index_or}
use Rattle.masked_update.specs.TileOf.{TileOf, sub_at, tile_at}

-- no reference of the tile is below the nearness, so a piece that is nowhere nearer changes no subtile
pub record NoneBelow (nearest : ℕ) (t : TileOf) : Type 0 where
  pub eight : length t.subs ≡ 8
  pub behind : (j : ℕ) → j < 8 → nearest ≤ (sub_at t j).reference

-- Each number of the table is at most each reference of its tile. Eight more follow, so that eight can be read from each
-- tile on.
pub record IsLeast (tiles : List TileOf) (table : List ℕ) : Type 0 where
  pub whole : length table ≡ length tiles + 8
  pub eight : (t : ℕ) → t < length tiles → length (tile_at tiles t).subs ≡ 8
  pub least : (t j : ℕ) → t < length tiles → j < 8 → slice_index_or table t 0 ≤ (sub_at (tile_at tiles t) j).reference
