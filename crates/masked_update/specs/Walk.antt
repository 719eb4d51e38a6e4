-- Tiles of a canvas of which those of a span change, row by row.
use Rattle.std.specs.Prelude.{ℕ, ◌≡◌, ◌-◌, ◌<◌, ◌&&◌, nat_eq, nat_le, Bool, true, cond}
use Rattle.std.specs.Int.{bit_at}
use Rattle.cull_base.specs.Piece.{Piece}
use Rattle.cull_base.specs.Screen.{Dimensions}
use Rattle.cull_base.specs.Span.{has_tile, has_column}
use Rattle.cull_base.specs.declared.place.Tile.{Tile}
use Rattle.cull_base.specs.declared.tile_span.TileSpan.{TileSpan}
use Rattle.masked_update.specs.TileOf.{TileOf}
use Rattle.masked_update.specs.Taken.{counted_tile, merged_tile}
use Rattle.masked_update.specs.Least.{NoneBelow}
use Rattle.masked_update.specs.Canvas.{CanvasOf, IsCanvas, tile_on}

-- the place stands in the row, in the columns of the span
abbrev pub is_in_row : TileSpan → ℕ → Tile → Bool
is_in_row span row place = nat_eq place.row row && has_column span place.column

-- the place stands in the row, and its bit is set: that of the column is bit 0, and those of the next ones follow
abbrev pub is_marked : ℕ → ℕ → ℕ → Tile → Bool
is_marked row column bits place =
    nat_eq place.row row && (nat_le column place.column && nat_eq (bit_at bits (place.column - column)) 1)

-- the span's rows before one
abbrev pub rows_before : TileSpan → ℕ → TileSpan
rows_before span row = record { first_row = span.first_row; end_row = row; first_column = span.first_column; end_column = span.end_column }

-- what holds of the tile at each place of the window where the test holds
abbrev pub HoldsWhere : (Tile → Bool) → (TileOf → Type 0) → CanvasOf → Type 0
HoldsWhere test Holds c = (p : Tile) → has_tile c.window p ≡ true → test p ≡ true → Holds (tile_on c p)

abbrev pub MayCount : (Tile → Bool) → CanvasOf → Type 0
MayCount test c = HoldsWhere test (λ t. t.count < 131072) c

abbrev pub NoneBelowWhere : ℕ → (Tile → Bool) → CanvasOf → Type 0
NoneBelowWhere nearest test c = HoldsWhere test (NoneBelow nearest) c

-- the piece, merged into the tiles at the places where the test holds, would change none
abbrev pub StayWhere : (Tile → Bool) → Dimensions → Piece → CanvasOf → Type 0
StayWhere test size x c = (p : Tile) → has_tile c.window p ≡ true → test p ≡ true → merged_tile size p x (tile_on c p) ≡ tile_on c p

-- the window stays, each tile where the test holds changes by f of its place, and the others stay
pub record ChangedWhere (test : Tile → Bool) (f : Tile → TileOf → TileOf) (old new : CanvasOf) : Type 0 where
  pub window : new.window ≡ old.window
  pub whole : IsCanvas new
  pub tiles : (p : Tile) → has_tile old.window p ≡ true
      → tile_on new p ≡ cond (test p) (f p (tile_on old p)) (tile_on old p)

abbrev pub CountedWhere : (Tile → Bool) → CanvasOf → CanvasOf → Type 0
CountedWhere test old new = ChangedWhere test (λ p t. counted_tile t) old new

abbrev pub MergedWhere : (Tile → Bool) → Dimensions → Piece → CanvasOf → CanvasOf → Type 0
MergedWhere test size x old new = ChangedWhere test (λ p t. merged_tile size p x t) old new
