-- A piece merged into the subtiles of a tile.
use Rattle.std.specs.Prelude.{ℕ, pos, ◌≡◌, ◌+◌, ◌-◌, ◌*◌, ◌<◌, ◌≤◌, Bool, true, List, map, min, cond, slice_index_or}
use Rattle.std.specs.List.{range_with_len}
use Rattle.cull_base.specs.Screen.{Dimensions, is_on_screen}
use Rattle.cull_base.specs.Piece.{Piece, covered}
use Rattle.cull_base.specs.Rectangle.{meets}
use Rattle.cull_base.specs.declared.rect.Rect.{Rect}
use Rattle.cull_base.specs.declared.place.Sub.{Sub}
use Rattle.cull_base.specs.declared.place.Tile.{Tile}
use Rattle.cull_base.specs.State.{State, empty_state, no_samples}
use Rattle.cull_base.specs.Fold.{step}
use Rattle.edge_lanes.specs.Inside.{sub_of}
use Rattle.edge_lanes.specs.Crossings.{inside_view}
use Rattle.edge_lanes.specs.declared.row_edges.EdgesView.{EdgesView}
use Rattle.edge_lanes.specs.declared.tile_row.TileRow.{TileRow}
use Rattle.masked_update.specs.Grid.{is_in_rows}
use Rattle.masked_update.specs.declared.sub_span.SubBox.{SubBox}
use Rattle.masked_update.specs.declared.sub_span.SubSpan.{SubSpan}

-- the pixels of a subtile
abbrev pub sub_rect_of : Sub → Rect
sub_rect_of u = record { x0 = pos (8 * u.column); y0 = pos (4 * u.row); x1 = pos (8 * u.column + 8); y1 = pos (4 * u.row + 4) }

-- subtile j of a tile after a piece: it is merged where the subtile is on the screen, and the others stay
abbrev pub merged_at : Dimensions → Tile → Piece → List State → ℕ → State
merged_at size place x subs j =
    let u = sub_of place j in
    let s = slice_index_or subs j empty_state in
    cond (is_on_screen size u) (step u s x) s

unfoldable pub merged_by : Dimensions → Tile → Piece → List State → List State
merged_by size place x subs = map (merged_at size place x subs) (range_with_len 0 8)

-- the edges are the piece's
abbrev pub AreEdgesOf : EdgesView → Piece → Type 0
AreEdgesOf edges x = (u : Sub) → u.column < 256 → u.row < 512 → inside_view edges u ≡ covered x u

-- the edges over a row of tiles are the piece's
pub record AreRowOf (over : TileRow) (row : ℕ) (x : Piece) : Type 0 where
  pub row_is : over.row ≡ row
  pub covers : (u : Sub) → u.column < 256 → u.row < 512 → inside_view over.edges u ≡ covered x u

-- the piece covers no sample of the tile
abbrev pub CoversNone : Piece → Tile → Type 0
CoversNone x place = (j : ℕ) → j < 8 → covered x (sub_of place j) ≡ no_samples

-- subtile j of a tile stands in the span
abbrev pub has_sub : SubSpan → ℕ → Bool
has_sub span j = is_in_rows 4 span.first_row span.end_row span.first_column span.end_column j

-- The span's subtiles are on the screen, and among them are those on the screen that share a pixel with a rectangle.
pub record IsSubSpan (r : Rect) (size : Dimensions) (place : Tile) (span : SubSpan) : Type 0 where
  pub columns : span.first_column ≤ span.end_column
  pub rows : span.first_row ≤ span.end_row
  pub columns_within : span.end_column ≤ 4
  pub rows_within : span.end_row ≤ 2
  pub on_screen : (j : ℕ) → has_sub span j ≡ true → is_on_screen size (sub_of place j) ≡ true
  pub reached : (j : ℕ) → j < 8 → is_on_screen size (sub_of place j) ≡ true → meets r (sub_rect_of (sub_of place j)) ≡ true → has_sub span j ≡ true

-- the subtiles of a tile that are among those of the screen
abbrev pub span_at : SubBox → Tile → SubSpan
span_at b place = record {
  first_column = min (b.first_column - 4 * place.column) 4;
  end_column = min (b.end_column - 4 * place.column) 4;
  first_row = min (b.first_row - 2 * place.row) 2;
  end_row = min (b.end_row - 2 * place.row) 2;
}

-- in each tile the subtiles are those on the screen that may share a pixel with a rectangle
abbrev pub IsSubBox : Rect → SubBox → Type 0
IsSubBox r b = (place : Tile) → IsSubSpan r b.size place (span_at b place)
