-- What the edges over a row of tiles say of a piece.
use Rattle.std.proofs.Common.{◌≡◌, ℕ, ◌+◌, ◌<◌, arith, ap, ◌∙◌, sym, subst}
use Rattle.std.specs.Int.{bit_at}
use Rattle.cull_base.specs.Piece.{Piece, covered}
use Rattle.edge_lanes.specs.Crossings.{inside_view}
use Rattle.edge_lanes.specs.Inside.{sub_of}
use Rattle.edge_lanes.specs.Rows.{AreAhead, inside_in}
use Rattle.edge_lanes.specs.declared.row_edges.EdgesView.{EdgesView}
use Rattle.edge_lanes.specs.declared.tile_row.TileRow.{TileRow}
use Rattle.masked_update.specs.Merged.{AreEdgesOf, AreRowOf, CoversNone}
use Rattle.masked_update.proofs.Tiles.{tile_with}

-- the samples inside of a subtile of the row are those that the piece covers
pub covered_in_row : (over : TileRow) (row : ℕ) (x : Piece) (column j : ℕ) → AreRowOf over row x → row < 256 → column < 64 → j < 8 → inside_in over column j ≡ covered x (sub_of (tile_with column row) j)
unfolding inside_in
covered_in_row over row x column j are small within lt =
    ap (λ n. inside_view over.edges (sub_of (tile_with column n) j)) are.row_is ∙ are.covers (sub_of (tile_with column row) j) (omega arith) (omega (arith, lt, small))

-- of a tile that isn't ahead the piece covers nothing
pub covers_none : (over : TileRow) (row : ℕ) (x : Piece) (column ahead i : ℕ) → AreRowOf over row x → row < 256 → AreAhead over column ahead → i < 8 → column + i < 64 → bit_at ahead i ≡ 0 → CoversNone x (tile_with (column + i) row)
covers_none over row x column ahead i are small clear lt within none j below = sym (covered_in_row over row x (column + i) j are small within below) ∙ clear i lt within none j below

-- of a piece's edges those over a row are the piece's
pub row_of_edges : (over : TileRow) (edges : EdgesView) (row : ℕ) (x : Piece) → AreEdgesOf edges x → over.edges ≡ edges → over.row ≡ row → AreRowOf over row x
row_of_edges over edges row x are same here = record { row_is = here; covers = λ u lc lr. subst (λ (e : EdgesView). inside_view e u ≡ covered x u) (sym same) (are u lc lr) }
