-- The edges of a piece over one row of tiles.
use Rattle.std.proofs.Common.{◌≡◌, ◌∙◌, ap, sym, ℕ, ◌+◌, ◌<◌}
use Rattle.std.specs.Borrow.{Bor}
use Rattle.edge_lanes.specs.Inside.{inside_of, sub_of}
use Rattle.edge_lanes.specs.Spans.{AreMet, spanned}
use Rattle.edge_lanes.specs.Crossings.{inside_lent, inside_view}
use Rattle.edge_lanes.specs.Rows.{AreAhead, inside_in, tile_in}
use Rattle.edge_lanes.specs.declared.crossings.Crossings.{Crossings}
use Rattle.edge_lanes.specs.declared.edges.Edges.{Edges}
use Rattle.edge_lanes.specs.declared.row_edges.EdgesView.{EdgesView}
use Rattle.edge_lanes.specs.declared.row_edges.EdgesView.TheVariants.{Crossed, Plain}
use Rattle.edge_lanes.specs.declared.tile_row.TileRow.{TileRow}
use Rattle.edge_lanes.proofs.Rows.{spanned-crossed, spanned-none}

-- crossed edges have the samples of the spans
pub inside_in-crossed : (t : TileRow) (c : Bor Crossings) → t.edges ≡ Crossed c → (column j : ℕ) → column < 64 → j < 8 → inside_in t column j ≡ spanned t.spans column j
unfolding inside_in inside_view
inside_in-crossed t c is column j lc lj =
    ap (λ (v : EdgesView). inside_lent v (sub_of (tile_in t column) j)) is
    ∙ sym (spanned-crossed c.now t.row t.spans (t.are_spans c is) column j lc lj)

pub inside_in-plain : (t : TileRow) (e : Bor Edges) → t.edges ≡ Plain e → (column j : ℕ) → inside_in t column j ≡ inside_of e.now (sub_of (tile_in t column) j)
unfolding inside_in inside_view
inside_in-plain t e is column j = ap (λ (v : EdgesView). inside_lent v (sub_of (tile_in t column) j)) is

-- tiles of which no row has a column
pub ahead-crossed : (t : TileRow) (c : Bor Crossings) (column ahead : ℕ) → t.edges ≡ Crossed c → AreMet t.spans column ahead → AreAhead t column ahead
ahead-crossed t c column ahead is met i l within z j lj =
    inside_in-crossed t c is (column + i) j within lj ∙ spanned-none t.spans column ahead i j met l z lj
