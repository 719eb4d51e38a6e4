use Rattle.std.proofs.Common.{◌≡◌, ℕ, ◌+◌, ◌*◌, ◌<◌, true, false, ◌&&◌, sym, ap, ◌∙◌}
use Rattle.cull_base.specs.Screen.{Dimensions, tile_columns_of, tile_rows_of}
use Rattle.binning.specs.Axis.{has_tile_along}
use Rattle.binning.specs.Bins.{bin_span_of, has_tiles}
use Rattle.binning.specs.Cut.{CutOf}
use Rattle.binning.specs.Grid.{CutScreen}
use Rattle.binning.proofs.BinSpans.{has_tiles_at, full_has_tiles}
use Rattle.binning.proofs.grid.Grid.has_tiles.Goals as goal

-- a bin has tiles where its column and its row have
of_axes : (screen : CutScreen) (size : Dimensions) (cut : CutOf) (column row : ℕ) → ◌≡◌ {A = CutScreen} (record { size = size; cut = cut }) screen → column < screen.cut.columns
    → has_tiles (bin_span_of screen.size screen.cut (row * screen.cut.columns + column)) ≡ (has_tile_along cut.columns (tile_columns_of size) column && has_tile_along cut.rows (tile_rows_of size) row)
of_axes screen size cut column row is lt = rw (← is) (has_tiles_at size cut column row (rw (← is) at lt))

pub returns-then-self : goal.returns-then-self
returns-then-self c =
    let i = c.self.invariant in
    let f = i.full c.if-self.true in
    let g = c.self.inside in
    let lt : c.args.column < g.cut.columns = rw (← c.self.view_is) at c.requires.column in
    let e : has_tiles (bin_span_of c.args.self.now.size c.args.self.now.cut (c.args.row * c.args.self.now.cut.columns + c.args.column)) ≡ true =
    rw (← c.self.view_is) (full_has_tiles g.size g.cut c.args.column c.args.row lt i.is_cut f.0 f.1) in
    c.if-self.true ∙ sym e

pub returns-then-has_tile : goal.returns-then-has_tile
returns-then-has_tile c =
    let i = c.self.invariant in
    let g = c.self.inside in
    let across : has_tile_along g.cut.columns (tile_columns_of g.size) c.args.column ≡ true = rw (← i.across, ← i.across_tiles) (sym c.has_tile.ensures ∙ c.if-has_tile.true) in
    let down : c.has_tile-then-has_tile.result ≡ has_tile_along g.cut.rows (tile_rows_of g.size) c.args.row = rw (← i.down, ← i.down_tiles) c.has_tile-then-has_tile.ensures in
    let e = of_axes c.args.self.now g.size g.cut c.args.column c.args.row c.self.view_is c.requires.column in
    down ∙ sym (ap (λ b. b && has_tile_along g.cut.rows (tile_rows_of g.size) c.args.row) across) ∙ sym e

pub returns-else-has_tile : goal.returns-else-has_tile
returns-else-has_tile c =
    let i = c.self.invariant in
    let g = c.self.inside in
    let across : has_tile_along g.cut.columns (tile_columns_of g.size) c.args.column ≡ false = rw (← i.across, ← i.across_tiles) (sym c.has_tile.ensures ∙ c.if-has_tile.false) in
    let e = of_axes c.args.self.now g.size g.cut c.args.column c.args.row c.self.view_is c.requires.column in
    c.if-has_tile.false ∙ sym (ap (λ b. b && has_tile_along g.cut.rows (tile_rows_of g.size) c.args.row) across) ∙ sym e
