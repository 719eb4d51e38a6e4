use Rattle.std.proofs.Common.{◌≡◌, inl, inr, ℕ, ◌+◌, ◌*◌, ◌<◌, true, false, arith, ◌∙◌, subst}
use Rattle.std.proofs.lemmas.Bool.{and_from}
use Rattle.cull_base.specs.Piece.{box_of, least_of, greatest_of}
use Rattle.cull_base.specs.Screen.{tile_columns_of, tile_rows_of}
use Rattle.cull_base.specs.declared.tile_span.TileSpan.{TileSpan}
use Rattle.binning.specs.Axis.{ReachesAlong, has_tile_along}
use Rattle.binning.specs.Bins.{bin_span_of, has_tiles}
use Rattle.binning.specs.Cut.{bin_count_of}
use Rattle.binning.specs.Grid.{CutScreen}
use Rattle.binning.specs.Pushed.{is_bin_in_rows, is_met}
use Rattle.binning.specs.Tiles.{misses, first_tile_of, last_tile_of}
use Rattle.binning.proofs.Axes.{none_reached}
use Rattle.binning.proofs.BinSpans.{has_tiles_at}
use Rattle.binning.proofs.Reaches.{reached_is_met}
use Rattle.binning.proofs.TileSpans.{is_on, least_first, columns_rise, rows_rise, span_on, span_off}
use Rattle.binning.proofs.grid.Grid.reached.Goals as goal
use Rattle.binning.proofs.grid.Grid.reached.Goals.{then-misses-via-then-misses, then-misses-via-else-misses+then-misses-2}

pub returns-then-misses-clause-bins : goal.returns-then-misses-clause-bins
returns-then-misses-clause-bins c =
    let g = c.self.inside in
    let i = c.self.invariant in
    let t = c.args.tri.now in
    let span : TileSpan = record { first_column = 0; end_column = 0; first_row = 0; end_row = 0 } in
    let off = span_off g.size t.xs t.ys i.sized (elim c.then-misses.branch [
      | then-misses-via-then-misses w ↦ let e : misses (least_of t.xs) (greatest_of t.xs) g.size.width ≡ true = cc in inl e
      | then-misses-via-else-misses+then-misses-2 w ↦ let e : misses (least_of t.ys) (greatest_of t.ys) g.size.height ≡ true = cc in inr e
    ]) in
    subst (λ (s : CutScreen). (b : ℕ) → b < bin_count_of s.cut → is_bin_in_rows s 0 0 0 0 b ≡ is_met s (box_of t) b) c.self.view_is
    (λ b lt. reached_is_met g.size g.cut (box_of t) span i.sized i.is_cut off.0 off.1 0 0 0 0 b (none_reached g.cut.columns (tile_columns_of g.size)) (none_reached g.cut.rows (tile_rows_of g.size)) lt)

pub reached-requires-clause-order : goal.reached-requires-clause-order
reached-requires-clause-order c =
    let g = c.self.inside in
    let t = c.args.tri.now in
    let e : misses (least_of t.xs) (greatest_of t.xs) g.size.width ≡ false = cc in
    let on = is_on (least_of t.xs) (greatest_of t.xs) g.size.width (omega (arith, c.self.invariant.sized.wide)) (least_first t.xs) e in
    let rise = columns_rise (least_of t.xs) (greatest_of t.xs) g.size.width on in
    let left : c.first_tile-left.result ≡ first_tile_of (least_of t.xs) 512 = cc in
    let right : c.last_tile-right.result ≡ last_tile_of (greatest_of t.xs) g.size.width 512 = cc in
    omega (arith, rise, left, right)

pub reached-requires-2-clause-order : goal.reached-requires-2-clause-order
reached-requires-2-clause-order c =
    let g = c.self.inside in
    let t = c.args.tri.now in
    let e : misses (least_of t.ys) (greatest_of t.ys) g.size.height ≡ false = cc in
    let on = is_on (least_of t.ys) (greatest_of t.ys) g.size.height (omega (arith, c.self.invariant.sized.high)) (least_first t.ys) e in
    let rise = rows_rise (least_of t.ys) (greatest_of t.ys) g.size.height on in
    let top : c.first_tile-top.result ≡ first_tile_of (least_of t.ys) 128 = cc in
    let bottom : c.last_tile-bottom.result ≡ last_tile_of (greatest_of t.ys) g.size.height 128 = cc in
    omega (arith, rise, top, bottom)

pub returns-clause-bins : goal.returns-clause-bins
returns-clause-bins c =
    let g = c.self.inside in
    let i = c.self.invariant in
    let t = c.args.tri.now in
    let columns = c.reached.result in
    let rows = c.reached-2.result in
    let e : misses (least_of t.xs) (greatest_of t.xs) g.size.width ≡ false = cc in
    let f : misses (least_of t.ys) (greatest_of t.ys) g.size.height ≡ false = cc in
    let x = is_on (least_of t.xs) (greatest_of t.xs) g.size.width (omega (arith, i.sized.wide)) (least_first t.xs) e in
    let y = is_on (least_of t.ys) (greatest_of t.ys) g.size.height (omega (arith, i.sized.high)) (least_first t.ys) f in
    let left : c.first_tile-left.result ≡ first_tile_of (least_of t.xs) 512 = cc in
    let right : c.last_tile-right.result ≡ last_tile_of (greatest_of t.xs) g.size.width 512 = cc in
    let top : c.first_tile-top.result ≡ first_tile_of (least_of t.ys) 128 = cc in
    let bottom : c.last_tile-bottom.result ≡ last_tile_of (greatest_of t.ys) g.size.height 128 = cc in
    let span : TileSpan = record { first_column = c.first_tile-left.result; end_column = c.last_tile-right.result + 1; first_row = c.first_tile-top.result; end_row = c.last_tile-bottom.result + 1 } in
    let on = span_on g.size t.xs t.ys c.first_tile-left.result c.last_tile-right.result c.first_tile-top.result c.last_tile-bottom.result i.sized x y left right top bottom in
    let across = subst (λ n. ReachesAlong g.cut.columns n span.first_column span.end_column columns.first columns.end) i.across_tiles
    (subst (λ n. ReachesAlong n g.across.tiles span.first_column span.end_column columns.first columns.end) i.across c.reached.ensures.reached) in
    let down = subst (λ n. ReachesAlong g.cut.rows n span.first_row span.end_row rows.first rows.end) i.down_tiles
    (subst (λ n. ReachesAlong n g.down.tiles span.first_row span.end_row rows.first rows.end) i.down c.reached-2.ensures.reached) in
    subst (λ (s : CutScreen). (b : ℕ) → b < bin_count_of s.cut → is_bin_in_rows s rows.first rows.end columns.first columns.end b ≡ is_met s (box_of t) b) c.self.view_is
    (λ b lt. reached_is_met g.size g.cut (box_of t) span i.sized i.is_cut on.0 on.1 rows.first rows.end columns.first columns.end b across down lt)

pub returns-clause-first : goal.returns-clause-first
returns-clause-first c lt =
    let g = c.self.inside in
    let i = c.self.invariant in
    let column = c.reached.result.first in
    let row = c.reached-2.result.first in
    let across : has_tile_along g.cut.columns (tile_columns_of g.size) column ≡ true = rw (← i.across, ← i.across_tiles) c.reached.ensures.first in
    let down : has_tile_along g.cut.rows (tile_rows_of g.size) row ≡ true = rw (← i.down, ← i.down_tiles) c.reached-2.ensures.first in
    let below : column < g.cut.columns = omega (arith, lt, c.reached.ensures.range, i.across) in
    subst (λ (s : CutScreen). has_tiles (bin_span_of s.size s.cut (row * s.cut.columns + column)) ≡ true) c.self.view_is
    (has_tiles_at g.size g.cut column row below ∙ and_from _ _ across down)
