use Rattle.std.proofs.Common.{◌<◌, ℕ, Bool, subst}
use Rattle.cull_base.specs.Screen.{Dimensions}
use Rattle.cull_base.specs.Span.{IsSpan, has_tile}
use Rattle.cull_base.specs.declared.place.Tile.{Tile}
use Rattle.masked_update.specs.Canvas.{CanvasOf, IsInWindow, tile_in, tile_on}
use Rattle.masked_update.specs.Walk.{MayCount}
use Rattle.masked_update.proofs.Tiles.{on_screen}
use Rattle.masked_update.proofs.Walks.{counted_met, met_in_cut}
use Rattle.masked_update.proofs.walk.count_piece.Goals as goal

few : (size : Dimensions) (canvas : CanvasOf) (test : Tile → Bool) → IsSpan size canvas.window
    → ((t : ℕ) → IsInWindow size canvas.window t → (tile_in size canvas t).count < 131072) → MayCount test canvas
few size canvas test window counts p h on =
    let at = on_screen size canvas.window p window h in
    subst (λ (q : Tile). (tile_on canvas q).count < 131072) at.2 (counts at.0 at.1)

pub count_in_span-requires-clause-counts : goal.count_in_span-requires-clause-counts
count_in_span-requires-clause-counts c = few c.args.size c.args.canvas.now (has_tile c.cut-span.result) c.requires.window c.requires.counts

pub returns : goal.returns
returns c =
    let old = c.args.canvas.now in
    let x = c.args.tri.now in
    counted_met c.cut-span.result c.args.size x old c.count_in_span.new.canvas
    (met_in_cut c.args.size x old.window c.window.result c.of.result c.cut-span.result c.boxed.result c.window.ensures.value c.boxed.ensures c.of.ensures.tiles c.cut-span.ensures.tiles)
    c.count_in_span.ensures
