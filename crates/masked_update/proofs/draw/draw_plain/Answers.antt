use Rattle.std.proofs.Common.{◌≡◌, arith, ap, ◌∙◌, sym, subst, length, List}
use Rattle.cull_base.specs.Screen.{tile_place}
use Rattle.cull_base.specs.Span.{number_in}
use Rattle.cull_base.specs.declared.tile_span.TileSpan.{TileSpan}
use Rattle.masked_update.specs.TileOf.{TileOf, tile_at}
use Rattle.masked_update.specs.Drawn.{IsDrawn}
use Rattle.masked_update.specs.Canvas.{CountsAt, StandsAt, IsInWindow}
use Rattle.masked_update.proofs.Tiles.{on_whole}
use Rattle.masked_update.proofs.Canvases.{counted_and_drawn}
use Rattle.masked_update.proofs.draw.draw_plain.Goals as goal

pub returns-clause-drawn : goal.returns-clause-drawn
returns-clause-drawn c t lt =
    let list = c.args.list.now.list in
    let canvas = c.loop-index.canvas in
    let window = c.loop-index.invariant.window in
    let end : c.loop-index.index ≡ length list.members = omega (arith, c.len-index-end.ensures.value, c.loop-index-test.false, c.loop-index.auto.index-end) in
    let stands = subst (λ k. StandsAt list k canvas) end c.loop-index.invariant.stands in
    let counts = subst (λ k. CountsAt list k canvas) end c.loop-index.invariant.counts in
    let sized = rw c.size.ensures at c.whole.ensures.sized in
    let at = on_whole list.size t lt in
    let within = subst (λ (w : TileSpan). IsInWindow list.size w t) (sym window) at.0 in
    let number : number_in canvas.window (tile_place list.size t) ≡ t = ap (λ (w : TileSpan). number_in w (tile_place list.size t)) window ∙ at.1 in
    let same = ap (tile_at canvas.tiles) number ∙ ap (λ (tiles : List TileOf). tile_at tiles t) (sym c.into_tiles.ensures.tiles) in
    subst (IsDrawn list t) same (counted_and_drawn list canvas sized c.len-index-end.ensures.pieces stands counts t within)
