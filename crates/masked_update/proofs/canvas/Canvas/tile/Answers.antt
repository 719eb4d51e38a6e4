use Rattle.std.proofs.Common.{◌≡◌, ◌+◌, ◌-◌, arith, ap, ◌∙◌, sym, subst, true, length, refl}
use Rattle.std.proofs.lemmas.List.{get_or_read_under}
use Rattle.cull_base.specs.Span.{has_tile, number_in, row_start_in}
use Rattle.masked_update.specs.TileOf.{tile_at, no_tile}
use Rattle.masked_update.specs.Canvas.{CanvasOf, tile_on}
use Rattle.masked_update.proofs.Tiles.{number_within}
use Rattle.masked_update.proofs.canvas.Canvas.tile.Goals as goal

pub index-requires : goal.index-requires
index-requires c =
    let window = c.self.inside.window in
    let has : has_tile window c.args.place ≡ true = subst (λ (v : CanvasOf). has_tile v.window c.args.place ≡ true) (sym c.self.view_is) c.requires in
    let lt = number_within window c.args.place has in
    let whole = c.self.invariant.0 in
    let start = c.row_start-start.ensures ∙ ap (row_start_in window) c.from.ensures in
    omega (arith, lt, whole, start)

pub returns : goal.returns
returns c =
    let window = c.self.inside.window in
    let start = c.row_start-start.ensures ∙ ap (row_start_in window) c.from.ensures in
    let number : c.row_start-start.result + (c.from-2.result - window.first_column) ≡ number_in window c.args.place = omega (arith, start) in
    let has : has_tile window c.args.place ≡ true = subst (λ (v : CanvasOf). has_tile v.window c.args.place ≡ true) (sym c.self.view_is) c.requires in
    let lt = number_within window c.args.place has in
    let whole = c.self.invariant.0 in
    get_or_read_under c.self.inside.tiles.items _ (length c.self.inside.tiles.items) c.index.result.now no_tile c.index.ensures (omega (arith, number, lt, whole)) refl
    ∙ ap (tile_at c.self.inside.tiles.items) number ∙ ap (λ (v : CanvasOf). tile_on v c.args.place) c.self.view_is
