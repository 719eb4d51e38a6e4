use Rattle.std.proofs.Common.{rules, ◌≡◌, subst, sym}
use Rattle.masked_update.specs.Canvas.{CanvasOf, CountsAt, StandsAt, empty_canvas}
use Rattle.masked_update.proofs.Canvases.{counts_at_none, stands_at_none}
use Rattle.masked_update.proofs.canvas.Canvas.empty.Goals as goal

pub returns-clause-stands : goal.returns-clause-stands
returns-clause-stands c list =
    let made : CanvasOf = record { window = c.args.window; tiles = c.in_ok-tiles.tiles.items } in
    let e : made ≡ empty_canvas c.args.window = search rules in
    subst (StandsAt list 0) (sym e) (stands_at_none list c.args.window)

pub returns-clause-counts : goal.returns-clause-counts
returns-clause-counts c list =
    let made : CanvasOf = record { window = c.args.window; tiles = c.in_ok-tiles.tiles.items } in
    let e : made ≡ empty_canvas c.args.window = search rules in
    subst (CountsAt list 0) (sym e) (counts_at_none list c.args.window)
