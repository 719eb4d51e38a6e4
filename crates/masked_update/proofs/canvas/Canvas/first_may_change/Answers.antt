use Rattle.std.proofs.Common.{◌≡◌, ◌<◌, arith, length, refl, subst, sym}
use Rattle.std.proofs.lemmas.List.{get_or_read_under}
use Rattle.masked_update.specs.Canvas.{CanvasOf}
use Rattle.masked_update.specs.Least.{NoneBelow}
use Rattle.masked_update.specs.TileOf.{tile_at}
use Rattle.masked_update.proofs.canvas.Canvas.first_may_change.Goals as goal

pub index-least-requires : goal.index-least-requires
index-least-requires c =
    let inside = subst (λ (v : CanvasOf). c.args.number < length v.tiles) (sym c.self.view_is) c.requires in
    let whole = c.self.invariant.1.whole in
    omega (arith, inside, whole)

pub returns-then-least-nearest-clause-behind : goal.returns-then-least-nearest-clause-behind
returns-then-least-nearest-clause-behind c none = absurd (omega (arith, none))

pub returns-then-least-nearest-clause-eight : goal.returns-then-least-nearest-clause-eight
returns-then-least-nearest-clause-eight c =
    subst (λ (v : CanvasOf). c.args.number < length v.tiles → length (tile_at v.tiles c.args.number).subs ≡ 8) c.self.view_is (λ inside. c.self.invariant.1.eight c.args.number inside) c.requires

pub returns-else-least-nearest-clause-behind : goal.returns-else-least-nearest-clause-behind
returns-else-least-nearest-clause-behind c none =
    let table = c.self.inside.least.items in
    let n = c.args.number in
    let inv = c.self.invariant.1 in
    subst (λ (v : CanvasOf). n < length v.tiles → NoneBelow c.args.nearest (tile_at v.tiles n)) c.self.view_is
    (λ inside.
    let whole = inv.whole in
    let is = get_or_read_under table n (length table) c.index-least.result.now 0 c.index-least.ensures (omega (arith, inside, whole)) refl in
    let past = c.if-least-nearest.false in
    record { eight = inv.eight n inside; behind = λ j below. let least = inv.least n j inside below in omega (arith, past, is, least) })
    c.requires

pub returns-else-least-nearest-clause-eight : goal.returns-else-least-nearest-clause-eight
returns-else-least-nearest-clause-eight c =
    subst (λ (v : CanvasOf). c.args.number < length v.tiles → length (tile_at v.tiles c.args.number).subs ≡ 8) c.self.view_is (λ inside. c.self.invariant.1.eight c.args.number inside) c.requires
