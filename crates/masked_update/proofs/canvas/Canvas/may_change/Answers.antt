use Rattle.std.proofs.Common.{◌≡◌, ℕ, ◌+◌, ◌<◌, ◌≤◌, get_or, nat_lt, length, List, w32, arith, ap, ◌∙◌, sym, subst}
use Rattle.std.specs.Int.{bit_at}
use Rattle.std.proofs.lemmas.Simd.{bitmask_splat}
use Rattle.masked_update.specs.Canvas.{CanvasOf}
use Rattle.masked_update.specs.Least.{NoneBelow}
use Rattle.masked_update.specs.TileOf.{tile_at}
use Rattle.masked_update.proofs.EightOf.{are_eight, clear_at, eight_from}
use Rattle.masked_update.proofs.canvas.Canvas.may_change.Goals as goal

pub returns-clause-behind : goal.returns-clause-behind
returns-clause-behind c i lt within clear =
    let table = c.deref.result.now in
    let n = c.args.number in
    let inv = c.self.invariant.1 in
    subst (λ (v : CanvasOf). n + i < length v.tiles → NoneBelow c.args.nearest (tile_at v.tiles (n + i))) c.self.view_is
    (λ inside.
    let long : n + 8 ≤ length table = (let whole = inv.whole in let same = ap length c.deref.ensures.value in omega (arith, inside, whole, same)) in
    let is = bitmask_splat w32 nat_lt (eight_from table n) 8 c.args.nearest (are_eight table n long) (omega arith) in
    let at = subst (λ (t : List ℕ). c.args.nearest ≤ get_or t (n + i) 0) c.deref.ensures.value (clear_at table n c.args.nearest i long lt (ap (λ m. bit_at m i) (sym is) ∙ clear)) in
    record { eight = inv.eight (n + i) inside; behind = λ j below. let least = inv.least (n + i) j inside below in omega (arith, at, least) })
    within

pub returns-clause-eight : goal.returns-clause-eight
returns-clause-eight c i lt within =
    subst (λ (v : CanvasOf). c.args.number + i < length v.tiles → length (tile_at v.tiles (c.args.number + i)).subs ≡ 8) c.self.view_is (λ inside. c.self.invariant.1.eight (c.args.number + i) inside) within
