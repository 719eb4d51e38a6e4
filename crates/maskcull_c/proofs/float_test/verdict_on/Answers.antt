use Rattle.std.proofs.Common.{◌≡◌, true, List, cond, ap, sym, ◌∙◌, subst}
use Rattle.cull_base.specs.Rectangle.{meets}
use Rattle.cull_base.specs.Screen.{screen_of}
use Rattle.cull_base.specs.Shape.{AlwaysOutside, Flat, flat_shape, verdict_of}
use Rattle.masked_update.specs.TileOf.{TileOf, tile_at}
use Rattle.masked_update.specs.Views.{state_in}
use Rattle.maskcull_c.specs.Lenses.{MeetsScreen, shape_of}
use Rattle.maskcull_c.proofs.AllTiles.{holds_met}
use Rattle.maskcull_c.proofs.float_test.verdict_on.Goals as goal

pub rect_test-requires : goal.rect_test-requires
rect_test-requires c = holds_met c.args.size c.args.tiles.now c.new.result.states.now c.in-At.rect c.requires.all c.new.ensures

pub returns-in-At : goal.returns-in-At
returns-in-At c =
    let size = c.args.size in let r = c.in-At.rect in let q = c.in-At.nearness in
    let on : meets r (screen_of size) ≡ true = subst (MeetsScreen size) c.in-At.is c.requires.meets in
    let flat : flat_shape size r q ≡ Flat r q = ap (λ b. cond b (Flat r q) AlwaysOutside) on in
    let seen = subst (λ (ts : List TileOf). c.rect_test.result ≡ verdict_of size (state_in size (tile_at ts)) (flat_shape size r q)) c.new.ensures c.rect_test.ensures in
    seen ∙ ap (verdict_of size (state_in size (tile_at c.args.tiles.now))) (flat ∙ ap shape_of (sym c.in-At.is))
