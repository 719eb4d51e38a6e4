use Rattle.std.proofs.Common.{◌≡◌, ◌≤ℤ◌, ◌<ℤ◌, pos, true, false, List, FitsSigned, w32, refl, ap, sym, ◌∙◌, subst}
use Rattle.std.proofs.lemmas.Int.{to_z-of_z}
use Rattle.cull_base.specs.Grade.{top_of}
use Rattle.cull_base.specs.Shape.{flat_shape, verdict_of}
use Rattle.cull_base.proofs.HiddenObjects.{met}
use Rattle.masked_update.specs.TileOf.{TileOf, tile_at}
use Rattle.masked_update.specs.Views.{state_in}
use Rattle.rect_query.specs.Rectangles.{nearness_at}
use Rattle.maskcull_c.proofs.AllTiles.{holds_met, rectangle_beyond, rectangle_before}
use Rattle.maskcull_c.proofs.ask.rectangle_verdict.Goals as goal

pub rect_test-requires : goal.rect_test-requires
rect_test-requires c = holds_met c.args.size c.args.tiles.now c.new.result.states.now c.args.rect c.requires.all c.new.ensures

pub returns-in-Some : goal.returns-in-Some
returns-in-Some c =
    let fits : FitsSigned w32 c.args.w = c.ranges.w in
    let size = c.args.size in let near = c.args.near in let q = c.in-Some.q in
    let told : (pos near ≤ℤ c.args.w) × (q ≡ nearness_at (top_of c.args.grade) near c.args.w) = simp to_z-of_z at c.in-Some.ensures.value in
    let seen = subst (λ (ts : List TileOf). c.rect_test.result ≡ verdict_of size (state_in size (tile_at ts)) (flat_shape size c.args.rect q)) c.new.ensures c.rect_test.ensures in
    seen ∙ ap (verdict_of size (state_in size (tile_at c.args.tiles.now))) (sym (rectangle_beyond (top_of c.args.grade) size near c.args.rect c.args.w q told.0 told.1))

pub returns-then-meets : goal.returns-then-meets
returns-then-meets c =
    let fits : FitsSigned w32 c.args.w = c.ranges.w in
    let m = met c.meets.result true c.args.rect c.screen.result c.args.size c.meets.ensures.value c.screen.ensures c.if-meets.true in
    let lt : c.args.w <ℤ pos c.args.near = simp to_z-of_z at c.in-None.ensures.value in
    rw (rectangle_before (top_of c.args.grade) c.args.size c.args.near c.args.rect c.args.w lt, m) refl

pub returns-else-meets : goal.returns-else-meets
returns-else-meets c =
    let m = met c.meets.result false c.args.rect c.screen.result c.args.size c.meets.ensures.value c.screen.ensures c.if-meets.false in
    rw m refl
