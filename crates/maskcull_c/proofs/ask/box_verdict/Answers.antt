use Rattle.std.proofs.Common.{◌≡◌, List, map, ap, ◌∙◌, subst}
use Rattle.cull_base.specs.Grade.{top_of}
use Rattle.cull_base.specs.Shape.{flat_shape, verdict_of}
use Rattle.masked_update.specs.TileOf.{TileOf, tile_at}
use Rattle.masked_update.specs.Views.{state_in}
use Rattle.rect_query.specs.declared.boxes.BoxAnswer.{BoxAnswer}
use Rattle.rect_query.specs.declared.boxes.BoxAnswer.TheVariants.{Outside, Straddles, At}
use Rattle.rect_query.specs.Boxes.{box_answer, shape_of_answer}
use Rattle.maskcull_c.specs.Given.{clip_of}
use Rattle.maskcull_c.proofs.AllTiles.{holds_met}
use Rattle.maskcull_c.proofs.ask.box_verdict.Goals as goal

pub rect_test-requires : goal.rect_test-requires
rect_test-requires c = holds_met c.args.size c.args.tiles.now c.new.result.states.now c.in-At.rect c.requires.all c.new.ensures

pub returns-in-Outside : goal.returns-in-Outside
returns-in-Outside c =
    let size = c.args.size in
    let is : Outside ≡ box_answer (top_of c.args.grade) c.args.near size (map clip_of c.args.corners.now.corners) = c.in-Outside.ensures ∙ ap (box_answer (top_of c.args.grade) c.args.near size) c.clips.ensures in
    ap (λ (a : BoxAnswer). verdict_of size (state_in size (tile_at c.args.tiles.now)) (shape_of_answer size a)) is

pub returns-in-Straddles : goal.returns-in-Straddles
returns-in-Straddles c =
    let size = c.args.size in
    let is : Straddles ≡ box_answer (top_of c.args.grade) c.args.near size (map clip_of c.args.corners.now.corners) = c.in-Straddles.ensures ∙ ap (box_answer (top_of c.args.grade) c.args.near size) c.clips.ensures in
    ap (λ (a : BoxAnswer). verdict_of size (state_in size (tile_at c.args.tiles.now)) (shape_of_answer size a)) is

pub returns-in-At : goal.returns-in-At
returns-in-At c =
    let size = c.args.size in let r = c.in-At.rect in let q = c.in-At.q in
    let is : At r q ≡ box_answer (top_of c.args.grade) c.args.near size (map clip_of c.args.corners.now.corners) = c.in-At.ensures ∙ ap (box_answer (top_of c.args.grade) c.args.near size) c.clips.ensures in
    let seen = subst (λ (ts : List TileOf). c.rect_test.result ≡ verdict_of size (state_in size (tile_at ts)) (flat_shape size r q)) c.new.ensures c.rect_test.ensures in
    seen ∙ ap (λ (a : BoxAnswer). verdict_of size (state_in size (tile_at c.args.tiles.now)) (shape_of_answer size a)) is
