use Rattle.std.proofs.Common.{◌∙◌, ◌<◌, arith, sym, subst}
use Rattle.cull_base.specs.Screen.{Dimensions, tile_count_of}
use Rattle.masked_update.specs.Views.{state_in}
use Rattle.cull_report.specs.Scene.{size_of}
use Rattle.group_query.proofs.HiddenAround.{group_around, hides_around, member_around}
use Rattle.group_query.proofs.around.is_hidden_around.Goals as goal

pub rect_test-requires : goal.rect_test-requires
rect_test-requires g c = λ t below met. c.args.asked.now.holds t (subst (λ (d : Dimensions). t < tile_count_of d) c.requires.size below)

pub returns-then-is_in_screen-clause-told : goal.returns-then-is_in_screen-clause-told
returns-then-is_in_screen-clause-told g c = λ yes.
    let a = c.args.asked.now in let tile_of = g.V.TileView.tile_of a.view.now in
    let rect = c.in-At.rect in let q = c.in-At.q in
    group_around a.scene.now a.frame (state_in (size_of a.scene.now) tile_of) c.args.group c.in-Some.around rect q
    (hides_around a.scene.now a.frame tile_of c.args.group c.in-Some.around c.args.size c.answer_around.result rect q c.rect_test.result c.requires.size (omega (arith, c.if-group-lt2.false)) c.requires.group
    c.in-Some.ensures.boxes c.answer_around.ensures c.in-At.is (sym c.is_in_screen.ensures ∙ c.if-is_in_screen.true) c.rect_test.ensures (sym c.is_occluded.ensures ∙ yes))

pub returns-then-is_in_screen-clause-occluded : goal.returns-then-is_in_screen-clause-occluded
returns-then-is_in_screen-clause-occluded g c = λ k o yes below.
    let a = c.args.asked.now in let tile_of = g.V.TileView.tile_of a.view.now in
    let rect = c.in-At.rect in let q = c.in-At.q in
    member_around a.scene.now a.frame (state_in (size_of a.scene.now) tile_of) c.args.group c.in-Some.around rect q k o
    (hides_around a.scene.now a.frame tile_of c.args.group c.in-Some.around c.args.size c.answer_around.result rect q c.rect_test.result c.requires.size (omega (arith, c.if-group-lt2.false)) c.requires.group
    c.in-Some.ensures.boxes c.answer_around.ensures c.in-At.is (sym c.is_in_screen.ensures ∙ c.if-is_in_screen.true) c.rect_test.ensures (sym c.is_occluded.ensures ∙ yes))
    below
