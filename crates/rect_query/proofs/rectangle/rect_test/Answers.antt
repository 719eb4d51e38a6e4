use Rattle.std.proofs.Common.{true, false, sym, ◌∙◌}
use Rattle.masked_update.specs.Views.{state_in}
use Rattle.cull_base.proofs.HiddenObjects.{met}
use Rattle.rect_query.proofs.Hiding.{area_hidden, flat_tested}
use Rattle.rect_query.proofs.Areas.{holds_area}
use Rattle.rect_query.proofs.rectangle.rect_test.Goals as goal

pub is_area_hiding-requires-clause-holds : goal.is_area_hiding-requires-clause-holds
is_area_hiding-requires-clause-holds g c = holds_area (g.V.TileView.held c.args.view.now) c.args.size c.of.result c.args.rect c.of.ensures.pixels c.requires

pub returns-then-is_area_hiding : goal.returns-then-is_area_hiding
returns-then-is_area_hiding g c =
    let states = state_in c.args.size (g.V.TileView.tile_of c.args.view.now) in
    let m = met c.meets.result true c.args.rect c.screen-screen.result c.args.size c.meets.ensures.value c.screen-screen.ensures c.if-not-meets.false in
    sym (flat_tested c.args.size c.args.rect c.args.q states true m (area_hidden c.is_area_hiding.result c.of.result c.args.rect c.args.size c.args.q states c.of.ensures.pixels c.is_area_hiding.ensures.0 c.is_area_hiding.ensures.1 ∙ c.if-is_area_hiding.true))

pub returns-else-is_area_hiding : goal.returns-else-is_area_hiding
returns-else-is_area_hiding g c =
    let states = state_in c.args.size (g.V.TileView.tile_of c.args.view.now) in
    let m = met c.meets.result true c.args.rect c.screen-screen.result c.args.size c.meets.ensures.value c.screen-screen.ensures c.if-not-meets.false in
    sym (flat_tested c.args.size c.args.rect c.args.q states false m (area_hidden c.is_area_hiding.result c.of.result c.args.rect c.args.size c.args.q states c.of.ensures.pixels c.is_area_hiding.ensures.0 c.is_area_hiding.ensures.1 ∙ c.if-is_area_hiding.false))
