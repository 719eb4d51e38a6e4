use Rattle.std.proofs.Common.{false, sym, ap, ◌∙◌}
use Rattle.cull_base.specs.declared.place.Sub.{Sub}
use Rattle.cull_base.specs.Shape.{Flat, is_hidden}
use Rattle.cull_base.specs.State.{State}
use Rattle.cull_base.proofs.HiddenObjects.{met}
use Rattle.masked_update.specs.Views.{state_in}
use Rattle.rect_query.specs.References.{bare_tile}
use Rattle.rect_query.proofs.Areas.{holds_area}
use Rattle.rect_query.proofs.Bare.{bare_states, settled_is_hidden, unmet_unsettled}
use Rattle.rect_query.proofs.Hiding.{area_hidden}
use Rattle.rect_query.proofs.settled.settled_test.Goals as goal

pub returns-then-not-meets : goal.returns-then-not-meets
returns-then-not-meets g c =
    let unmet = met c.meets.result false c.args.rect c.screen.result c.args.size c.meets.ensures.value c.screen.ensures c.if-not-meets.true in
    unmet_unsettled c.args.size (state_in c.args.size (g.V.TileView.tile_of c.args.view.now)) c.args.rect c.args.q unmet

pub is_area_hiding-requires-clause-holds : goal.is_area_hiding-requires-clause-holds
is_area_hiding-requires-clause-holds g c = holds_area (g.V.TileView.held c.args.view.now) c.args.size c.of.result c.args.rect c.of.ensures.pixels c.requires

pub returns : goal.returns
returns g c =
    let tile_of = g.V.TileView.tile_of c.args.view.now in
    let bare = state_in c.args.size (λ k. bare_tile (tile_of k)) in
    let hidden = area_hidden c.is_area_hiding.result c.of.result c.args.rect c.args.size c.args.q bare c.of.ensures.pixels c.is_area_hiding.ensures.0 c.is_area_hiding.ensures.1 in
    sym hidden ∙ ap (λ (f : Sub → State). is_hidden c.args.size f (Flat c.args.rect c.args.q)) (bare_states c.args.size tile_of)
    ∙ settled_is_hidden c.args.size (state_in c.args.size tile_of) c.args.rect c.args.q
