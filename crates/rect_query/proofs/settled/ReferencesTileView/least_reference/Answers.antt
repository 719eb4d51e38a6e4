use Rattle.std.proofs.Common.{◌≤◌, sym, subst}
use Rattle.cull_base.specs.State.{State}
use Rattle.cull_base.specs.Fold.{IsLayered}
use Rattle.rect_query.proofs.Bare.{bare_at, bare_layered}
use Rattle.rect_query.proofs.settled.ReferencesTileView.least_reference.Goals as goal

pub returns-clause-least : goal.returns-clause-least
returns-clause-least g c j lt =
    let tile = g.V.TileView.tile_of c.args.self.now.view.now c.args.tile in
    subst (λ (s : State). c.least_reference.result ≤ s.reference) (sym (bare_at tile j lt)) (c.least_reference.ensures.least j lt)

pub returns-clause-layered : goal.returns-clause-layered
returns-clause-layered g c j lt =
    let tile = g.V.TileView.tile_of c.args.self.now.view.now c.args.tile in
    subst IsLayered (sym (bare_at tile j lt)) (bare_layered _)
