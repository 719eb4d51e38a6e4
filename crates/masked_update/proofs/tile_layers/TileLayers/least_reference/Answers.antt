use Rattle.std.proofs.Common.{◌≤◌, List, sym, subst, slice_index_or}
use Rattle.cull_base.specs.Fold.{IsLayered}
use Rattle.cull_base.specs.State.{State, empty_state}
use Rattle.masked_update.proofs.Lanes.{state_at}
use Rattle.masked_update.proofs.Steps.{layered_of}
use Rattle.masked_update.proofs.tile_layers.TileLayers.least_reference.Goals as goal

pub returns-clause-least : goal.returns-clause-least
returns-clause-least c j lt =
    let s = c.self.inside in
    let least = c.least_of.result in
    let le = c.least_of.ensures j lt in
    subst (λ (v : List State). least ≤ (slice_index_or v j empty_state).reference) c.self.view_is
    (subst (λ (t : State). least ≤ t.reference) (sym (state_at s.references s.workings s.masks j lt)) le)

pub returns-clause-layered : goal.returns-clause-layered
returns-clause-layered c j lt =
    let s = c.self.inside in
    subst (λ (v : List State). IsLayered (slice_index_or v j empty_state)) c.self.view_is
    (layered_of _ _ _ _ (sym (state_at s.references s.workings s.masks j lt)) (c.self.invariant.layers j lt))
