use Rattle.std.proofs.Common.{◌∙◌, List, length, ap, sym, slice_index_or}
use Rattle.cull_base.specs.State.{State, empty_state}
use Rattle.masked_update.proofs.Lanes.{state_at, eight_states}
use Rattle.masked_update.proofs.tile_layers.TileLayers.sub.Goals as goal

pub returns-clause-value : goal.returns-clause-value
returns-clause-value c =
    let s = c.self.inside in
    c.of_layers.ensures ∙ sym (state_at s.references s.workings s.masks c.args.j c.requires) ∙ ap (λ (v : List State). slice_index_or v c.args.j empty_state) c.self.view_is

pub returns-clause-eight : goal.returns-clause-eight
returns-clause-eight c = let s = c.self.inside in sym (ap length c.self.view_is) ∙ eight_states s.references s.workings s.masks
