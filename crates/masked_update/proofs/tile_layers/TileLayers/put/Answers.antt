use Rattle.std.proofs.Common.{◌∙◌, List, length, ap, sym, set}
use Rattle.cull_base.specs.State.{State}
use Rattle.masked_update.specs.SubTile.{Layers}
use Rattle.masked_update.proofs.Steps.{layers_of, seen_is}
use Rattle.masked_update.proofs.Lanes.{eight_states, layers_set, states_set}
use Rattle.masked_update.proofs.tile_layers.TileLayers.put.Goals as goal

layers : (c : goal.After-mask) → Layers c.reference.result c.working.result c.mask.result
layers c =
    layers_of c.reference.result c.working.result c.mask.result c.args.sub c.reference.ensures.value c.working.ensures.value c.mask.ensures.value
    c.reference.ensures.within c.working.ensures.within c.mask.ensures.not_full c.mask.ensures.layered

pub invariant_of-self : goal.invariant_of-self
invariant_of-self c =
    let s = c.self.inside in
    layers_set s.references s.workings s.masks c.self.invariant c.args.j c.reference.result c.working.result c.mask.result c.requires (layers c)

pub returns-clause-value : goal.returns-clause-value
returns-clause-value c =
    let s = c.self.inside in
    states_set s.references s.workings s.masks c.self.invariant c.args.j c.reference.result c.working.result c.mask.result c.requires (layers c) c.args.sub
    (seen_is c.reference.result c.working.result c.mask.result c.args.sub c.reference.ensures.value c.working.ensures.value c.mask.ensures.value)
    ∙ ap (λ (v : List State). set v c.args.j c.args.sub) c.self.view_is

pub returns-clause-eight : goal.returns-clause-eight
returns-clause-eight c = let s = c.self.inside in sym (ap length c.self.view_is) ∙ eight_states s.references s.workings s.masks
