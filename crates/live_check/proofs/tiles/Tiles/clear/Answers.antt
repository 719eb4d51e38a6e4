use Rattle.std.proofs.Common.{length-set, set, ap, ◌∙◌}
use Rattle.masked_update.specs.TileOf.{TileOf, empty_tile}
use Rattle.live_check.specs.Standing.{TilesOf}
use Rattle.live_check.proofs.tiles.Tiles.clear.Goals as goal

pub returns-clause-states : goal.returns-clause-states
returns-clause-states c =
    ap (λ (x : TileOf). set c.self.inside.states.items c.args.tile x) c.empty.ensures ∙ ap (λ (y : TilesOf). set y.states c.args.tile empty_tile) c.self.view_is

pub returns-clause-behind : goal.returns-clause-behind
returns-clause-behind c = ap (λ (y : TilesOf). set y.behind c.args.tile 0) c.self.view_is

pub returns-clause-stated : goal.returns-clause-stated
returns-clause-stated c = ap (λ (y : TilesOf). y.stated) c.self.view_is

pub returns-clause-size : goal.returns-clause-size
returns-clause-size c = ap (λ (y : TilesOf). y.size) c.self.view_is

pub invariant_of-self : goal.invariant_of-self
invariant_of-self c =
    let s = c.self.inside in let i = c.self.invariant in
    record { states = length-set s.states.items c.args.tile c.empty.result ∙ i.states; behind = length-set s.behind.items c.args.tile 0 ∙ i.behind; stated = i.stated }

pub returns-clause-whole : goal.returns-clause-whole
returns-clause-whole c =
    let s = c.self.inside in let i = c.self.invariant in
    record { states = length-set s.states.items c.args.tile c.empty.result ∙ i.states; behind = length-set s.behind.items c.args.tile 0 ∙ i.behind; stated = i.stated }
