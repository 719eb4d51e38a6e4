use Rattle.std.proofs.Common.{ap, ◌∙◌, subst}
use Rattle.live_check.specs.Standing.{AreWhole, TilesOf}
use Rattle.live_check.proofs.tiles.Tiles.states.Goals as goal

pub returns-clause-states : goal.returns-clause-states
returns-clause-states c = c.as_slice.ensures.value ∙ ap (λ (y : TilesOf). y.states) c.self.view_is

pub returns-clause-whole : goal.returns-clause-whole
returns-clause-whole c = subst AreWhole c.self.view_is c.self.invariant
