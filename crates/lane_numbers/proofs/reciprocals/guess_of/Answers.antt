use Rattle.std.proofs.Common.{ℕ, subst}
use Rattle.lane_numbers.specs.Reciprocals.{IsNear}
use Rattle.lane_numbers.proofs.reciprocals.guess_of.Goals as goal

pub returns-clause-near : goal.returns-clause-near
returns-clause-near c = subst (λ (x : ℕ). IsNear 18014402804449280 x c.first_guess.result) c.normalized.ensures.value c.first_guess.ensures.near
