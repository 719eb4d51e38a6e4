use Rattle.std.proofs.Common.{◌≤◌, ◌*◌, ◌^◌, ◌∷◌, [], slice_index, w32}
use Rattle.std.specs.Int.{leading_zeros}
use Rattle.lane_numbers.specs.Reciprocals.{IsNear}
use Rattle.lane_numbers.proofs.EightLanes.{each_of_eight}
use Rattle.lane_numbers.proofs.reciprocals.guesses_of.Goals as goal

pub returns-clause-near : goal.returns-clause-near
returns-clause-near c =
    each_of_eight (λ j. IsNear 18014402804449280 (slice_index c.args.numbers j * 2 ^ leading_zeros w32 (slice_index c.args.numbers j)) (slice_index (c.guess_of.result ∷ c.guess_of-2.result ∷ c.guess_of-3.result ∷ c.guess_of-4.result ∷ c.guess_of-5.result ∷ c.guess_of-6.result ∷ c.guess_of-7.result ∷ c.guess_of-8.result ∷ []) j))
    c.guess_of.ensures.near c.guess_of-2.ensures.near c.guess_of-3.ensures.near c.guess_of-4.ensures.near c.guess_of-5.ensures.near c.guess_of-6.ensures.near c.guess_of-7.ensures.near c.guess_of-8.ensures.near

pub returns-clause-within : goal.returns-clause-within
returns-clause-within c =
    each_of_eight (λ j. slice_index (c.guess_of.result ∷ c.guess_of-2.result ∷ c.guess_of-3.result ∷ c.guess_of-4.result ∷ c.guess_of-5.result ∷ c.guess_of-6.result ∷ c.guess_of-7.result ∷ c.guess_of-8.result ∷ []) j ≤ 4290772992)
    c.guess_of.ensures.within c.guess_of-2.ensures.within c.guess_of-3.ensures.within c.guess_of-4.ensures.within c.guess_of-5.ensures.within c.guess_of-6.ensures.within c.guess_of-7.ensures.within c.guess_of-8.ensures.within
