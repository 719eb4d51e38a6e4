use Rattle.std.proofs.Common.{◌≡◌, ◌^◌, ◌∷◌, [], slice_index, w32}
use Rattle.std.specs.Int.{leading_zeros}
use Rattle.lane_numbers.proofs.EightLanes.{each_of_eight}
use Rattle.lane_numbers.proofs.reciprocals.powers_of.Goals as goal

pub returns : goal.returns
returns c =
    each_of_eight (λ j. slice_index (c.power_of.result ∷ c.power_of-2.result ∷ c.power_of-3.result ∷ c.power_of-4.result ∷ c.power_of-5.result ∷ c.power_of-6.result ∷ c.power_of-7.result ∷ c.power_of-8.result ∷ []) j ≡ 2 ^ leading_zeros w32 (slice_index c.args.numbers j))
    c.power_of.ensures c.power_of-2.ensures c.power_of-3.ensures c.power_of-4.ensures c.power_of-5.ensures c.power_of-6.ensures c.power_of-7.ensures c.power_of-8.ensures
