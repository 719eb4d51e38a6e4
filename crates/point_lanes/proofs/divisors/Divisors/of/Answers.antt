use Rattle.std.proofs.Common.{◌≡◌, length, rules}
use Rattle.point_lanes.proofs.Dividing.{are_divisors, at_least}
use Rattle.point_lanes.proofs.divisors.Divisors.of.Goals as goal

pub lowered-requires : goal.lowered-requires
lowered-requires c j lt = at_least _ _ _ _ (c.of-found.ensures.lanes j lt)

pub invariant_of-result : goal.invariant_of-result
invariant_of-result c =
    let long : length c.args.numbers ≡ 8 = search rules in
    record {
      are_divisors = are_divisors c.args.numbers c.of-found.result.powers c.of-found.result.normalized c.of-found.result.reciprocals c.lowered.result long c.of-found.ensures.powers c.lowered.ensures.eight
          c.requires.least c.requires.most c.of-found.ensures.lanes c.lowered.ensures.value;
    }
