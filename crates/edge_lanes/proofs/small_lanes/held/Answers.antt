use Rattle.std.proofs.Common.{◌^◌, FitsSigned, w32, rules}
use Rattle.edge_lanes.specs.Around.{lane}
use Rattle.edge_lanes.specs.Lines.{held_few}
use Rattle.edge_lanes.proofs.Around.{bounded_around, held_few-bounded, held_lane}
use Rattle.edge_lanes.proofs.small_lanes.held.Goals as goal

pub returns-clause-value : goal.returns-clause-value
returns-clause-value c =
    let is = c.requires.are_three in let v = c.args.values in
    let fa : FitsSigned w32 (lane v 0) = search rules in let fb : FitsSigned w32 (lane v 1) = search rules in let fd : FitsSigned w32 (lane v 2) = search rules in
    let a = held_lane (lane v 0) fa in let b = held_lane (lane v 1) fb in let d = held_lane (lane v 2) fd in
    rw is cc

pub returns-clause-bounded : goal.returns-clause-bounded
returns-clause-bounded c =
    let v = c.args.values in
    bounded_around (2 ^ 14) _ (held_few (lane v 0)) (held_few (lane v 1)) (held_few (lane v 2)) (returns-clause-value c)
    (held_few-bounded (lane v 0)) (held_few-bounded (lane v 1)) (held_few-bounded (lane v 2))
