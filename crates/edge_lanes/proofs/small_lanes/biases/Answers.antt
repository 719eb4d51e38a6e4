use Rattle.std.proofs.Common.{arith}
use Rattle.std.proofs.lemmas.Int.{ints}
use Rattle.edge_lanes.specs.Around.{lane, sign_of}
use Rattle.edge_lanes.proofs.Around.{around_same, bias_lane, bounded_around}
use Rattle.edge_lanes.proofs.small_lanes.biases.Goals as goal

pub overflow_mul-columns : goal.overflow_mul-columns
overflow_mul-columns c = let k = c.requires.column in let e = k.are_three in rw e (omega (arith, ints, k))

pub overflow_add-leans : goal.overflow_add-leans
overflow_add-leans c = let r = c.requires.row in let k = c.requires.column in let e = k.are_three in let f = r.are_three in rw (e, f) (omega (arith, ints, k, r))

pub overflow_sub-result : goal.overflow_sub-result
overflow_sub-result c = let r = c.requires.row in let k = c.requires.column in let e = k.are_three in let f = r.are_three in rw (e, f) (omega (arith, ints, k, r))

pub returns-clause-value : goal.returns-clause-value
returns-clause-value c =
    let r = c.requires.row in let k = c.requires.column in let e = k.are_three in let f = r.are_three in
    let x = (bias_lane (lane c.args.row 0) (lane c.args.column 0) r.first k.first).0 in
    let y = (bias_lane (lane c.args.row 1) (lane c.args.column 1) r.second k.second).0 in
    let z = (bias_lane (lane c.args.row 2) (lane c.args.column 2) r.third k.third).0 in
    rw (e, f) (around_same _ _ _ _ _ _ x y z)

pub returns-clause-bounded : goal.returns-clause-bounded
returns-clause-bounded c =
    let r = c.requires.row in let k = c.requires.column in let v = sign_of c.args.row c.args.column in
    bounded_around 1 _ (v 0) (v 1) (v 2) (returns-clause-value c)
    (bias_lane (lane c.args.row 0) (lane c.args.column 0) r.first k.first).1
    (bias_lane (lane c.args.row 1) (lane c.args.column 1) r.second k.second).1
    (bias_lane (lane c.args.row 2) (lane c.args.column 2) r.third k.third).1
