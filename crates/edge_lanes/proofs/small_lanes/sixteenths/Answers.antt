use Rattle.std.proofs.Common.{◌^◌, ◌+ℤ◌, pos, arith}
use Rattle.std.specs.Int.{int_div_euclid}
use Rattle.edge_lanes.specs.Around.{lane}
use Rattle.edge_lanes.proofs.Around.{bounded_around, sixteenth_lane, sum_fits}
use Rattle.edge_lanes.proofs.small_lanes.sixteenths.Goals as goal

pub overflow_add-biased : goal.overflow_add-biased
overflow_add-biased c =
    let h = c.requires.values in let k = c.requires.biases in let e = h.are_three in let f = k.are_three in
    let a = sum_fits (2 ^ 22) 1 (lane c.args.values 0) (lane c.args.biases 0) (omega arith) (omega arith) (omega arith) h.first k.first in
    let b = sum_fits (2 ^ 22) 1 (lane c.args.values 1) (lane c.args.biases 1) (omega arith) (omega arith) (omega arith) h.second k.second in
    let d = sum_fits (2 ^ 22) 1 (lane c.args.values 2) (lane c.args.biases 2) (omega arith) (omega arith) (omega arith) h.third k.third in
    rw (e, f) (a, (b, (d, (a, tt))))

pub returns-clause-value : goal.returns-clause-value
returns-clause-value c =
    let h = c.requires.values in let k = c.requires.biases in let e = h.are_three in let f = k.are_three in
    let x = (sixteenth_lane (lane c.args.values 0) (lane c.args.biases 0) h.first k.first).0 in
    let y = (sixteenth_lane (lane c.args.values 1) (lane c.args.biases 1) h.second k.second).0 in
    let z = (sixteenth_lane (lane c.args.values 2) (lane c.args.biases 2) h.third k.third).0 in
    rw (e, f) cc

pub returns-clause-bounded : goal.returns-clause-bounded
returns-clause-bounded c =
    let h = c.requires.values in let k = c.requires.biases in
    let a = lane c.args.values 0 +ℤ lane c.args.biases 0 in let b = lane c.args.values 1 +ℤ lane c.args.biases 1 in let d = lane c.args.values 2 +ℤ lane c.args.biases 2 in
    bounded_around (2 ^ 20) _ (int_div_euclid a (pos 16)) (int_div_euclid b (pos 16)) (int_div_euclid d (pos 16)) (returns-clause-value c)
    (sixteenth_lane (lane c.args.values 0) (lane c.args.biases 0) h.first k.first).1
    (sixteenth_lane (lane c.args.values 1) (lane c.args.biases 1) h.second k.second).1
    (sixteenth_lane (lane c.args.values 2) (lane c.args.biases 2) h.third k.third).1
