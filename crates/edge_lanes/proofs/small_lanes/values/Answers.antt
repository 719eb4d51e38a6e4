use Rattle.std.proofs.Common.{◌^◌, arith}
use Rattle.edge_lanes.specs.Around.{lane, value_past}
use Rattle.edge_lanes.proofs.Around.{bounded_around, products_fit, value_lane}
use Rattle.edge_lanes.proofs.small_lanes.values.Goals as goal

pub overflow_mul-down : goal.overflow_mul-down
overflow_mul-down c =
    let h = c.requires.row in let k = c.requires.below in let e = h.are_three in let f = k.are_three in let v = c.args.row in let w = c.args.below in
    rw (e, f) (products_fit (2 ^ 10) (2 ^ 11) (lane v 0) (lane v 1) (lane v 2) (lane w 0) (lane w 1) (lane w 2) (omega arith) (omega arith) (omega arith) h.first h.second h.third k.first k.second k.third)

pub overflow_mul-across : goal.overflow_mul-across
overflow_mul-across c =
    let h = c.requires.column in let k = c.requires.right in let e = h.are_three in let f = k.are_three in let v = c.args.column in let w = c.args.right in
    rw (e, f) (products_fit (2 ^ 10) (2 ^ 11) (lane v 0) (lane v 1) (lane v 2) (lane w 0) (lane w 1) (lane w 2) (omega arith) (omega arith) (omega arith) h.first h.second h.third k.first k.second k.third)

pub overflow_add-result : goal.overflow_add-result
overflow_add-result c =
    let r = c.requires.row in let b = c.requires.below in let k = c.requires.column in let g = c.requires.right in
    let er = r.are_three in let eb = b.are_three in let ek = k.are_three in let eg = g.are_three in
    let x = value_lane (lane c.args.row 0) (lane c.args.below 0) (lane c.args.column 0) (lane c.args.right 0) r.first b.first k.first g.first in
    let y = value_lane (lane c.args.row 1) (lane c.args.below 1) (lane c.args.column 1) (lane c.args.right 1) r.second b.second k.second g.second in
    let z = value_lane (lane c.args.row 2) (lane c.args.below 2) (lane c.args.column 2) (lane c.args.right 2) r.third b.third k.third g.third in
    rw (er, eb, ek, eg) (x.0, (y.0, (z.0, (x.0, tt))))

pub returns-clause-value : goal.returns-clause-value
returns-clause-value c =
    let r = c.requires.row in let b = c.requires.below in let k = c.requires.column in let g = c.requires.right in
    let er = r.are_three in let eb = b.are_three in let ek = k.are_three in let eg = g.are_three in
    let x = (value_lane (lane c.args.row 0) (lane c.args.below 0) (lane c.args.column 0) (lane c.args.right 0) r.first b.first k.first g.first).1 in
    let y = (value_lane (lane c.args.row 1) (lane c.args.below 1) (lane c.args.column 1) (lane c.args.right 1) r.second b.second k.second g.second).1 in
    let z = (value_lane (lane c.args.row 2) (lane c.args.below 2) (lane c.args.column 2) (lane c.args.right 2) r.third b.third k.third g.third).1 in
    rw (er, eb, ek, eg) cc

pub returns-clause-bounded : goal.returns-clause-bounded
returns-clause-bounded c =
    let r = c.requires.row in let b = c.requires.below in let k = c.requires.column in let g = c.requires.right in
    let v = value_past c.args.row c.args.column c.args.right c.args.below in
    bounded_around (2 ^ 22) _ (v 0) (v 1) (v 2) (returns-clause-value c)
    (value_lane (lane c.args.row 0) (lane c.args.below 0) (lane c.args.column 0) (lane c.args.right 0) r.first b.first k.first g.first).2
    (value_lane (lane c.args.row 1) (lane c.args.below 1) (lane c.args.column 1) (lane c.args.right 1) r.second b.second k.second g.second).2
    (value_lane (lane c.args.row 2) (lane c.args.below 2) (lane c.args.column 2) (lane c.args.right 2) r.third b.third k.third g.third).2
