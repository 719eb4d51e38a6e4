use Rattle.std.proofs.Common.{◌^◌, ◌+◌, arith}
use Rattle.edge_lanes.specs.Around.{lane, value_from}
use Rattle.edge_lanes.proofs.Around.{bounded_around, moved_lane, products_fit}
use Rattle.edge_lanes.proofs.small_lanes.moved.Goals as goal

pub overflow_mul-columns : goal.overflow_mul-columns
overflow_mul-columns c =
    let h = c.requires.column in let e = h.are_three in let v = c.args.column in let x = c.args.across in let k = c.requires.across in
    rw e (products_fit (2 ^ 10) (2 ^ 19) (lane v 0) (lane v 1) (lane v 2) x x x (omega arith) (omega arith) (omega arith) h.first h.second h.third k k k)

pub overflow_mul-rows : goal.overflow_mul-rows
overflow_mul-rows c =
    let h = c.requires.row in let e = h.are_three in let v = c.args.row in let x = c.args.down in let k = c.requires.down in
    rw e (products_fit (2 ^ 10) (2 ^ 19) (lane v 0) (lane v 1) (lane v 2) x x x (omega arith) (omega arith) (omega arith) h.first h.second h.third k k k)

pub overflow_add-beside : goal.overflow_add-beside
overflow_add-beside c =
    let s = c.requires.start in let k = c.requires.column in let r = c.requires.row in let p = c.requires.across in let q = c.requires.down in
    let es = s.are_three in let ek = k.are_three in
    let x = moved_lane (lane c.args.start 0) (lane c.args.column 0) c.args.across (lane c.args.row 0) c.args.down s.first k.first p r.first q in
    let y = moved_lane (lane c.args.start 1) (lane c.args.column 1) c.args.across (lane c.args.row 1) c.args.down s.second k.second p r.second q in
    let z = moved_lane (lane c.args.start 2) (lane c.args.column 2) c.args.across (lane c.args.row 2) c.args.down s.third k.third p r.third q in
    rw (es, ek) (x.0, (y.0, (z.0, (x.0, tt))))

pub overflow_add-result : goal.overflow_add-result
overflow_add-result c =
    let s = c.requires.start in let k = c.requires.column in let r = c.requires.row in let p = c.requires.across in let q = c.requires.down in
    let es = s.are_three in let ek = k.are_three in let er = r.are_three in
    let x = moved_lane (lane c.args.start 0) (lane c.args.column 0) c.args.across (lane c.args.row 0) c.args.down s.first k.first p r.first q in
    let y = moved_lane (lane c.args.start 1) (lane c.args.column 1) c.args.across (lane c.args.row 1) c.args.down s.second k.second p r.second q in
    let z = moved_lane (lane c.args.start 2) (lane c.args.column 2) c.args.across (lane c.args.row 2) c.args.down s.third k.third p r.third q in
    rw (es, ek, er) (x.1, (y.1, (z.1, (x.1, tt))))

pub returns-clause-value : goal.returns-clause-value
returns-clause-value c =
    let s = c.requires.start in let k = c.requires.column in let r = c.requires.row in let p = c.requires.across in let q = c.requires.down in
    let es = s.are_three in let ek = k.are_three in let er = r.are_three in
    let x = (moved_lane (lane c.args.start 0) (lane c.args.column 0) c.args.across (lane c.args.row 0) c.args.down s.first k.first p r.first q).2 in
    let y = (moved_lane (lane c.args.start 1) (lane c.args.column 1) c.args.across (lane c.args.row 1) c.args.down s.second k.second p r.second q).2 in
    let z = (moved_lane (lane c.args.start 2) (lane c.args.column 2) c.args.across (lane c.args.row 2) c.args.down s.third k.third p r.third q).2 in
    rw (es, ek, er) cc

pub returns-clause-bounded : goal.returns-clause-bounded
returns-clause-bounded c =
    let s = c.requires.start in let k = c.requires.column in let r = c.requires.row in let p = c.requires.across in let q = c.requires.down in
    let v = value_from c.args.start c.args.column c.args.row c.args.across c.args.down in
    bounded_around (2 ^ 30 + 2 ^ 20) _ (v 0) (v 1) (v 2) (returns-clause-value c)
    (moved_lane (lane c.args.start 0) (lane c.args.column 0) c.args.across (lane c.args.row 0) c.args.down s.first k.first p r.first q).3
    (moved_lane (lane c.args.start 1) (lane c.args.column 1) c.args.across (lane c.args.row 1) c.args.down s.second k.second p r.second q).3
    (moved_lane (lane c.args.start 2) (lane c.args.column 2) c.args.across (lane c.args.row 2) c.args.down s.third k.third p r.third q).3
