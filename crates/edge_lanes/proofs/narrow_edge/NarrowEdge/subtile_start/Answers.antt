use Rattle.std.proofs.Common.{ℤ, ◌^◌, ◌+◌, ◌+ℤ◌, arith}
use Rattle.std.proofs.lemmas.Int.{ints}
use Rattle.cull_base.specs.Bounds.{Bounded}
use Rattle.edge_lanes.specs.Lanes.{subtile_step}
use Rattle.edge_lanes.proofs.Subtiles.{index-subtile_steps, narrow_moved_fits, narrow_moved_is, narrow_step-bounded}
use Rattle.edge_lanes.proofs.narrow_edge.NarrowEdge.subtile_start.Goals as goal

wider : (s : ℤ) → Bounded (2 ^ 30) s → Bounded (2 ^ 30 + 2 ^ 26) s
wider s b = omega (arith, ints)

sum_bounded : (s o : ℤ) → Bounded (2 ^ 30) s → Bounded (2 ^ 25) o → Bounded (2 ^ 30 + 2 ^ 25) (s +ℤ o)
sum_bounded s o b d = omega (arith, ints)

pub overflow_add-result : goal.overflow_add-result
overflow_add-result c =
    let e = c.args.self.now in
    let is = e.are_subtiles in let at = index-subtile_steps e.column e.row c.args.j c.requires.j in
    rw (is, at) (narrow_moved_fits c.args.start (subtile_step e.column e.row c.args.j) (wider c.args.start c.requires.start) (narrow_step-bounded e.column e.row c.args.j c.requires.j e.column_bounded e.row_bounded))

pub returns-clause-value : goal.returns-clause-value
returns-clause-value c =
    let e = c.args.self.now in
    let is = e.are_subtiles in let at = index-subtile_steps e.column e.row c.args.j c.requires.j in
    rw (is, at) (narrow_moved_is c.args.start (subtile_step e.column e.row c.args.j) (wider c.args.start c.requires.start) (narrow_step-bounded e.column e.row c.args.j c.requires.j e.column_bounded e.row_bounded))

pub returns-clause-bounded : goal.returns-clause-bounded
returns-clause-bounded c =
    let e = c.args.self.now in
    let v = returns-clause-value c in
    rw v (sum_bounded c.args.start (subtile_step e.column e.row c.args.j) c.requires.start (narrow_step-bounded e.column e.row c.args.j c.requires.j e.column_bounded e.row_bounded))
