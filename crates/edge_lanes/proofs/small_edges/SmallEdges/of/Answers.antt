use Rattle.std.proofs.Common.{◌∙◌, ◌^◌, pos, refl, arith, rules, FitsSigned, slice_index_or, w32}
use Rattle.std.proofs.lemmas.Int.{to_z-of_z}
use Rattle.cull_base.specs.declared.triangle.Side.TheVariants.{Occluder}
use Rattle.edge_lanes.specs.Inside.{inside_small, small_lines}
use Rattle.edge_lanes.proofs.Around.{lanes_back, lanes_through}
use Rattle.edge_lanes.proofs.Sides.{inside_lines-covered}
use Rattle.edge_lanes.proofs.SmallSteps.{close_around, close_back}
use Rattle.edge_lanes.proofs.small_edges.SmallEdges.of.Goals as goal

pub is_little-requires-clause-row : goal.is_little-requires-clause-row
is_little-requires-clause-row c = lanes_through (2 ^ 30) c.steps_around-row.result (omega arith) c.steps_around-row.ensures.bounded

pub is_little-requires-clause-column : goal.is_little-requires-clause-column
is_little-requires-clause-column c = lanes_through (2 ^ 30) c.steps_back-column.result (omega arith) c.steps_back-column.ensures.bounded

pub between-requires-clause-x : goal.between-requires-clause-x
between-requires-clause-x c =
    let f : FitsSigned w32 (slice_index_or c.x-x.result 0 (pos 0)) = search rules in
    close_around c.x-x.result c.steps_around-row.result c.steps_around-row.ensures.value c.steps_around-row.ensures.bounded (c.is_little.ensures.row c.if-is_little.true) (simp to_z-of_z at (c.is_little.ensures.x c.if-is_little.true))

pub between-requires-clause-y : goal.between-requires-clause-y
between-requires-clause-y c =
    let f : FitsSigned w32 (slice_index_or c.y-y.result 0 (pos 0)) = search rules in
    close_back c.y-y.result c.steps_back-column.result c.steps_back-column.ensures.value c.steps_back-column.ensures.bounded (c.is_little.ensures.column c.if-is_little.true) (simp to_z-of_z at (c.is_little.ensures.y c.if-is_little.true))

pub between-requires-clause-row : goal.between-requires-clause-row
between-requires-clause-row c = lanes_back (2 ^ 30) c.steps_around-row.result (omega arith) c.steps_around-row.ensures.bounded ∙ c.steps_around-row.ensures.value

pub between-requires-clause-column : goal.between-requires-clause-column
between-requires-clause-column c = lanes_back (2 ^ 30) c.steps_back-column.result (omega arith) c.steps_back-column.ensures.bounded ∙ c.steps_back-column.ensures.value

pub returns-then-is_little : goal.returns-then-is_little
unfolding inside_small
returns-then-is_little c =
    let ex = c.x-x.ensures.value in let ey = c.y-y.ensures.value in
    let p = c.between.ensures.first in let q = c.between.ensures.second in let r = c.between.ensures.third in
    inside_lines-covered (small_lines c.between.result) Occluder c.args.tri.now (record { first = rw (ex, ey) at p; second = rw (ex, ey) at q; third = rw (ex, ey) at r }) refl
