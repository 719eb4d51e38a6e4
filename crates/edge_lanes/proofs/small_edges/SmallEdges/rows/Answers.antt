use Rattle.std.proofs.Common.{FitsSigned, w16}
use Rattle.std.proofs.lemmas.Int.{to_z-of_z}
use Rattle.edge_lanes.specs.Inside.{slopes}
use Rattle.edge_lanes.specs.Lines.{outside_any, outside_from}
use Rattle.edge_lanes.proofs.Masks.{mask_from_rows, row_byte}
use Rattle.edge_lanes.proofs.Outside.{inside_from_outside, row_of-any}
use Rattle.edge_lanes.proofs.small_edges.SmallEdges.rows.Goals as goal

pub in_any-requires : goal.in_any-requires
in_any-requires c = record { first = row_byte _ _ _ c.outside-a.ensures.first; second = row_byte _ _ _ c.outside-b.ensures.first; third = row_byte _ _ _ c.outside-c.ensures.first }

pub in_any-requires-2 : goal.in_any-requires-2
in_any-requires-2 c = record { first = row_byte _ _ _ c.outside-a.ensures.second; second = row_byte _ _ _ c.outside-b.ensures.second; third = row_byte _ _ _ c.outside-c.ensures.second }

pub in_any-requires-3 : goal.in_any-requires-3
in_any-requires-3 c = record { first = row_byte _ _ _ c.outside-a.ensures.third; second = row_byte _ _ _ c.outside-b.ensures.third; third = row_byte _ _ _ c.outside-c.ensures.third }

pub in_any-requires-4 : goal.in_any-requires-4
in_any-requires-4 c = record { first = row_byte _ _ _ c.outside-a.ensures.fourth; second = row_byte _ _ _ c.outside-b.ensures.fourth; third = row_byte _ _ _ c.outside-c.ensures.fourth }

pub returns : goal.returns
returns c =
    let fs : FitsSigned w16 c.args.first = c.ranges.first in let ft : FitsSigned w16 c.args.second = c.ranges.second in let fu : FitsSigned w16 c.args.third = c.ranges.third in
    let e = slopes c.args.self.now in let s = c.args.first in let t = c.args.second in let u = c.args.third in
    let f = outside_from e.first s in let g = outside_from e.second t in let h = outside_from e.third u in
    inside_from_outside e s t u c.mask_of_rows.result c.others.result
    (mask_from_rows (outside_any e s t u) c.in_any.result c.in_any-2.result c.in_any-3.result c.in_any-4.result c.mask_of_rows.result c.mask_of_rows.ensures
    (row_of-any f g h 0 c.outside-a.result.first c.outside-b.result.first c.outside-c.result.first c.in_any.result c.in_any.ensures.value (simp to_z-of_z at c.outside-a.ensures.first) (simp to_z-of_z at c.outside-b.ensures.first) (simp to_z-of_z at c.outside-c.ensures.first))
    (row_of-any f g h 1 c.outside-a.result.second c.outside-b.result.second c.outside-c.result.second c.in_any-2.result c.in_any-2.ensures.value (simp to_z-of_z at c.outside-a.ensures.second) (simp to_z-of_z at c.outside-b.ensures.second) (simp to_z-of_z at c.outside-c.ensures.second))
    (row_of-any f g h 2 c.outside-a.result.third c.outside-b.result.third c.outside-c.result.third c.in_any-3.result c.in_any-3.ensures.value (simp to_z-of_z at c.outside-a.ensures.third) (simp to_z-of_z at c.outside-b.ensures.third) (simp to_z-of_z at c.outside-c.ensures.third))
    (row_of-any f g h 3 c.outside-a.result.fourth c.outside-b.result.fourth c.outside-c.result.fourth c.in_any-4.result c.in_any-4.ensures.value (simp to_z-of_z at c.outside-a.ensures.fourth) (simp to_z-of_z at c.outside-b.ensures.fourth) (simp to_z-of_z at c.outside-c.ensures.fourth)))
    c.others.ensures
