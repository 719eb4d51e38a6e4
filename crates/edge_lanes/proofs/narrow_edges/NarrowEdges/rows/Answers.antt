use Rattle.std.proofs.Common.{FitsSigned, w32}
use Rattle.std.proofs.lemmas.Int.{to_z-of_z}
use Rattle.edge_lanes.specs.Inside.{narrow_lines}
use Rattle.edge_lanes.specs.Lines.{inside_all, inside_from}
use Rattle.edge_lanes.proofs.Masks.{mask_from_rows, row_byte, row_of-all}
use Rattle.edge_lanes.proofs.narrow_edges.NarrowEdges.rows.Goals as goal

pub in_each-requires : goal.in_each-requires
in_each-requires c = row_byte _ _ _ c.rows-c.ensures.first

pub in_each-requires-2 : goal.in_each-requires-2
in_each-requires-2 c = row_byte _ _ _ c.rows-c.ensures.second

pub in_each-requires-3 : goal.in_each-requires-3
in_each-requires-3 c = row_byte _ _ _ c.rows-c.ensures.third

pub in_each-requires-4 : goal.in_each-requires-4
in_each-requires-4 c = row_byte _ _ _ c.rows-c.ensures.fourth

pub returns : goal.returns
returns c =
    let fs : FitsSigned w32 c.args.first = c.ranges.first in let ft : FitsSigned w32 c.args.second = c.ranges.second in let fu : FitsSigned w32 c.args.third = c.ranges.third in
    let e = narrow_lines c.args.self.now in let f = inside_from e.first c.args.first in let g = inside_from e.second c.args.second in let h = inside_from e.third c.args.third in
    mask_from_rows (inside_all e c.args.first c.args.second c.args.third) c.in_each.result c.in_each-2.result c.in_each-3.result c.in_each-4.result c.mask_of_rows.result c.mask_of_rows.ensures
    (row_of-all f g h 0 c.rows-a.result.first c.rows-b.result.first c.rows-c.result.first c.in_each.result c.in_each.ensures.value (simp to_z-of_z at c.rows-a.ensures.first) (simp to_z-of_z at c.rows-b.ensures.first) (simp to_z-of_z at c.rows-c.ensures.first))
    (row_of-all f g h 1 c.rows-a.result.second c.rows-b.result.second c.rows-c.result.second c.in_each-2.result c.in_each-2.ensures.value (simp to_z-of_z at c.rows-a.ensures.second) (simp to_z-of_z at c.rows-b.ensures.second) (simp to_z-of_z at c.rows-c.ensures.second))
    (row_of-all f g h 2 c.rows-a.result.third c.rows-b.result.third c.rows-c.result.third c.in_each-3.result c.in_each-3.ensures.value (simp to_z-of_z at c.rows-a.ensures.third) (simp to_z-of_z at c.rows-b.ensures.third) (simp to_z-of_z at c.rows-c.ensures.third))
    (row_of-all f g h 3 c.rows-a.result.fourth c.rows-b.result.fourth c.rows-c.result.fourth c.in_each-4.result c.in_each-4.ensures.value (simp to_z-of_z at c.rows-a.ensures.fourth) (simp to_z-of_z at c.rows-b.ensures.fourth) (simp to_z-of_z at c.rows-c.ensures.fourth))
