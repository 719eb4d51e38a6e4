use Rattle.std.proofs.Common.{FitsSigned, w64, sym}
use Rattle.std.proofs.lemmas.Int.{to_z-of_z}
use Rattle.edge_lanes.specs.Lines.{inside_from}
use Rattle.edge_lanes.specs.Inside.{wide_line}
use Rattle.edge_lanes.proofs.Masks.{mask_of_rows}
use Rattle.edge_lanes.proofs.wide_edge.WideEdge.rows.Goals as goal

pub returns : goal.returns
returns c =
    let fs : FitsSigned w64 c.args.start = c.ranges.start in
    let e0 = simp to_z-of_z at c.row_of.ensures.value in let e1 = simp to_z-of_z at c.row_of-2.ensures.value in
    let e2 = simp to_z-of_z at c.row_of-3.ensures.value in let e3 = simp to_z-of_z at c.row_of-4.ensures.value in
    rw (e0, e1, e2, e3) (sym (mask_of_rows (inside_from (wide_line c.args.self.now) c.args.start)))
