use Rattle.std.proofs.Common.{FitsSigned, w64, rules}
use Rattle.std.proofs.lemmas.Int.{to_z-of_z}
use Rattle.edge_lanes.specs.Inside.{wide_line}
use Rattle.edge_lanes.proofs.Inside.{tile_value-shifted}
use Rattle.edge_lanes.proofs.wide_edge.WideEdge.tile_start.Goals as goal

pub returns-clause-value : goal.returns-clause-value
returns-clause-value c =
    let fc : FitsSigned w64 c.args.self.now.column = search rules in
    let fr : FitsSigned w64 c.args.self.now.row = search rules in
    let fs : FitsSigned w64 c.args.self.now.start = search rules in
    let fa : FitsSigned w64 c.steps.result = search rules in
    let fb : FitsSigned w64 c.steps-2.result = search rules in
    let fm : FitsSigned w64 c.shift.result = search rules in
    simp to_z-of_z (tile_value-shifted (wide_line c.args.self.now) c.args.tile c.steps.result c.steps-2.result c.shift.result _ _
    (simp to_z-of_z at c.shift.ensures.value) (simp to_z-of_z at c.steps.ensures.value) (simp to_z-of_z at c.steps-2.ensures.value) (search rules) (search rules))
