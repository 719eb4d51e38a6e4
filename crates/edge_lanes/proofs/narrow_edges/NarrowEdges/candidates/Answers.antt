use Rattle.std.proofs.Common.{arith, FitsSigned, w32}
use Rattle.std.proofs.lemmas.Int.{to_z-of_z}
use Rattle.edge_lanes.specs.Inside.{narrow_line}
use Rattle.edge_lanes.proofs.Subtiles.{candidates_byte}
use Rattle.edge_lanes.proofs.narrow_edges.NarrowEdges.candidates.Goals as goal

pub returns-clause-byte : goal.returns-clause-byte
returns-clause-byte c = let fu : FitsSigned w32 c.args.third = c.ranges.third in candidates_byte c.candidates-first.result c.candidates-second.result c.candidates-third.result (narrow_line c.args.self.now.third) c.args.third (simp to_z-of_z at c.candidates-third.ensures)

pub overflow_cast-result : goal.overflow_cast-result
overflow_cast-result c = let byte = returns-clause-byte c in omega arith
