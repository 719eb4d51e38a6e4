use Rattle.std.proofs.Common.{◌*◌, arith}
use Rattle.edge_lanes.proofs.Crossed.{Moves, moves}
use Rattle.edge_lanes.proofs.crossing.Crossing.first_parts.Goals as goal

moved : (c : goal.After-from) → Moves c.args.self.now.start c.args.self.now.step (8 * c.args.row)
moved c = moves c.args.self.now.start c.args.self.now.step (8 * c.args.row) (omega arith) c.args.self.now.start_bounded c.args.self.now.step_bounded

pub overflow_mul-result : goal.overflow_mul-result
overflow_mul-result c = let e = c.from.ensures in rw e (moved c).step_fits

pub overflow_add-result : goal.overflow_add-result
overflow_add-result c = let e = c.from.ensures in rw e (moved c).sum_fits

pub returns-clause-value : goal.returns-clause-value
returns-clause-value c = let e = c.from.ensures in rw e (moved c).value

pub returns-clause-bounded : goal.returns-clause-bounded
returns-clause-bounded c = let e = c.from.ensures in rw e (moved c).bounded
