use Rattle.std.proofs.Common.{◌^◌, ◌∙◌, FitsSigned, w32, arith, sym}
use Rattle.std.proofs.lemmas.Int.{to_z-of_z}
use Rattle.edge_lanes.specs.Around.{lane}
use Rattle.edge_lanes.proofs.Around.{around_same, lane_passed, lane_passed-bounded, lanes_back, lanes_through}
use Rattle.edge_lanes.proofs.small_edges.from_lanes.Goals as goal

pub of-requires-clause-column : goal.of-requires-clause-column
of-requires-clause-column c = lane_passed-bounded (2 ^ 10) c.args.column 0 (omega arith) c.requires.column c.requires.column.first

pub of-requires-clause-row : goal.of-requires-clause-row
of-requires-clause-row c = lane_passed-bounded (2 ^ 10) c.args.row 0 (omega arith) c.requires.row c.requires.row.first

pub of-requires-2-clause-column : goal.of-requires-2-clause-column
of-requires-2-clause-column c = lane_passed-bounded (2 ^ 10) c.args.column 1 (omega arith) c.requires.column c.requires.column.second

pub of-requires-2-clause-row : goal.of-requires-2-clause-row
of-requires-2-clause-row c = lane_passed-bounded (2 ^ 10) c.args.row 1 (omega arith) c.requires.row c.requires.row.second

pub of-requires-3-clause-column : goal.of-requires-3-clause-column
of-requires-3-clause-column c = lane_passed-bounded (2 ^ 10) c.args.column 2 (omega arith) c.requires.column c.requires.column.third

pub of-requires-3-clause-row : goal.of-requires-3-clause-row
of-requires-3-clause-row c = lane_passed-bounded (2 ^ 10) c.args.row 2 (omega arith) c.requires.row c.requires.row.third

pub returns-clause-start : goal.returns-clause-start
returns-clause-start c = lanes_back (2 ^ 20) c.args.start (omega arith) c.requires.start

pub returns-clause-column : goal.returns-clause-column
returns-clause-column c = lanes_back (2 ^ 10) c.args.column (omega arith) c.requires.column

pub returns-clause-row : goal.returns-clause-row
returns-clause-row c = lanes_back (2 ^ 10) c.args.row (omega arith) c.requires.row

pub invariant_of-result : goal.invariant_of-result
invariant_of-result c =
    let fr : FitsSigned w32 c.args.right = c.ranges.right in let fb : FitsSigned w32 c.args.below = c.ranges.below in
    let h = c.requires.column in let k = c.requires.row in
    record {
      right_bounded = simp to_z-of_z c.requires.right;
      below_bounded = simp to_z-of_z c.requires.below;
      start_bounded = lanes_through (2 ^ 20) c.args.start (omega arith) c.requires.start;
      are_columns = lanes_back (2 ^ 10) c.args.column (omega arith) h ∙ h.are_three
          ∙ around_same (lane c.args.column 0) (lane c.args.column 1) (lane c.args.column 2) c.of.result.column c.of-2.result.column c.of-3.result.column
          (sym (c.of.ensures.column ∙ lane_passed (2 ^ 10) c.args.column 0 (omega arith) h h.first))
          (sym (c.of-2.ensures.column ∙ lane_passed (2 ^ 10) c.args.column 1 (omega arith) h h.second))
          (sym (c.of-3.ensures.column ∙ lane_passed (2 ^ 10) c.args.column 2 (omega arith) h h.third));
      are_rows = lanes_back (2 ^ 10) c.args.row (omega arith) k ∙ k.are_three
          ∙ around_same (lane c.args.row 0) (lane c.args.row 1) (lane c.args.row 2) c.of.result.row c.of-2.result.row c.of-3.result.row
          (sym (c.of.ensures.row ∙ lane_passed (2 ^ 10) c.args.row 0 (omega arith) k k.first))
          (sym (c.of-2.ensures.row ∙ lane_passed (2 ^ 10) c.args.row 1 (omega arith) k k.second))
          (sym (c.of-3.ensures.row ∙ lane_passed (2 ^ 10) c.args.row 2 (omega arith) k k.third));
    }
