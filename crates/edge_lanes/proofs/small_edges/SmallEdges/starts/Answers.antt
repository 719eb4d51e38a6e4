use Rattle.std.proofs.Common.{◌≡◌, ◌∙◌, ◌^◌, ◌+◌, ◌*◌, pos, ◌-ℤ◌, FitsSigned, w32, arith, rules}
use Rattle.std.proofs.lemmas.Int.{to_z-of_z}
use Rattle.edge_lanes.specs.Around.{AreBounded, AreStarts}
use Rattle.edge_lanes.specs.Inside.{small_lines}
use Rattle.edge_lanes.specs.declared.small_edges.SmallEdges.{SmallEdges}
use Rattle.edge_lanes.proofs.Around.{bounded_around, lanes_back, lanes_through, through}
use Rattle.edge_lanes.proofs.SmallSteps.{starts_held}
use Rattle.edge_lanes.proofs.small_edges.SmallEdges.starts.Goals as goal

pub moved-requires-clause-start : goal.moved-requires-clause-start
moved-requires-clause-start c = lanes_through (2 ^ 20) c.args.self.now.start (omega arith) c.args.self.now.start_bounded

columns_bounded : (e : SmallEdges) → AreBounded (2 ^ 10) e.column
columns_bounded e = bounded_around (2 ^ 10) e.column e.first.column e.second.column e.third.column e.are_columns e.first.column_bounded e.second.column_bounded e.third.column_bounded

rows_bounded : (e : SmallEdges) → AreBounded (2 ^ 10) e.row
rows_bounded e = bounded_around (2 ^ 10) e.row e.first.row e.second.row e.third.row e.are_rows e.first.row_bounded e.second.row_bounded e.third.row_bounded

pub moved-requires-clause-column : goal.moved-requires-clause-column
moved-requires-clause-column c = lanes_through (2 ^ 10) c.args.self.now.column (omega arith) (columns_bounded c.args.self.now)

pub moved-requires-clause-row : goal.moved-requires-clause-row
moved-requires-clause-row c = lanes_through (2 ^ 10) c.args.self.now.row (omega arith) (rows_bounded c.args.self.now)

pub held-requires : goal.held-requires
held-requires c = lanes_through (2 ^ 30 + 2 ^ 20) c.moved.result (omega arith) c.moved.ensures.bounded

pub returns-clause-value : goal.returns-clause-value
returns-clause-value c =
    let e = c.args.self.now in
    let fr : FitsSigned w32 e.right = search rules in let fb : FitsSigned w32 e.below = search rules in
    let fa : FitsSigned w32 c.pixels_past-across.result = search rules in let fd : FitsSigned w32 c.pixels_past-down.result = search rules in
    let eh : through c.held.result ≡ c.held.result = lanes_back (2 ^ 14) c.held.result (omega arith) c.held.ensures.bounded in
    let em : through c.moved.result ≡ c.moved.result = lanes_back (2 ^ 30 + 2 ^ 20) c.moved.result (omega arith) c.moved.ensures.bounded in
    let es : through e.start ≡ e.start = lanes_back (2 ^ 20) e.start (omega arith) e.start_bounded in
    let ec : through e.column ≡ e.column = lanes_back (2 ^ 10) e.column (omega arith) (columns_bounded e) in
    let er : through e.row ≡ e.row = lanes_back (2 ^ 10) e.row (omega arith) (rows_bounded e) in
    let vh = rw em at c.held.ensures.value in
    let vm = rw (es, ec, er) at (simp to_z-of_z at c.moved.ensures.value) in
    let ea : c.pixels_past-across.result ≡ pos (8 * c.args.sub.column) -ℤ e.right = simp to_z-of_z at c.pixels_past-across.ensures.value ∙ search rules in
    let ed : c.pixels_past-down.result ≡ pos (4 * c.args.sub.row) -ℤ e.below = simp to_z-of_z at c.pixels_past-down.ensures.value ∙ search rules in
    let all : AreStarts (small_lines e) c.args.sub c.held.result = starts_held e.start e.column e.row c.held.result c.moved.result e.right e.below c.pixels_past-across.result c.pixels_past-down.result e.first e.second e.third c.args.sub
    vh vm e.are_columns e.are_rows ea ed in
    rw eh all

pub returns-clause-bounded : goal.returns-clause-bounded
returns-clause-bounded c = lanes_through (2 ^ 14) c.held.result (omega arith) c.held.ensures.bounded
