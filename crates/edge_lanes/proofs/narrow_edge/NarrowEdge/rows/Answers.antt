use Rattle.std.proofs.Common.{arith, ℕ, ℤ, Bool, pos, ◌+ℤ◌, ◌*ℤ◌, ◌<◌}
use Rattle.std.proofs.lemmas.Int.{ints}
use Rattle.edge_lanes.specs.Lanes.{is_not_negative}
use Rattle.edge_lanes.specs.declared.narrow_edge.NarrowEdge.{NarrowEdge}
use Rattle.edge_lanes.proofs.Inside.{step-bounded}
use Rattle.edge_lanes.proofs.Lanes.{first_row_test, second_row_test, third_row_test, fourth_row_test}
use Rattle.edge_lanes.proofs.Masks.{row_of_lanes}
use Rattle.edge_lanes.proofs.narrow_edge.NarrowEdge.rows.Goals as goal

pub overflow_add-first : goal.overflow_add-first
overflow_add-first c = let are = c.args.self.now.are_columns in rw are (omega (arith, ints, c.requires, c.args.self.now.column_bounded, c.args.self.now.row_bounded, c.ranges))

pub overflow_add-second : goal.overflow_add-second
overflow_add-second c = let are = c.args.self.now.are_columns in rw are (omega (arith, ints, c.requires, c.args.self.now.column_bounded, c.args.self.now.row_bounded, c.ranges))

pub overflow_add-third : goal.overflow_add-third
overflow_add-third c = let are = c.args.self.now.are_columns in rw are (omega (arith, ints, c.requires, c.args.self.now.column_bounded, c.args.self.now.row_bounded, c.ranges))

pub overflow_add-fourth : goal.overflow_add-fourth
overflow_add-fourth c = let are = c.args.self.now.are_columns in rw are (omega (arith, ints, c.requires, c.args.self.now.column_bounded, c.args.self.now.row_bounded, c.ranges))

abbrev tests : NarrowEdge → ℤ → ℕ → ℕ → Bool
tests e s r k = is_not_negative ((s +ℤ (e.row *ℤ pos r)) +ℤ (e.column *ℤ pos k))

pub returns-clause-first : goal.returns-clause-first
returns-clause-first c = let e = c.args.self.now in let are = e.are_columns in rw are (row_of_lanes _ (tests e c.args.start) 0 (λ (k : ℕ) (l : k < 8). first_row_test c.args.start (e.column *ℤ pos k) e.row c.requires (step-bounded e.column k (omega arith) e.column_bounded) e.row_bounded))

pub returns-clause-second : goal.returns-clause-second
returns-clause-second c = let e = c.args.self.now in let are = e.are_columns in rw are (row_of_lanes _ (tests e c.args.start) 1 (λ (k : ℕ) (l : k < 8). second_row_test c.args.start (e.column *ℤ pos k) e.row c.requires (step-bounded e.column k (omega arith) e.column_bounded) e.row_bounded))

pub returns-clause-third : goal.returns-clause-third
returns-clause-third c = let e = c.args.self.now in let are = e.are_columns in rw are (row_of_lanes _ (tests e c.args.start) 2 (λ (k : ℕ) (l : k < 8). third_row_test c.args.start (e.column *ℤ pos k) e.row c.requires (step-bounded e.column k (omega arith) e.column_bounded) e.row_bounded))

pub returns-clause-fourth : goal.returns-clause-fourth
returns-clause-fourth c = let e = c.args.self.now in let are = e.are_columns in rw are (row_of_lanes _ (tests e c.args.start) 3 (λ (k : ℕ) (l : k < 8). fourth_row_test c.args.start (e.column *ℤ pos k) e.row c.requires (step-bounded e.column k (omega arith) e.column_bounded) e.row_bounded))
