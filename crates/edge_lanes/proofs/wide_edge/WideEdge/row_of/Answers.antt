use Rattle.std.proofs.Common.{FitsSigned, w64, rules, ◌≡◌, ℕ, ℤ, pos, ◌+ℤ◌, ◌*ℤ◌, map}
use Rattle.std.specs.Simd.Lanes.{mask_l}
use Rattle.std.proofs.lemmas.Int.{to_z-of_z}
use Rattle.edge_lanes.specs.Lanes.{columns, row_of, is_not_negative}
use Rattle.edge_lanes.specs.Lines.{Line, inside_from}
use Rattle.edge_lanes.specs.Inside.{wide_line}
use Rattle.edge_lanes.proofs.Masks.{row_byte, row_of_test}
use Rattle.edge_lanes.proofs.wide_edge.WideEdge.row_of.Goals as goal

joined : (e : Line) (s t v : ℤ) (row m : ℕ) → m ≡ mask_l (map (λ c. is_not_negative (t +ℤ (e.column *ℤ pos c))) columns) → t ≡ s +ℤ v → v ≡ e.row *ℤ pos row → m ≡ row_of (inside_from e s) row
joined e s t v row m em et ev = rw (em, et, ev) (row_of_test (λ r c. is_not_negative ((s +ℤ (e.row *ℤ pos r)) +ℤ (e.column *ℤ pos c))) row)

pub returns-clause-value : goal.returns-clause-value
returns-clause-value c =
    let fs : FitsSigned w64 c.args.start = c.ranges.start in
    let fr : FitsSigned w64 c.args.self.now.row = search rules in
    let ft : FitsSigned w64 c.move_by.result = search rules in
    let fv : FitsSigned w64 c.steps.result = search rules in
    joined (wide_line c.args.self.now) c.args.start c.move_by.result c.steps.result c.args.row c.columns.result
    (simp to_z-of_z at c.columns.ensures) (simp to_z-of_z at c.move_by.ensures.value) (simp to_z-of_z at c.steps.ensures.value)

pub returns-clause-byte : goal.returns-clause-byte
returns-clause-byte c = row_byte _ _ _ (returns-clause-value c)
