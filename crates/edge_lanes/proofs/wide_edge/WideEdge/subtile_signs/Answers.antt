use Rattle.std.proofs.Common.{FitsSigned, rules, w64, ℕ, ◌<◌}
use Rattle.std.proofs.lemmas.Int.{to_z-of_z}
use Rattle.edge_lanes.specs.Lanes.{subtile_step}
use Rattle.edge_lanes.proofs.Lanes.{all_of_eight, bounded_test, mask_of_eight}
use Rattle.edge_lanes.proofs.Subtiles.{moved_fits, wide_step-bounded}
use Rattle.edge_lanes.proofs.wide_edge.WideEdge.subtile_signs.Goals as goal

pub overflow_add-result : goal.overflow_add-result
overflow_add-result c =
    let e = c.args.self.now in
    let fc : FitsSigned w64 e.column = search rules in let fr : FitsSigned w64 e.row = search rules in
    let are = simp to_z-of_z at c.subtile_steps.ensures in
    rw are (all_of_eight _ (λ (k : ℕ) (l : k < 8). moved_fits c.args.value (subtile_step e.column e.row k) c.requires (wide_step-bounded e.column e.row k l e.column_bounded e.row_bounded)))

pub returns : goal.returns
returns c =
    let e = c.args.self.now in
    let fc : FitsSigned w64 e.column = search rules in let fr : FitsSigned w64 e.row = search rules in
    let are = simp to_z-of_z at c.subtile_steps.ensures in
    rw are (mask_of_eight _ _ (λ (k : ℕ) (l : k < 8). bounded_test c.args.value (subtile_step e.column e.row k) c.requires (wide_step-bounded e.column e.row k l e.column_bounded e.row_bounded)))
