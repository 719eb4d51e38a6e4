use Rattle.std.proofs.Common.{arith, ℕ, ℤ, ◌<◌, ◌^◌, ◌+◌}
use Rattle.std.proofs.lemmas.Int.{ints}
use Rattle.cull_base.specs.Bounds.{Bounded}
use Rattle.edge_lanes.specs.Lanes.{subtile_step}
use Rattle.edge_lanes.proofs.Lanes.{all_of_eight, mask_of_eight, narrow_bounded_test}
use Rattle.edge_lanes.proofs.Subtiles.{narrow_moved_fits, narrow_step-bounded}
use Rattle.edge_lanes.proofs.narrow_edge.NarrowEdge.subtile_signs.Goals as goal

wider : (s : ℤ) → Bounded (2 ^ 30 + 2 ^ 24) s → Bounded (2 ^ 30 + 2 ^ 26) s
wider s b = omega (arith, ints)

pub overflow_add-result : goal.overflow_add-result
overflow_add-result c =
    let e = c.args.self.now in let are = e.are_subtiles in
    rw are (all_of_eight _ (λ (k : ℕ) (l : k < 8). narrow_moved_fits c.args.value (subtile_step e.column e.row k) (wider c.args.value c.requires) (narrow_step-bounded e.column e.row k l e.column_bounded e.row_bounded)))

pub returns : goal.returns
returns c =
    let e = c.args.self.now in let are = e.are_subtiles in
    rw are (mask_of_eight _ _ (λ (k : ℕ) (l : k < 8). narrow_bounded_test c.args.value (subtile_step e.column e.row k) c.requires (narrow_step-bounded e.column e.row k l e.column_bounded e.row_bounded)))
