use Rattle.std.proofs.Common.{arith, ℕ, ◌<◌, ◌*◌}
use Rattle.cull_base.proofs.EightLanes.{each_of_eight}
use Rattle.edge_lanes.proofs.Crossed.{lies}
use Rattle.edge_lanes.proofs.Lanes.{all_of_eight}
use Rattle.edge_lanes.proofs.crossing.Crossing.parts_by_row.Goals as goal

pub overflow_add-result : goal.overflow_add-result
overflow_add-result c =
    let e = c.args.self.now in let are = e.are_rows in let f = c.first_parts in
    rw are (all_of_eight _ (λ (r : ℕ) (l : r < 8). (lies e.start e.step f.result (8 * c.args.row) r l f.ensures.value f.ensures.bounded e.step_bounded).fits))

pub returns : goal.returns
returns c =
    let e = c.args.self.now in let are = e.are_rows in let f = c.first_parts in
    let at = λ (r : ℕ) (l : r < 8). (lies e.start e.step f.result (8 * c.args.row) r l f.ensures.value f.ensures.bounded e.step_bounded).value in
    rw are (each_of_eight _ (at 0 (omega arith)) (at 1 (omega arith)) (at 2 (omega arith)) (at 3 (omega arith)) (at 4 (omega arith)) (at 5 (omega arith)) (at 6 (omega arith)) (at 7 (omega arith)))
