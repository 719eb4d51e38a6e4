use Rattle.std.proofs.Common.{subst}
use Rattle.cull_base.specs.Screen.{Dimensions, IsSize}
use Rattle.frame_reports.proofs.ClosedCells.{closed_have}
use Rattle.frame_reports.proofs.live_frame.draw_in_cells.Goals as goal

pub returns-clause-drawn : goal.returns-clause-drawn
returns-clause-drawn g c =
    let sized = subst (λ (s : Dimensions). IsSize s.width s.height) c.size.ensures c.width-width.ensures.valid in
    closed_have c.in_ok-cells.cells c.args.list.now.list c.in_ok-writers.writers.items c.close_by.result.items sized c.len-len.ensures.pieces c.in_ok-cells.ensures.cells c.in_ok-writers.ensures.standing c.close_by.ensures.states
