use Rattle.std.proofs.Common.{◌≡◌, length, subst}
use Rattle.cull_base.specs.Screen.{tile_count_of}
use Rattle.cull_base.specs.Tiles.{PieceList}
use Rattle.cull_report.specs.Scene.{frame_list}
use Rattle.live_tests.proofs.tests.live_verdicts.verdict_after.Goals as goal

pub verdicts_over-requires-clause-tiles : goal.verdicts_over-requires-clause-tiles
unfolding frame_list
verdicts_over-requires-clause-tiles g c =
    rw c.deref-3.ensures.value (subst (λ (l : PieceList). length c.in_ok-states.states.items ≡ tile_count_of l.size) c.in_ok-list.ensures.list c.in_ok-states.ensures)
