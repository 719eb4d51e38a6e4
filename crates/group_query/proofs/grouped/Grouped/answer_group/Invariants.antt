use Rattle.std.proofs.Common.{◌≡◌, ◌-◌, ◌≤◌, vec_capacity}
use Rattle.masked_update.specs.Views.{state_in}
use Rattle.cull_report.specs.Scene.{size_of, verdicts_in}
use Rattle.group_query.specs.Hidden.{IsKept}
use Rattle.group_query.proofs.Answered.{HasAnswered}
use Rattle.group_query.proofs.grouped.Grouped.answer_group.Given as goal

abbrev pub invariant-loop-member : goal.invariant-loop-member
invariant-loop-member g l = record {
  ordered : l.member ≤ l.count;
  verdicts : HasAnswered (verdicts_in l.self.asked.now.scene.now l.self.asked.now.frame (g.V.TileView.tile_of l.self.asked.now.view.now)) l.fn.verdicts.items l.group.first l.member l.verdicts.items;
  room : vec_capacity l.verdicts ≡ vec_capacity l.fn.verdicts;
  kept : IsKept l.self.asked.now.scene.now l.self.asked.now.frame (state_in (size_of l.self.asked.now.scene.now) (g.V.TileView.tile_of l.self.asked.now.view.now)) l.group l.member l.kept;
}

abbrev pub decreases-loop-member : goal.decreases-loop-member
decreases-loop-member g l = l.count - l.member
