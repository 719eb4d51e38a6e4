use Rattle.std.proofs.Common.{◌≡◌, vec_capacity}
use Rattle.cull_report.specs.Scene.{verdicts_in}
use Rattle.group_query.proofs.Answered.{HasAnswered}
use Rattle.group_query.proofs.grouped.Grouped.answer_hidden.Given as goal

abbrev pub invariant-loop-k : goal.invariant-loop-k
invariant-loop-k g l = record {
  verdicts : HasAnswered (verdicts_in l.self.asked.now.scene.now l.self.asked.now.frame (g.V.TileView.tile_of l.self.asked.now.view.now)) l.fn.verdicts.items l.fn._group.first l._k l.verdicts.items;
  room : vec_capacity l.verdicts ≡ vec_capacity l.fn.verdicts;
}
