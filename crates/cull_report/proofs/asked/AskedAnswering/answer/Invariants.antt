use Rattle.std.proofs.Common.{◌≡◌, ◌+◌, ◌++◌, length, take, drop, vec_capacity}
use Rattle.cull_report.specs.Scene.{verdicts_in}
use Rattle.cull_report.proofs.asked.AskedAnswering.answer.Given as goal

abbrev pub invariant-loop-k : goal.invariant-loop-k
invariant-loop-k g l = record {
  asked : l.verdicts.items ≡ l.fn.verdicts.items ++ take l.k (drop l.first (verdicts_in l.self.scene.now l.self.frame (g.V.TileView.tile_of l.self.view.now)));
  so_many : length l.verdicts.items ≡ length l.fn.verdicts.items + l.k;
  room : vec_capacity l.verdicts ≡ vec_capacity l.fn.verdicts;
}
