use Rattle.std.proofs.Common.{◌≡◌}
use Rattle.masked_update.specs.Canvas.{StandsAt}
use Rattle.drawing_tests.proofs.tests.updates.window_drawn.Given as goal

abbrev pub invariant-loop-index : goal.invariant-loop-index
invariant-loop-index l = record {
  window : l.canvas.window ≡ l.fn.window;
  stands : StandsAt l.list.list l.index l.canvas;
}
