use Rattle.std.proofs.Common.{◌≡◌}
use Rattle.cull_base.specs.Span.{whole_span}
use Rattle.masked_update.specs.Canvas.{CountsAt, StandsAt}
use Rattle.masked_update.proofs.draw.draw_plain.Given as goal

abbrev pub invariant-loop-index : goal.invariant-loop-index
invariant-loop-index l = record {
  window : l.canvas.window ≡ whole_span l.list.list.size;
  stands : StandsAt l.list.list l.index l.canvas;
  counts : CountsAt l.list.list l.index l.canvas;
}
