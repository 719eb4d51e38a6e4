use Rattle.std.proofs.Common.{◌≡◌, ◌*◌, ◌≤◌, ◌++◌, List, ℕ, length}
use Rattle.cull_base.specs.Stream.{Appends}
use Rattle.masked_update.specs.Views.{state_in}
use Rattle.depth_image.specs.Picture.{head_text, row_lines}
use Rattle.depth_image.proofs.picture.write_picture.Given as goal

abbrev pub invariant-loop-piece : goal.invariant-loop-piece
invariant-loop-piece g l = record {
  written : (front : List ℕ) × Appends (g.W.Sink.says l.fn.sink) (g.W.Sink.says l.sink) front
      × (front ++ l.text ≡ head_text l.fn.size ++ row_lines l.fn.size.width l.fn.grade (state_in l.fn.size (g.V.TileView.tile_of l.fn.view)) 0 (l.rows * l.piece));
  short : length l.text ≤ 80;
  faults : (g.W.Sink.says l.fn.sink).faults ≤ (g.W.Sink.says l.sink).faults;
  refusals : (g.W.Sink.says l.fn.sink).refusals ≤ (g.W.Sink.says l.sink).refusals;
}
