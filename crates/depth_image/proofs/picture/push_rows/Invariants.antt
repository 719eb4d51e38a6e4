use Rattle.std.proofs.Common.{◌≡◌, ◌+◌, ◌*◌, ◌≤◌, ◌++◌, length}
use Rattle.masked_update.specs.Views.{state_in}
use Rattle.depth_image.specs.Picture.{row_lines}
use Rattle.depth_image.proofs.picture.push_rows.Given as goal

abbrev pub invariant-loop-k : goal.invariant-loop-k
invariant-loop-k g l = record {
  text : l.text ≡ l.fn.text ++ row_lines l.fn.shown.size.width l.fn.shown.grade (state_in l.fn.shown.size (g.V.TileView.tile_of l.fn.shown.view.now)) l.fn.first l.k;
  short : length l.text ≤ length l.fn.text + 6 * (l.k * l.fn.shown.size.width);
}
