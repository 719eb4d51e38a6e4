use Rattle.std.proofs.Common.{◌≡◌, ◌+◌, ◌*◌, ◌≤◌, ◌++◌, min, length}
use Rattle.masked_update.specs.Views.{state_in}
use Rattle.depth_image.specs.Picture.{pixel_lines}
use Rattle.depth_image.proofs.picture.push_row.Given as goal

abbrev pub invariant-loop-column : goal.invariant-loop-column
invariant-loop-column g l = record {
  text : l.text ≡ l.fn.text ++ pixel_lines l.fn.shown.grade (state_in l.fn.shown.size (g.V.TileView.tile_of l.fn.shown.view.now)) l.fn.y 0 (min (32 * l.column) l.fn.shown.size.width);
  short : length l.text ≤ length l.fn.text + 6 * min (32 * l.column) l.fn.shown.size.width;
}
