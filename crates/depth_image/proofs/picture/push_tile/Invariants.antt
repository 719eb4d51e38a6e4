use Rattle.std.proofs.Common.{◌≡◌, ◌+◌, ◌*◌, ◌≤◌, ◌++◌, length}
use Rattle.masked_update.specs.Views.{state_in}
use Rattle.depth_image.specs.Picture.{pixel_lines}
use Rattle.depth_image.proofs.picture.push_tile.Given as goal

abbrev pub invariant-loop-k : goal.invariant-loop-k
invariant-loop-k g l = record {
  text : l.text ≡ l.fn.text ++ pixel_lines l.fn.shown.grade (state_in l.fn.shown.size (g.V.TileView.tile_of l.fn.shown.view.now)) l.fn.y (32 * l.fn.column) (8 * l.k);
  short : length l.text ≤ length l.fn.text + 48 * l.k;
}
