use Rattle.std.proofs.Common.{◌≡◌, ℕ, ◌/◌, ◌<◌, true}
use Rattle.cull_base.specs.State.{hides}
use Rattle.rect_query.specs.Area.{IsIn}
use Rattle.cull_base.specs.Pixels.{sub_of_pixel, sample_of_pixel}
use Rattle.masked_update.specs.Views.{state_in}
use Rattle.rect_query.proofs.area.is_row_hiding.Given as goal

abbrev pub invariant-loop-column : goal.invariant-loop-column
invariant-loop-column g l = (px py : ℕ) → IsIn l.area px py → px / 32 < l.column → py / 8 ≡ l.row
    → hides (state_in l.size (g.V.TileView.tile_of l.view) (sub_of_pixel px py)) (sample_of_pixel px py) l.q ≡ true
