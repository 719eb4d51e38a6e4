use Rattle.std.proofs.Common.{◌≡◌, ℕ, ◌+◌, ◌*◌, ◌/◌, ◌%◌, ◌<◌, true}
use Rattle.cull_base.specs.State.{hides}
use Rattle.masked_update.specs.TileOf.{sub_at}
use Rattle.rect_query.specs.Area.{IsIn}
use Rattle.cull_base.specs.Pixels.{sample_of_pixel}
use Rattle.rect_query.proofs.area.are_subtiles_hiding.Given as goal

abbrev pub invariant-loop-r : goal.invariant-loop-r
invariant-loop-r l = (px py : ℕ) → IsIn l.area px py → px / 32 ≡ l.column → py / 8 ≡ l.row → py / 4 < l.r
    → hides (sub_at l.state (4 * (py / 4 % 2) + px / 8 % 4)) (sample_of_pixel px py) l.q ≡ true
