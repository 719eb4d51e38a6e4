-- A coordinate over a distance, and where it lies on the screen.
use Rattle.std.specs.Prelude.{ℕ, ℤ, pos, neg_ℤ, ◌*◌, ◌≤ℤ◌, ◌+ℤ◌, ◌*ℤ◌}
use Rattle.cull_base.specs.declared.clip.ClipVertex.{ClipVertex}
use Rattle.cull_base.specs.Bounds.{Bounded}
use Rattle.cull_base.specs.Screen.{Dimensions}
use Rattle.near_clip.specs.NearPart.{whole}
use Rattle.snap_setup.specs.Snapping.{round_half, screen_x, screen_y}
use Rattle.rect_query.specs.declared.ratio.Ratio.{Ratio}
use Rattle.rect_query.specs.declared.ratio.Way.{Way}
use Rattle.rect_query.specs.declared.ratio.Way.TheVariants.{Across, Down}

-- the place on a side of so many pixels that reaches from -1 to 1, in sixteenths of a pixel
abbrev pub place_at : ℕ → Ratio → ℤ
place_at pixels r = round_half (pos (8 * pixels) *ℤ (r.number +ℤ r.w)) r.w

abbrev pub across : ClipVertex → Ratio
across v = record { number = v.x; w = v.w }

-- y runs downwards on the screen
abbrev pub down : ClipVertex → Ratio
down v = record { number = neg_ℤ v.y; w = v.w }

-- a vertex's ratio one way, the screen's pixels that way, and where the vertex lies along them
abbrev pub ratio_along : Way → ClipVertex → Ratio
ratio_along Across v = across v
ratio_along Down v = down v

abbrev pub pixels_along : Way → Dimensions → ℕ
pixels_along Across size = size.width
pixels_along Down size = size.height

abbrev pub place_along : Way → Dimensions → ClipVertex → ℤ
place_along Across size v = screen_x (whole v) size
place_along Down size v = screen_y (whole v) size

-- in front of the near plane and within the guard
pub record IsRatio (near : ℕ) (r : Ratio) : Type 0 where
  pub number_within : Bounded (16384 * near) r.number
  pub w_least : pos near ≤ℤ r.w
  pub w_most : r.w ≤ℤ pos (16384 * near)
