-- What tiles hold, as a picture: the bound at each pixel of the screen.
use Rattle.std.specs.Prelude.{ℕ, ◌≡◌, ◌+◌, ◌-◌, ◌*◌, ◌/◌, ◌<◌, ◌≤◌, ◌⊎◌, List, length, min, slice_index_or}
use Rattle.cull_base.specs.declared.nearness.Grade.{Grade}
use Rattle.cull_base.specs.declared.nearness.Grade.TheVariants.{Narrow, Wide}
use Rattle.cull_base.specs.Pixels.{sample_of_pixel, sub_of_pixel}
use Rattle.cull_base.specs.Screen.{Dimensions}
use Rattle.cull_base.specs.State.{bound_at}
use Rattle.masked_update.specs.TileOf.{TileOf, tile_at}
use Rattle.masked_update.specs.Views.{state_in}

-- the bound at a pixel's sample, as these tiles hold it
abbrev pub bound_of_pixel : Dimensions → List TileOf → ℕ → ℕ → ℕ
bound_of_pixel size tiles x y = bound_at (state_in size (tile_at tiles) (sub_of_pixel x y)) (sample_of_pixel x y)

-- a bound as an element of a picture, which has 16 bits: a wide one is divided by 256, and what is still greater is cut
abbrev pub shade_of : Grade → ℕ → ℕ
shade_of Narrow bound = min bound 65535
shade_of Wide bound = min (bound / 256) 65535

abbrev pub shade_of_pixel : Grade → Dimensions → List TileOf → ℕ → ℕ → ℕ
shade_of_pixel grade size tiles x y = shade_of grade (bound_of_pixel size tiles x y)

abbrev pub element : List ℕ → ℕ → ℕ
element out i = slice_index_or out i 0

-- room for the screen in rows that begin so far apart: none reaches into the next, and the last is whole
pub record HasPicture (size : Dimensions) (stride : ℕ) (out : List ℕ) : Type 0 where
  pub wide : size.width ≤ stride
  pub room : (size.height - 1) * stride + size.width ≤ length out

-- no pixel of the first rows stands at this place, where rows begin so far apart
abbrev pub IsBesideRows : ℕ → ℕ → ℕ → ℕ → Type 0
IsBesideRows width rows stride i = (x y : ℕ) → x < width → y < rows → i ≡ y * stride + x → ⊥

abbrev pub IsBeside : Dimensions → ℕ → ℕ → Type 0
IsBeside size stride i = IsBesideRows size.width size.height stride i

-- so many elements from one place on have these shades, and the others are what they were
pub record IsRow (start width : ℕ) (shade : ℕ → ℕ) (old new : List ℕ) : Type 0 where
  pub whole : length new ≡ length old
  pub shades : (x : ℕ) → x < width → element new (start + x) ≡ shade x
  pub beside : (i : ℕ) → (i < start) ⊎ (start + width ≤ i) → element new i ≡ element old i

-- so many rows have the shades of their pixels, and the elements beside them are what they were
pub record AreDrawn (width stride rows : ℕ) (shade : ℕ → ℕ → ℕ) (old new : List ℕ) : Type 0 where
  pub whole : length new ≡ length old
  pub shades : (x y : ℕ) → x < width → y < rows → element new (y * stride + x) ≡ shade x y
  pub beside : (i : ℕ) → IsBesideRows width rows stride i → element new i ≡ element old i
