-- The picture of the states of a screen's subtiles: the bound at each pixel, as a plain grey map.
use Rattle.std.specs.Prelude.{ℕ, ◌/◌, ◌<◌, ◌≤◌, List, [], ◌∷◌, ◌++◌, codes}
use Rattle.std.specs.Fmt.{decimal}
use Rattle.std.specs.List.{flat_map, range_with_len}
use Rattle.cull_base.specs.declared.nearness.Grade.{Grade}
use Rattle.cull_base.specs.declared.nearness.Grade.TheVariants.{Narrow, Wide}
use Rattle.cull_base.specs.declared.place.Sub.{Sub}
use Rattle.cull_base.specs.Grade.{top_of}
use Rattle.cull_base.specs.Pixels.{sample_of_pixel, sub_of_pixel}
use Rattle.cull_base.specs.Screen.{Dimensions}
use Rattle.cull_base.specs.State.{State, bound_at}
use Rattle.text_lines.specs.Lines.{line}

-- a bound as a number of 16 bits: a wide one without its lower eight
abbrev pub shade_of : Grade → ℕ → ℕ
shade_of Narrow bound = bound
shade_of Wide bound = bound / 256

-- the bound at a pixel's sample, and the pixel's number
abbrev pub bound_of_pixel : (Sub → State) → ℕ → ℕ → ℕ
bound_of_pixel state_of px py = bound_at (state_of (sub_of_pixel px py)) (sample_of_pixel px py)

abbrev pub shade_at : Grade → (Sub → State) → ℕ → ℕ → ℕ
shade_at grade state_of px py = shade_of grade (bound_of_pixel state_of px py)

-- a pixel's line
unfoldable pub number_line : ℕ → List ℕ
number_line number = line (decimal number ∷ [])

-- the lines of so many pixels of a row, from one on
unfoldable pub pixel_lines : Grade → (Sub → State) → ℕ → ℕ → ℕ → List ℕ
pixel_lines grade state_of py first count = flat_map (λ px. number_line (shade_at grade state_of px py)) (range_with_len first count)

-- the lines of so many rows of this width, from one on
unfoldable pub row_lines : ℕ → Grade → (Sub → State) → ℕ → ℕ → List ℕ
row_lines width grade state_of first count = flat_map (λ py. pixel_lines grade state_of py 0 width) (range_with_len first count)

-- the form's name, the size, and the greatest number that a pixel may have
unfoldable pub head_text : Dimensions → List ℕ
head_text size = line (codes "P2" ∷ []) ++ (line (decimal size.width ∷ decimal size.height ∷ []) ++ line (decimal 65535 ∷ []))

-- and then a line for each pixel, rows from the top and pixels from the left
unfoldable pub picture_text : Dimensions → Grade → (Sub → State) → List ℕ
picture_text size grade state_of = head_text size ++ row_lines size.width grade state_of 0 size.height

-- the bound at no pixel of the screen is above a top
abbrev pub AreUpTo : ℕ → Dimensions → (Sub → State) → Type 0
AreUpTo top size state_of = (px py : ℕ) → px < size.width → py < size.height → bound_of_pixel state_of px py ≤ top

-- a bound up to the grade's top makes a number up to the greatest
abbrev pub FitsWhite : Type 0
FitsWhite = (grade : Grade) (bound : ℕ) → bound ≤ top_of grade → shade_of grade bound ≤ 65535
