-- What of an object is asked of the tiles: its samples, its nearness at each, its area, and the verdict over them.
use Rattle.std.specs.Prelude.{ℕ, pos, List, map, filter, Bool, false, not, ◌&&◌, ◌||◌, cond}
use Rattle.std.specs.List.{Contains, list_all, list_any}
use Rattle.cull_base.specs.declared.rect.Rect.{Rect}
use Rattle.cull_base.specs.declared.place.Sub.{Sub}
use Rattle.cull_base.specs.declared.scene_types.Verdict.{Verdict}
use Rattle.cull_base.specs.declared.scene_types.Verdict.TheVariants.{Visible, Occluded, Outside}
use Rattle.cull_base.specs.Screen.{Dimensions, screen_of}
use Rattle.cull_base.specs.Rectangle.{IsWithin, meets, cut_of, no_pixels}
use Rattle.cull_base.specs.Piece.{Piece, IsPiece, box_of, middle, touches}
use Rattle.cull_base.specs.Depth.{high_of}
use Rattle.cull_base.specs.Fraction.{Fraction, whole_number, depth_at, greatest_fraction}
use Rattle.cull_base.specs.State.{State, hides}
use Rattle.cull_base.specs.Pixels.{sub_of_pixel, sample_of_pixel, at_each_pixel, at_some_pixel, has_pixel}

-- An object is outside or visible whatever the tiles hold; or it has one nearness over a rectangle; or it is some pieces, within a hull.
pub data Shape : Type 0 where
  AlwaysOutside : Shape
  AlwaysVisible : Shape
  Flat : (rect : Rect) (nearness : ℕ) → Shape
  Pieces : (pieces : List Piece) (hull : Rect) → Shape

-- each of its pieces is one, and lies in the hull
abbrev pub HasPieces : Shape → Type 0
HasPieces AlwaysOutside = Unit {0}
HasPieces AlwaysVisible = Unit {0}
HasPieces (Flat rect nearness) = Unit {0}
HasPieces (Pieces pieces hull) = (t : Piece) → Contains pieces t → IsPiece t × IsWithin (box_of t) hull

-- a rectangle with one nearness, where it has a pixel in the screen
abbrev pub flat_shape : Dimensions → Rect → ℕ → Shape
flat_shape size rect nearness = cond (meets rect (screen_of size)) (Flat rect nearness) AlwaysOutside

-- whether the sample of a pixel belongs to the object: the pixel is in its rectangle, or one of its pieces touches the sample
abbrev pub has_sample : Shape → ℕ → ℕ → Bool
has_sample AlwaysOutside px py = false
has_sample AlwaysVisible px py = false
has_sample (Flat rect nearness) px py = has_pixel rect px py
has_sample (Pieces pieces hull) px py = list_any (λ t. touches t (middle px py)) pieces

-- the object's nearness at a sample: of pieces the greatest depth of those that touch it
abbrev pub near_at : Shape → ℕ → ℕ → Fraction
near_at AlwaysOutside px py = whole_number (pos 0)
near_at AlwaysVisible px py = whole_number (pos 0)
near_at (Flat rect nearness) px py = whole_number (pos nearness)
near_at (Pieces pieces hull) px py =
    greatest_fraction (map (λ t. depth_at t (middle px py)) (filter (λ t. touches t (middle px py)) pieces))

-- the pixels of the screen that are looked at
abbrev pub area_of : Dimensions → Shape → Rect
area_of size AlwaysOutside = no_pixels
area_of size AlwaysVisible = no_pixels
area_of size (Flat rect nearness) = cut_of rect (screen_of size)
area_of size (Pieces pieces hull) = cut_of hull (screen_of size)

-- a sample of the object is hidden: pieces ask for the high bound of each that touches it
abbrev pub is_hidden_at : (Sub → State) → Shape → ℕ → ℕ → Bool
is_hidden_at state_of AlwaysOutside px py = false
is_hidden_at state_of AlwaysVisible px py = false
is_hidden_at state_of (Flat rect nearness) px py = hides (state_of (sub_of_pixel px py)) (sample_of_pixel px py) nearness
is_hidden_at state_of (Pieces pieces hull) px py =
    let u = sub_of_pixel px py in
    list_all (λ t. not (touches t (middle px py)) || hides (state_of u) (sample_of_pixel px py) (high_of t u)) pieces

-- it has a sample in the screen, and each of these is hidden
unfoldable pub is_hidden : Dimensions → (Sub → State) → Shape → Bool
is_hidden size state_of shape =
    at_some_pixel size (has_sample shape) && at_each_pixel size (λ px py. not (has_sample shape px py) || is_hidden_at state_of shape px py)

abbrev pub verdict_of : Dimensions → (Sub → State) → Shape → Verdict
verdict_of size state_of AlwaysOutside = Outside
verdict_of size state_of AlwaysVisible = Visible
verdict_of size state_of (Flat rect nearness) = cond (is_hidden size state_of (Flat rect nearness)) Occluded Visible
verdict_of size state_of (Pieces pieces hull) = cond (is_hidden size state_of (Pieces pieces hull)) Occluded Visible
