-- Rectangles that the references of the subtiles hide: whatever is drawn later, they stay hidden.
use Rattle.std.specs.Prelude.{ℕ, ◌≤◌, ◌<◌, Bool, not, ◌&&◌, ◌||◌, nat_lt, slice_index_or}
use Rattle.cull_base.specs.declared.place.Sub.{Sub}
use Rattle.cull_base.specs.declared.rect.Rect.{Rect}
use Rattle.cull_base.specs.Screen.{Dimensions}
use Rattle.cull_base.specs.Pixels.{sub_of_pixel, at_each_pixel, at_some_pixel, has_pixel}
use Rattle.cull_base.specs.State.{State, empty_state, bound_at}
use Rattle.cull_base.specs.Tiles.{PieceList, prefixed}

-- the reference of a pixel's subtile is strictly nearer than q
abbrev pub is_settled_at : (Sub → State) → ℕ → ℕ → ℕ → Bool
is_settled_at state_of q px py = nat_lt q (state_of (sub_of_pixel px py)).reference

-- the rectangle has a pixel in the screen, and at each such pixel the subtile's reference is strictly nearer than q
unfoldable pub is_settled : Dimensions → (Sub → State) → Rect → ℕ → Bool
is_settled size state_of rect q =
    at_some_pixel size (has_pixel rect) && at_each_pixel size (λ px py. not (has_pixel rect px py) || is_settled_at state_of q px py)

-- subtile j of a tile after the first k members of its list
abbrev pub prefixed_sub : PieceList → ℕ → ℕ → ℕ → State
prefixed_sub list tile j k = slice_index_or (prefixed tile k list) j empty_state

-- along a tile's list no reference falls, and no bound is below its reference
pub record ReferenceHolds (list : PieceList) (tile j k l : ℕ) : Type 0 where
  pub rises : (prefixed_sub list tile j k).reference ≤ (prefixed_sub list tile j l).reference
  pub below : (sample : ℕ) → sample < 32 → (prefixed_sub list tile j l).reference ≤ bound_at (prefixed_sub list tile j l) sample
