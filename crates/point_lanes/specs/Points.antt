-- Clip vertices in lanes.
use Rattle.std.specs.Prelude.{◌≡◌, ℕ, ℤ, pos, ◌*◌, ◌<◌, ◌≤◌, ◌^◌, ◌+ℤ◌, ◌-ℤ◌, ◌*ℤ◌, ◌≤ℤ◌, List, Bool, true, false, slice_index, slice_index_or}
use Rattle.std.specs.Int.RustNames.{unsigned_abs}
use Rattle.cull_base.specs.Bounds.{Bounded}
use Rattle.cull_base.specs.Depth.{floor_of}
use Rattle.cull_base.specs.Screen.{Dimensions}
use Rattle.cull_base.specs.declared.clip.ClipVertex.{ClipVertex}

-- vertex j of a list of them
abbrev pub vertex_at : List ClipVertex → ℕ → ClipVertex
vertex_at vertices j = slice_index_or vertices j (record { x = pos 0; y = pos 0; w = pos 0 })

-- in front of the near plane and not past the guard
pub record IsInReach (near : ℕ) (v : ClipVertex) : Type 0 where
  pub x_within : Bounded (16384 * near) v.x
  pub y_within : Bounded (16384 * near) v.y
  pub w_least : pos near ≤ℤ v.w
  pub w_most : v.w ≤ℤ pos (16384 * near)

-- a vertex's own lane: its distances from a line 64 w to the left of the middle and from one above it
pub record IsOwn (v : ClipVertex) (across down w : ℕ) : Type 0 where
  pub w_is : v.w ≡ pos w
  pub across_is : pos across ≡ v.x +ℤ pos (64 * w)
  pub down_is : pos down ≡ pos (64 * w) -ℤ v.y

-- a lane that can be divided by, and that may be a vertex's own
pub record IsLane (v : ClipVertex) (near across down w : ℕ) (own : Bool) : Type 0 where
  pub w_least : near ≤ w
  pub w_most : w ≤ 2 ^ 24
  pub across_most : across < 2 ^ 7 * w
  pub down_most : down < 2 ^ 7 * w
  pub is_own : own ≡ true → IsOwn v across down w

abbrev pub AreLanes : List ClipVertex → ℕ → List ℕ → List ℕ → List ℕ → List Bool → Type 0
AreLanes vertices near across down w own =
    (j : ℕ) → j < 8 → IsLane (vertex_at vertices j) near (slice_index across j) (slice_index down j) (slice_index w j) (slice_index_or own j false)

-- The place of an offset from an edge of the screen, of so many pixels, to the nearest whole number: the other edge is at 2 w.
abbrev pub place_at : ℕ → ℤ → ℤ → ℤ
place_at pixels offset w = floor_of ((pos 2 *ℤ (pos (8 * pixels) *ℤ offset)) +ℤ w) (pos 2 *ℤ w)

-- where a vertex stands, and a number over its w
pub record IsPoint (v : ClipVertex) (number : ℕ) (size : Dimensions) (x y : ℤ) (nearness : ℕ) : Type 0 where
  pub x_is : x ≡ place_at size.width (v.x +ℤ v.w) v.w
  pub y_is : y ≡ place_at size.height (v.w -ℤ v.y) v.w
  pub nearness_is : nearness ≡ unsigned_abs (floor_of (pos number *ℤ pos 1) v.w)
