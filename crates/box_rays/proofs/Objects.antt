-- Which pixels an object is seen in, where all its corners are in halves of space.
use Rattle.std.proofs.Common.{◌≡◌, ℕ, ℤ, pos, ◌*◌, ◌<◌, ◌≤◌, ◌+ℤ◌, ◌-ℤ◌, ◌*ℤ◌, ◌≤ℤ◌, ◌<ℤ◌, inl, inr, true, int_le, int_lt, List, arith, refl}
use Rattle.std.specs.List.{All}
use Rattle.std.proofs.lemmas.Int.{ints}
use Rattle.std.proofs.lemmas.List.Elements.{All-weaker}
use Rattle.cull_base.specs.Screen.{Dimensions}
use Rattle.cull_base.specs.Pixels.{has_pixel}
use Rattle.cull_base.specs.declared.rect.Rect.{Rect}
use Rattle.exact_clip.specs.Clip.{Clip}
use Rattle.box_rays.specs.Objects.{weighted, Projects, IsReached, IsBeside}
use Rattle.box_rays.specs.HalfSpaces.{IsIn}
use Rattle.box_rays.specs.Frustums.{Frames, IsEmpty, IsWithin}
use Rattle.box_rays.specs.declared.half_space.HalfSpace.{HalfSpace}
use Rattle.box_rays.specs.declared.frustum.Frustum.{Frustum}
use Rattle.box_rays.proofs.Sums.{in_weighted}
use Rattle.box_rays.proofs.Sides.{from_place, before_place}

-- a half of space in which nothing is seen in a pixel of the screen
abbrev IsUnseen : Dimensions → HalfSpace → Type 0
IsUnseen size half = (px py : ℕ) (p : Clip) → px < size.width → py < size.height → IsIn half p → Projects size px py p → ⊥

beside : (size : Dimensions) (half : HalfSpace) (points : List Clip) → IsUnseen size half → All (IsIn half) points → IsBeside size points
beside size half points unseen all = λ px py seen.
    unseen px py (weighted seen.weights points) seen.across seen.down (in_weighted half seen.weights points all seen.projects.front) seen.projects

pub beside_left : (size : Dimensions) (half : HalfSpace) (points : List Clip) → ((p : Clip) → IsIn half p → (pos size.width *ℤ (p.x +ℤ p.w)) <ℤ (pos (2 * 0) *ℤ p.w)) → All (IsIn half) points → IsBeside size points
beside_left size half points is = beside size half points (λ px py p across down within seen. nowhere px (before_place 0 px p.w _ seen.front (is p within) seen.left))
  where
    nowhere : (k : ℕ) → k < 0 → ⊥
    nowhere k lt = omega (arith, lt)

pub beside_above : (size : Dimensions) (half : HalfSpace) (points : List Clip) → ((p : Clip) → IsIn half p → (pos size.height *ℤ (p.w -ℤ p.y)) <ℤ (pos (2 * 0) *ℤ p.w)) → All (IsIn half) points → IsBeside size points
beside_above size half points is = beside size half points (λ px py p across down within seen. nowhere py (before_place 0 py p.w _ seen.front (is p within) seen.upper))
  where
    nowhere : (k : ℕ) → k < 0 → ⊥
    nowhere k lt = omega (arith, lt)

pub beside_right : (size : Dimensions) (half : HalfSpace) (points : List Clip) → ((p : Clip) → IsIn half p → (pos (2 * size.width) *ℤ p.w) <ℤ (pos size.width *ℤ (p.x +ℤ p.w))) → All (IsIn half) points → IsBeside size points
beside_right size half points is = beside size half points (λ px py p across down within seen. nowhere size.width px across (from_place size.width px p.w _ seen.front (is p within) seen.right))
  where
    nowhere : (n k : ℕ) → k < n → n ≤ k → ⊥
    nowhere n k lt le = omega (arith, lt, le)

pub beside_below : (size : Dimensions) (half : HalfSpace) (points : List Clip) → ((p : Clip) → IsIn half p → (pos (2 * size.height) *ℤ p.w) <ℤ (pos size.height *ℤ (p.w -ℤ p.y))) → All (IsIn half) points → IsBeside size points
beside_below size half points is = beside size half points (λ px py p across down within seen. nowhere size.height py down (from_place size.height py p.w _ seen.front (is p within) seen.lower))
  where
    nowhere : (n k : ℕ) → k < n → n ≤ k → ⊥
    nowhere n k lt le = omega (arith, lt, le)

pub beside_behind : (size : Dimensions) (half : HalfSpace) (points : List Clip) → ((p : Clip) → IsIn half p → p.w <ℤ pos 0) → All (IsIn half) points → IsBeside size points
beside_behind size half points is = beside size half points (λ px py p across down within seen. nowhere p.w (is p within) seen.front)
  where
    nowhere : (w : ℤ) → w <ℤ pos 0 → pos 0 <ℤ w → ⊥
    nowhere w i j = omega (arith, ints, i, j)

-- an object in a frustum
pub reached : (size : Dimensions) (rect : Rect) (f : Frustum) (points : List Clip) → Frames size rect f → All (IsWithin f) points → IsReached size points rect
reached size rect f points frames all = λ px py seen.
    let front = seen.projects.front in
    frames px py (weighted seen.weights points) seen.across seen.down
    (record {
      left = in_weighted f.left seen.weights points (All-weaker (IsWithin f) (IsIn f.left) (λ p h. h.left) points all) front;
      right = in_weighted f.right seen.weights points (All-weaker (IsWithin f) (IsIn f.right) (λ p h. h.right) points all) front;
      upper = in_weighted f.upper seen.weights points (All-weaker (IsWithin f) (IsIn f.upper) (λ p h. h.upper) points all) front;
      lower = in_weighted f.lower seen.weights points (All-weaker (IsWithin f) (IsIn f.lower) (λ p h. h.lower) points all) front;
    })
    seen.projects

le_is : (a b : ℤ) → a ≤ℤ b → int_le a b ≡ true
le_is a b h = grind (arith, ints)

lt_is : (a b : ℤ) → a <ℤ b → int_lt a b ≡ true
lt_is a b h = grind (arith, ints)

-- by the numbers of the first and the last columns and rows
pub pixel_is : (rect : Rect) (x0 x1 y0 y1 px py : ℕ) → pos x0 ≡ rect.x0 → pos x1 ≡ rect.x1 → pos y0 ≡ rect.y0 → pos y1 ≡ rect.y1 → x0 ≤ px → px < x1 → y0 ≤ py → py < y1 → has_pixel rect px py ≡ true
pixel_is rect x0 x1 y0 y1 px py ex0 ex1 ey0 ey1 a b c d =
    rw (le_is rect.x0 (pos px) (omega (arith, ints, ex0, a)), lt_is (pos px) rect.x1 (omega (arith, ints, ex1, b)), le_is rect.y0 (pos py) (omega (arith, ints, ey0, c)), lt_is (pos py) rect.y1 (omega (arith, ints, ey1, d))) refl

no_pixel : (rect : Rect) (px py : ℕ) → IsEmpty rect → has_pixel rect px py ≡ true → ⊥
no_pixel rect px py (inl e) h = grind (arith, ints)
no_pixel rect px py (inr e) h = grind (arith, ints)

pub beside_empty : (size : Dimensions) (rect : Rect) (points : List Clip) → IsEmpty rect → IsReached size points rect → IsBeside size points
beside_empty size rect points empty reached = λ px py seen. no_pixel rect px py empty (reached px py seen)
