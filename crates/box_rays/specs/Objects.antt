-- An object as the points between some clip points: which pixels it projects into, and how near it comes.
use Rattle.std.specs.Prelude.{ℕ, ℤ, pos, ◌≡◌, ◌+◌, ◌*◌, ◌^◌, ◌<◌, ◌+ℤ◌, ◌-ℤ◌, ◌*ℤ◌, ◌≤ℤ◌, ◌<ℤ◌, List, [], ◌∷◌, true}
use Rattle.std.specs.List.{All}
use Rattle.cull_base.specs.Screen.{Dimensions}
use Rattle.cull_base.specs.Pixels.{has_pixel}
use Rattle.cull_base.specs.declared.rect.Rect.{Rect}
use Rattle.exact_clip.specs.Clip.{Clip}

-- the sum of some points, each times its weight: a point of the object, where its w is positive
abbrev pub weighted : List ℕ → List Clip → Clip
weighted [] points = record { x = pos 0; y = pos 0; w = pos 0 }
weighted (n ∷ ns) [] = record { x = pos 0; y = pos 0; w = pos 0 }
weighted (n ∷ ns) (p ∷ ps) =
    let rest = weighted ns ps in
    record { x = (pos n *ℤ p.x) +ℤ rest.x; y = (pos n *ℤ p.y) +ℤ rest.y; w = (pos n *ℤ p.w) +ℤ rest.w }

-- a point in front of the eye is seen in a pixel
pub record Projects (size : Dimensions) (px py : ℕ) (v : Clip) : Type 0 where
  pub front : pos 0 <ℤ v.w
  pub left : (pos (2 * px) *ℤ v.w) ≤ℤ (pos size.width *ℤ (v.x +ℤ v.w))
  pub right : (pos size.width *ℤ (v.x +ℤ v.w)) <ℤ (pos (2 * (px + 1)) *ℤ v.w)
  pub upper : (pos (2 * py) *ℤ v.w) ≤ℤ (pos size.height *ℤ (v.w -ℤ v.y))
  pub lower : (pos size.height *ℤ (v.w -ℤ v.y)) <ℤ (pos (2 * (py + 1)) *ℤ v.w)

-- a point of the object is seen in a pixel of the screen
pub record IsSeenIn (size : Dimensions) (points : List Clip) (px py : ℕ) : Type 0 where
  pub weights : List ℕ
  pub across : px < size.width
  pub down : py < size.height
  pub projects : Projects size px py (weighted weights points)

-- each pixel that the object is seen in is in the rectangle
abbrev pub IsReached : Dimensions → List Clip → Rect → Type 0
IsReached size points rect = (px py : ℕ) → IsSeenIn size points px py → has_pixel rect px py ≡ true

abbrev pub IsBeside : Dimensions → List Clip → Type 0
IsBeside size points = (px py : ℕ) → IsSeenIn size points px py → ⊥

-- no point is nearer than a nearness by more than so many parts of 2^24
abbrev pub IsNearest : ℕ → ℤ → ℕ → ℕ → List Clip → Type 0
IsNearest top near share q points =
    All (λ v. (pos (top * (2 ^ 24 + share)) *ℤ near) ≤ℤ (pos (q * 2 ^ 24) *ℤ v.w)) points
