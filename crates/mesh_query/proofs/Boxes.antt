-- Rectangles that meet the screen, and hulls of rectangles.
use Rattle.std.proofs.Common.{◌≡◌, ℕ, ℤ, pos, zero, suc, ◌+◌, ◌*◌, ◌<◌, ◌≤◌, ◌≤ℤ◌, ◌<ℤ◌, ◌⊎◌, List, [], ◌∷◌, ◌++◌, map, min, true, arith, refl, ap, ◌∙◌, inl, inr, subst}
use Rattle.std.specs.Int.{int_min, int_max}
use Rattle.std.specs.List.{fold, Contains}
use Rattle.std.proofs.lemmas.Int.{ints, clamps}
use Rattle.std.proofs.lemmas.List.{map_push}
use Rattle.std.proofs.lemmas.List.Sums.{fold_push}
use Rattle.cull_base.specs.declared.rect.Rect.{Rect}
use Rattle.cull_base.specs.Screen.{Dimensions, screen_of, tile_place, tile_rect_of}
use Rattle.cull_base.specs.Rectangle.{HasPixel, IsWithin, cut_of, meets}
use Rattle.cull_base.specs.Piece.{Piece, IsPiece, box_of, middle, touches, least_of, greatest_of}
use Rattle.cull_base.proofs.Rectangles.{meets_pixel, cut_pixels}
use Rattle.depth_plane.proofs.Boxes.{touches-in_box}
use Rattle.snap_setup.proofs.PieceBoxes.{within_pixel}
use Rattle.mesh_query.specs.Asked.{TouchesPixel}
use Rattle.mesh_query.specs.Meshes.{hull_of}
use Rattle.mesh_query.proofs.Members.{cases_of_list}

pub on_screen : (size : Dimensions) (px py : ℕ) → px < size.width → py < size.height → HasPixel (screen_of size) (pos px) (pos py)
on_screen size px py x y = (omega (arith, ints), omega (arith, ints, x), omega (arith, ints), omega (arith, ints, y))

-- the pixel of a sample that a piece touches, in what holds the piece's box
pub touched_pixel : (t : Piece) (r : Rect) (px py : ℕ) → IsPiece t → IsWithin (box_of t) r → touches t (middle px py) ≡ true → HasPixel r (pos px) (pos py)
touched_pixel t r px py piece within touch = within_pixel (box_of t) r (pos px) (pos py) within (touches-in_box t px py piece touch)

-- what holds the box of a piece that touches a sample of the screen meets the screen
pub touched_meets : (size : Dimensions) (t : Piece) (r : Rect) (px py : ℕ) → IsPiece t → IsWithin (box_of t) r → TouchesPixel size t px py → meets r (screen_of size) ≡ true
touched_meets size t r px py piece within (x, y, touch) =
    (meets_pixel r (screen_of size)).1 (pos px, pos py, touched_pixel t r px py piece within touch, on_screen size px py x y)

pub within_all : (a b c : Rect) → IsWithin a b → IsWithin b c → IsWithin a c
within_all a b c h k = record { x0 = omega (arith, ints, h.x0, k.x0); y0 = omega (arith, ints, h.y0, k.y0); x1 = omega (arith, ints, h.x1, k.x1); y1 = omega (arith, ints, h.y1, k.y1) }

pub same_within : (r : Rect) → IsWithin r r
same_within r = record { x0 = omega (arith, ints); y0 = omega (arith, ints); x1 = omega (arith, ints); y1 = omega (arith, ints) }

-- what meets a part meets the whole
pub meets_more : (a b r : Rect) → IsWithin a b → meets a r ≡ true → meets b r ≡ true
meets_more a b r within m = let (x, y, p, q) = (meets_pixel a r).0 m in (meets_pixel b r).1 (x, y, within_pixel a b x y within p, q)

-- a tile lies in the screen
in_screen : (size : Dimensions) (t : ℕ) (x y : ℤ) → HasPixel (tile_rect_of size t) x y → HasPixel (screen_of size) x y
in_screen size t x y p =
    let place = tile_place size t in (
      omega (arith, ints, p.0),
      least (32 * place.column + 32) size.width x p.1,
      omega (arith, ints, p.2),
      least (8 * place.row + 8) size.height y p.3,
    )
  where
    least : (a w : ℕ) (v : ℤ) → v <ℤ pos (min a w) → v <ℤ pos w
    least a w v lt = let k : min a w ≤ w = omega arith in omega (arith, ints, lt, k)

pub tile_meets_screen : (size : Dimensions) (r : Rect) (t : ℕ) → meets r (tile_rect_of size t) ≡ true → meets r (screen_of size) ≡ true
tile_meets_screen size r t m = let (x, y, p, q) = (meets_pixel r (tile_rect_of size t)).0 m in (meets_pixel r (screen_of size)).1 (x, y, p, in_screen size t x y q)

-- a tile that meets a part of a rectangle meets what of that is in the screen
pub tile_meets_cut : (size : Dimensions) (a r : Rect) (t : ℕ) → IsWithin a r → meets a (tile_rect_of size t) ≡ true → meets (cut_of r (screen_of size)) (tile_rect_of size t) ≡ true
tile_meets_cut size a r t within m =
    let (x, y, p, q) = (meets_pixel a (tile_rect_of size t)).0 m in
    (meets_pixel (cut_of r (screen_of size)) (tile_rect_of size t)).1 (x, y, (cut_pixels r (screen_of size) x y).1 (within_pixel a r x y within p, in_screen size t x y q), q)

-- A choice of one of two numbers, made again and again, stands to each of the numbers as it stands to the two.
module _ (f : ℤ → ℤ → ℤ) (R : ℤ → ℤ → Type 0) (same : (a : ℤ) → R a a) (along : (a b c : ℤ) → R a b → R b c → R a c)
    (first : (a b : ℤ) → R (f a b) a) (second : (a b : ℤ) → R (f a b) b) where
  chosen : (us : List ℤ) (a v : ℤ) → (a ≡ v) ⊎ Contains us v → R (fold f a us) v
  chosen [] a v (inl is) = subst (R a) is (same a)
  chosen [] a v (inr (k, lt, e)) = absurd (omega (arith, lt))
  chosen (u ∷ us) a v h =
      let both = chosen us (f a u) (f a u) (inl refl) in
      elim h [
        | inl is ↦ subst (R (fold f (f a u) us)) is (along (fold f (f a u) us) (f a u) a both (first a u))
        | inr later ↦ elim (cases_of_list u v us later) [
          | inl here ↦ subst (R (fold f (f a u) us)) here (along (fold f (f a u) us) (f a u) u both (second a u))
          | inr more ↦ chosen us (f a u) v (inr more)
        ]
      ]

-- the least and the greatest of some numbers bound each
pub least_of-le : (vs : List ℤ) (v : ℤ) → Contains vs v → least_of vs ≤ℤ v
least_of-le [] v (k, lt, is) = absurd (omega (arith, lt))
least_of-le (u ∷ us) v m =
    chosen int_min (λ a b. a ≤ℤ b) (λ a. omega (arith, ints)) (λ a b c h k. omega (arith, ints, h, k)) (λ a b. omega (arith, ints, clamps)) (λ a b. omega (arith, ints, clamps))
    us u v (cases_of_list u v us m)

pub greatest_of-ge : (vs : List ℤ) (v : ℤ) → Contains vs v → v ≤ℤ greatest_of vs
greatest_of-ge [] v (k, lt, is) = absurd (omega (arith, lt))
greatest_of-ge (u ∷ us) v m =
    chosen int_max (λ a b. b ≤ℤ a) (λ a. omega (arith, ints)) (λ a b c h k. omega (arith, ints, h, k)) (λ a b. omega (arith, ints, clamps)) (λ a b. omega (arith, ints, clamps))
    us u v (cases_of_list u v us m)

member_map : (f : Rect → ℤ) (rects : List Rect) (r : Rect) → Contains rects r → Contains (map f rects) (f r)
member_map f [] r (k, lt, is) = absurd (omega (arith, lt))
member_map f (x ∷ xs) r (zero, lt, is) = (0, omega arith, ap f is)
member_map f (x ∷ xs) r (suc k, lt, is) = let (j, below, e) = member_map f xs r (k, omega (arith, lt), is) in (suc j, omega (arith, below), e)

pub hull_holds : (rects : List Rect) (r : Rect) → Contains rects r → IsWithin r (hull_of rects)
hull_holds rects r m = record {
  x0 = least_of-le (map (λ a. a.x0) rects) r.x0 (member_map (λ a. a.x0) rects r m);
  y0 = least_of-le (map (λ a. a.y0) rects) r.y0 (member_map (λ a. a.y0) rects r m);
  x1 = greatest_of-ge (map (λ a. a.x1) rects) r.x1 (member_map (λ a. a.x1) rects r m);
  y1 = greatest_of-ge (map (λ a. a.y1) rects) r.y1 (member_map (λ a. a.y1) rects r m);
}

-- the hull of one rectangle more
least_push : (f : Rect → ℤ) (b : Rect) (bs : List Rect) (r : Rect) → least_of (map f ((b ∷ bs) ++ r ∷ [])) ≡ int_min (least_of (map f (b ∷ bs))) (f r)
least_push f b bs r = ap (fold int_min (f b)) (map_push f bs r) ∙ fold_push int_min (f b) (map f bs) (f r)

greatest_push : (f : Rect → ℤ) (b : Rect) (bs : List Rect) (r : Rect) → greatest_of (map f ((b ∷ bs) ++ r ∷ [])) ≡ int_max (greatest_of (map f (b ∷ bs))) (f r)
greatest_push f b bs r = ap (fold int_max (f b)) (map_push f bs r) ∙ fold_push int_max (f b) (map f bs) (f r)

pub hull_push : (rects : List Rect) (r : Rect) → (rects ≡ [] → ⊥) → hull_of (hull_of rects ∷ r ∷ []) ≡ hull_of (rects ++ r ∷ [])
hull_push [] r some = absurd (some refl)
hull_push (b ∷ bs) r some =
    let x0 = least_push (λ a. a.x0) b bs r in let y0 = least_push (λ a. a.y0) b bs r in let x1 = greatest_push (λ a. a.x1) b bs r in let y1 = greatest_push (λ a. a.y1) b bs r in
    rw (x0, y0, x1, y1) refl
