-- Pieces: triangles on the screen, which samples they cover or touch, and which pixels they reach.
use Rattle.std.specs.Prelude.{ℕ, ℤ, pos, neg_ℤ, ◌≡◌, ◌+◌, ◌*◌, ◌/◌, ◌%◌, ◌^◌, ◌≤◌, ◌+ℤ◌, ◌-ℤ◌, ◌*ℤ◌, ◌<ℤ◌}
use Rattle.std.specs.Prelude.{List, [], ◌∷◌, map, length, Bool, int_lt, int_le, ◌&&◌, ◌||◌, slice_index, slice_index_or}
use Rattle.std.specs.List.{fold, range_with_len, All}
use Rattle.std.specs.Int.{int_min, int_max, int_div_euclid}
use Rattle.std.specs.Ordering.{int_eq}
use Rattle.cull_base.specs.declared.nearness.TheConstants.{HELD_TOP}
use Rattle.cull_base.specs.declared.rect.Rect.{Rect}
use Rattle.cull_base.specs.declared.place.Sub.{Sub}

-- in sixteenths of a pixel, y downwards
pub record Point : Type 0 where
  pub x : ℤ
  pub y : ℤ

abbrev pub point : ℤ → ℤ → Point
point x y = record { x = x; y = y }

-- the coordinates of three vertices, and their nearness
pub record Piece : Type 0 where
  pub xs : List ℤ
  pub ys : List ℤ
  pub qs : List ℕ

abbrev pub piece : List ℤ → List ℤ → List ℕ → Piece
piece xs ys qs = record { xs = xs; ys = ys; qs = qs }

abbrev pub vertex : Piece → ℕ → Point
vertex t k = record { x = slice_index_or t.xs k (pos 0); y = slice_index_or t.ys k (pos 0) }

abbrev pub nearness : Piece → ℕ → ℕ
nearness t k = slice_index t.qs k

-- the value at p of the edge from a to b
abbrev pub edge_value : Point → Point → Point → ℤ
edge_value a b p = ((b.x -ℤ a.x) *ℤ (p.y -ℤ a.y)) -ℤ ((b.y -ℤ a.y) *ℤ (p.x -ℤ a.x))

abbrev pub doubled_area : Piece → ℤ
doubled_area t = edge_value (vertex t 0) (vertex t 1) (vertex t 2)

-- strictly between -2^29 and 2^29
abbrev pub IsCoordinate : ℤ → Type 0
IsCoordinate v = (neg_ℤ (pos (2 ^ 29)) <ℤ v) × (v <ℤ pos (2 ^ 29))

pub record IsPiece (t : Piece) : Type 0 where
  pub positive_area : pos 0 <ℤ doubled_area t
  pub x_within : All IsCoordinate t.xs
  pub y_within : All IsCoordinate t.ys
  pub nearness_within : All (λ q. q ≤ HELD_TOP) t.qs
  pub three_x : length t.xs ≡ 3
  pub three_y : length t.ys ≡ 3
  pub three_q : length t.qs ≡ 3

-- the middle of a pixel
abbrev pub middle : ℕ → ℕ → Point
middle px py = record { x = pos (16 * px + 8); y = pos (16 * py + 8) }

-- sample k of a subtile, of eight columns and four rows
abbrev pub sample : Sub → ℕ → Point
sample u k = middle (8 * u.column + k % 8) (4 * u.row + k / 8)

abbrev pub is_top_or_left : Point → Point → Bool
is_top_or_left a b = int_lt b.y a.y || (int_eq b.y a.y && int_lt a.x b.x)

abbrev pub edge_covers : Point → Point → Point → Bool
edge_covers a b p = int_lt (pos 0) (edge_value a b p) || (int_eq (edge_value a b p) (pos 0) && is_top_or_left a b)

abbrev pub edge_touches : Point → Point → Point → Bool
edge_touches a b p = int_le (pos 0) (edge_value a b p)

unfoldable pub covers : Piece → Point → Bool
covers t p = edge_covers (vertex t 0) (vertex t 1) p && (edge_covers (vertex t 1) (vertex t 2) p && edge_covers (vertex t 2) (vertex t 0) p)

unfoldable pub touches : Piece → Point → Bool
touches t p =
    edge_touches (vertex t 0) (vertex t 1) p
    && (edge_touches (vertex t 1) (vertex t 2) p && edge_touches (vertex t 2) (vertex t 0) p)

-- f of each of the 32 samples of a subtile, in the order of their numbers
unfoldable pub each_sample : {X : Type 0} → (ℕ → X) → List X
each_sample f = map f (range_with_len 0 32)

-- which samples of a subtile a piece covers, and which it touches
unfoldable pub covered : Piece → Sub → List Bool
covered t u = each_sample (λ k. covers t (sample u k))

unfoldable pub touched : Piece → Sub → List Bool
touched t u = each_sample (λ k. touches t (sample u k))

-- the least and the greatest of some numbers, 0 of none
abbrev pub least_of : List ℤ → ℤ
least_of [] = pos 0
least_of (x ∷ xs) = fold int_min x xs

abbrev pub greatest_of : List ℤ → ℤ
greatest_of [] = pos 0
greatest_of (x ∷ xs) = fold int_max x xs

-- the pixel of a least coordinate, and the one past that of a greatest
abbrev pub first_pixel : ℤ → ℤ
first_pixel v = int_div_euclid v (pos 16)

abbrev pub end_pixel : ℤ → ℤ
end_pixel v = int_div_euclid v (pos 16) +ℤ pos 1

-- the pixels that points with these coordinates may reach, not cut to the screen
abbrev pub box_around : List ℤ → List ℤ → Rect
box_around xs ys =
    record {
      x0 = first_pixel (least_of xs);
      y0 = first_pixel (least_of ys);
      x1 = end_pixel (greatest_of xs);
      y1 = end_pixel (greatest_of ys);
    }

abbrev pub box_of : Piece → Rect
box_of t = box_around t.xs t.ys
