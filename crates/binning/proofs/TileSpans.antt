-- The tiles in which the ends of a box lie, moved to the screen: its span.
use Rattle.std.proofs.Common.{◌≡◌, ◌⊎◌, inl, inr, ℕ, ℤ, pos, negsuc, ◌+◌, ◌-◌, ◌*◌, ◌/◌, ◌<◌, ◌≤◌, ◌<ℤ◌, ◌≤ℤ◌, List, [], ◌∷◌, Bool, true, false, ◌&&◌, cond, min, arith, refl, ap, ◌∙◌, sym}
use Rattle.std.specs.Int.{int_min, int_max, div_ceil}
use Rattle.std.proofs.lemmas.Int.{ints, fold-int_min_bounds, fold-int_max_bounds}
use Rattle.cull_base.specs.declared.tile_span.TileSpan.{TileSpan}
use Rattle.cull_base.specs.Piece.{least_of, greatest_of, first_pixel, end_pixel, box_around}
use Rattle.cull_base.specs.Rectangle.{meets, cut_of, common, no_pixels}
use Rattle.cull_base.specs.Screen.{Dimensions, IsSize, screen_of}
use Rattle.cull_base.specs.Span.{IsSpan, HasTilesOf}
use Rattle.cull_base.proofs.Spans.{overlap, span_is}
use Rattle.binning.specs.Tiles.{past_zero, misses, first_tile_of, last_tile_of}

-- the least of some coordinates is at most the greatest
pub least_first : (vs : List ℤ) → least_of vs ≤ℤ greatest_of vs
least_first [] = omega (arith, ints)
least_first (v ∷ vs) = by (least_of (v ∷ vs)) (greatest_of (v ∷ vs)) (fold-int_min_bounds v vs _ refl).0 (fold-int_max_bounds v vs _ refl).0
  where
    by : (least greatest : ℤ) → least ≤ℤ v → v ≤ℤ greatest → least ≤ℤ greatest
    by least greatest p q = omega (arith, ints, p, q)

-- an extent of coordinates, some of which may lie among so many pixels
pub record IsOn (least greatest : ℤ) (pixels : ℕ) : Type 0 where
  pub some : 0 < pixels
  pub order : least ≤ℤ greatest
  pub not_after : least <ℤ pos (16 * pixels)
  pub not_before : pos 0 ≤ℤ greatest

pub is_on : (least greatest : ℤ) (pixels : ℕ) → 0 < pixels → least ≤ℤ greatest → misses least greatest pixels ≡ false → IsOn least greatest pixels
is_on least greatest pixels some le off = record { some = some; order = le; not_after = grind (arith, ints); not_before = grind (arith, ints) }

-- past 0 the order stays
past_rises : (least greatest : ℤ) → least ≤ℤ greatest → past_zero least ≤ past_zero greatest
past_rises (pos m) (pos n) le = omega (arith, ints, le)
past_rises (negsuc m) n le = omega arith
past_rises (pos m) (negsuc n) le = absurd (omega (arith, ints, le))

past_before : (least : ℤ) (n : ℕ) → 0 < n → least <ℤ pos n → past_zero least < n
past_before (pos m) n some lt = omega (arith, ints, lt)
past_before (negsuc m) n some lt = omega (arith, some)

-- the tile of the least isn't past that of the greatest
rise : (least greatest : ℤ) (pixels : ℕ) → IsOn least greatest pixels → past_zero least ≤ min (past_zero greatest) (16 * pixels - 1)
rise least greatest pixels on =
    let p = past_rises least greatest on.order in
    let q = past_before least (16 * pixels) (omega (arith, on.some)) on.not_after in
    omega (arith, p, q)

pub columns_rise : (least greatest : ℤ) (pixels : ℕ) → IsOn least greatest pixels → first_tile_of least 512 ≤ last_tile_of greatest pixels 512
columns_rise least greatest pixels on = omega (arith, rise least greatest pixels on)

pub rows_rise : (least greatest : ℤ) (pixels : ℕ) → IsOn least greatest pixels → first_tile_of least 128 ≤ last_tile_of greatest pixels 128
rows_rise least greatest pixels on = omega (arith, rise least greatest pixels on)

-- the pixels of both ends on the screen
first_on : (v : ℤ) → int_max (first_pixel v) (pos 0) ≡ pos (past_zero v / 16)
first_on (pos n) = by (n / 16)
  where
    by : (k : ℕ) → int_max (pos k) (pos 0) ≡ pos k
    by k = grind (arith, ints)
first_on (negsuc n) = refl

end_on : (v : ℤ) (w : ℕ) → pos 0 ≤ℤ v → int_min (end_pixel v) (pos w) ≡ pos (min (past_zero v / 16 + 1) w)
end_on (pos n) w from = by (n / 16 + 1)
  where
    by : (k : ℕ) → int_min (pos k) (pos w) ≡ pos (min k w)
    by k = grind (arith, ints)
end_on (negsuc n) w from = absurd (omega (arith, ints, from))

-- an extent that isn't missed shares a pixel, and one that is missed none
shares : (least greatest : ℤ) (w : ℕ) → IsOn least greatest w → overlap (first_pixel least) (end_pixel greatest) (pos 0) (pos w) ≡ true
shares least greatest w on =
    let p = past_rises least greatest on.order in
    let q = past_before least (16 * w) (omega (arith, on.some)) on.not_after in
    let lt : past_zero least / 16 < min (past_zero greatest / 16 + 1) w = omega (arith, p, q) in
    rw (first_on least, end_on greatest w on.not_before) (grind (arith, ints, lt))

shares_none : (least greatest : ℤ) (w : ℕ) → misses least greatest w ≡ true → overlap (first_pixel least) (end_pixel greatest) (pos 0) (pos w) ≡ false
shares_none least (negsuc g) w off = grind (arith, ints)
shares_none (negsuc l) (pos g) w off = grind (arith, ints)
shares_none (pos l) (pos g) w off = grind (arith, ints)

and_from : (a b : Bool) → a ≡ true → b ≡ true → (a && b) ≡ true
and_from true b p q = q
and_from false b p q = p

and_off : (a b : Bool) → (a ≡ false) ⊎ (b ≡ false) → (a && b) ≡ false
and_off a b (inl e) = rw e refl
and_off true b (inr e) = e
and_off false b (inr e) = refl

-- a tile ends where the next begins
column_end : (n w : ℕ) → 0 < w → div_ceil (min (n / 16 + 1) w) 32 ≡ min n (16 * w - 1) / 512 + 1
column_end n w some = omega arith

row_end : (n w : ℕ) → 0 < w → div_ceil (min (n / 16 + 1) w) 8 ≡ min n (16 * w - 1) / 128 + 1
row_end n w some = omega arith

-- the span of a box that isn't missed
pub span_on : (size : Dimensions) (xs ys : List ℤ) (left right top bottom : ℕ) → IsSize size.width size.height → IsOn (least_of xs) (greatest_of xs) size.width → IsOn (least_of ys) (greatest_of ys) size.height
    → left ≡ first_tile_of (least_of xs) 512 → right ≡ last_tile_of (greatest_of xs) size.width 512 → top ≡ first_tile_of (least_of ys) 128 → bottom ≡ last_tile_of (greatest_of ys) size.height 128
    → let span : TileSpan = record { first_column = left; end_column = right + 1; first_row = top; end_row = bottom + 1 } in
    HasTilesOf span size (box_around xs ys) × IsSpan size span
span_on size xs ys left right top bottom valid x y e0 e1 f0 f1 =
    let box = box_around xs ys in
    let on : meets box (screen_of size) ≡ true = and_from _ _ (shares (least_of xs) (greatest_of xs) size.width x) (shares (least_of ys) (greatest_of ys) size.height y) in
    let shared : common box (screen_of size) ≡ cut_of box (screen_of size) = sym (ap (λ m. cond m (common box (screen_of size)) no_pixels) on) in
    let first_column : left ≡ past_zero (least_of xs) / 16 / 32 = omega (arith, e0) in
    let first_row : top ≡ past_zero (least_of ys) / 16 / 8 = omega (arith, f0) in
    rw (first_column, first_row)
    (span_is size box (common box (screen_of size)) (past_zero (least_of xs) / 16) (min (past_zero (greatest_of xs) / 16 + 1) size.width) (past_zero (least_of ys) / 16) (min (past_zero (greatest_of ys) / 16 + 1) size.height)
    (right + 1) (bottom + 1) valid shared (sym (first_on (least_of xs))) (sym (end_on (greatest_of xs) size.width x.not_before)) (sym (first_on (least_of ys))) (sym (end_on (greatest_of ys) size.height y.not_before))
    (ap (λ n. n + 1) e1 ∙ sym (column_end (past_zero (greatest_of xs)) size.width x.some)) (ap (λ n. n + 1) f1 ∙ sym (row_end (past_zero (greatest_of ys)) size.height y.some)))

-- and of one that is missed
pub span_off : (size : Dimensions) (xs ys : List ℤ) → IsSize size.width size.height
    → (misses (least_of xs) (greatest_of xs) size.width ≡ true) ⊎ (misses (least_of ys) (greatest_of ys) size.height ≡ true)
    → let span : TileSpan = record { first_column = 0; end_column = 0; first_row = 0; end_row = 0 } in
    HasTilesOf span size (box_around xs ys) × IsSpan size span
span_off size xs ys valid off =
    let box = box_around xs ys in
    let none : meets box (screen_of size) ≡ false = and_off _ _ (elim off [
      | inl e ↦ inl (shares_none (least_of xs) (greatest_of xs) size.width e)
      | inr e ↦ inr (shares_none (least_of ys) (greatest_of ys) size.height e)
    ]) in
    let is : no_pixels ≡ cut_of box (screen_of size) = sym (ap (λ m. cond m (common box (screen_of size)) no_pixels) none) in
    span_is size box no_pixels 0 0 0 0 0 0 valid is refl refl refl refl refl refl
