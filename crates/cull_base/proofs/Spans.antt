-- The tiles that a box reaches, by column and row.
use Rattle.std.proofs.Common.{◌≡◌, ◌⊎◌, inl, inr, ℕ, ℤ, pos, ◌+◌, ◌*◌, ◌/◌, ◌%◌, ◌<◌, ◌≤◌, ◌<ℤ◌, ◌≤ℤ◌, Bool, true, false, ◌&&◌, cond, min, int_lt, arith, refl, ap, ◌∙◌, sym, subst}
use Rattle.std.specs.Int.{int_min, int_max, div_ceil}
use Rattle.std.specs.Cmp.{both_ways}
use Rattle.std.proofs.lemmas.Bool.{and_parts, and_cases}
use Rattle.std.proofs.lemmas.Int.{ints}
use Rattle.std.proofs.Math.Bool.{and_comm}
use Rattle.std.proofs.Math.Nat.{mod-lt}
use Rattle.std.proofs.lemmas.Bool.Decides.{nat_tests}
use Rattle.cull_base.specs.declared.rect.Rect.{Rect}
use Rattle.cull_base.specs.Rectangle.{meets, cut_of, common, no_pixels}
use Rattle.cull_base.specs.Screen.{Dimensions, IsSize, screen_of, tile_columns_of, tile_rows_of, tile_count_of, tile_place, tile_rect_of}
use Rattle.cull_base.proofs.Places.{row_below}
use Rattle.cull_base.specs.Span.{is_between, has_tile, IsSpan}
use Rattle.cull_base.specs.declared.tile_span.TileSpan.{TileSpan}

-- whether two spans of pixels share one
abbrev pub overlap : ℤ → ℤ → ℤ → ℤ → Bool
overlap a0 a1 b0 b1 = int_lt (int_max a0 b0) (int_min a1 b1)

columns : (a0 a1 : ℤ) (w c m n : ℕ) → 32 * c < w → int_max a0 (pos 0) <ℤ int_min a1 (pos w) → pos m ≡ int_max a0 (pos 0) → pos n ≡ int_min a1 (pos w)
    → is_between (m / 32) (div_ceil n 32) c ≡ overlap a0 a1 (pos (32 * c)) (pos (min (32 * c + 32) w))
columns a0 a1 w c m n lt some em en = both_ways _ _ (λ h. grind (arith, ints, nat_tests)) (λ h. grind (arith, ints, nat_tests))

rows : (a0 a1 : ℤ) (w c m n : ℕ) → 8 * c < w → int_max a0 (pos 0) <ℤ int_min a1 (pos w) → pos m ≡ int_max a0 (pos 0) → pos n ≡ int_min a1 (pos w)
    → is_between (m / 8) (div_ceil n 8) c ≡ overlap a0 a1 (pos (8 * c)) (pos (min (8 * c + 8) w))
rows a0 a1 w c m n lt some em en = both_ways _ _ (λ h. grind (arith, ints, nat_tests)) (λ h. grind (arith, ints, nat_tests))

no_columns : (a0 a1 : ℤ) (w c s : ℕ) → overlap a0 a1 (pos 0) (pos w) ≡ false → overlap a0 a1 (pos (s * c)) (pos (min (s * c + s) w)) ≡ false
no_columns a0 a1 w c s off = grind (arith, ints)

-- the corners of the pixels on the screen
pub record FromZero (r : Rect) : Type 0 where
  pub x0 : pos 0 ≤ℤ r.x0
  pub x1 : pos 0 ≤ℤ r.x1
  pub y0 : pos 0 ≤ℤ r.y0
  pub y1 : pos 0 ≤ℤ r.y1

pub from_zero : (size : Dimensions) (a r : Rect) → r ≡ cut_of a (screen_of size) → FromZero r
from_zero size a r e = subst FromZero (sym e) (by (meets a (screen_of size)) refl)
  where
    axis : (a0 a1 : ℤ) (n : ℕ) → overlap a0 a1 (pos 0) (pos n) ≡ true → (pos 0 ≤ℤ int_max a0 (pos 0)) × (pos 0 ≤ℤ int_min a1 (pos n))
    axis a0 a1 n lt = (grind (arith, ints), grind (arith, ints))

    by : (m : Bool) → meets a (screen_of size) ≡ m → FromZero (cond m (common a (screen_of size)) no_pixels)
    by true lt =
        let t = and_parts (overlap a.x0 a.x1 (pos 0) (pos size.width)) (overlap a.y0 a.y1 (pos 0) (pos size.height)) lt in
        let x = axis a.x0 a.x1 size.width t.0 in
        let y = axis a.y0 a.y1 size.height t.1 in
        record { x0 = x.0; x1 = x.1; y0 = y.0; y1 = y.1 }
    by false off = record { x0 = omega (arith, ints); x1 = omega (arith, ints); y0 = omega (arith, ints); y1 = omega (arith, ints) }

-- the tiles of the span
abbrev pub span_of : ℕ → ℕ → ℕ → ℕ → TileSpan
span_of x0 x1 y0 y1 = record { first_column = x0 / 32; end_column = div_ceil x1 32; first_row = y0 / 8; end_row = div_ceil y1 8 }

pub columns_some : (size : Dimensions) → IsSize size.width size.height → 0 < tile_columns_of size
columns_some size valid = let wide = valid.wide in omega arith

column_below : (size : Dimensions) (t : ℕ) → IsSize size.width size.height → 32 * (t % tile_columns_of size) < size.width
column_below size t valid =
    let some : 0 < tile_columns_of size = columns_some size valid in
    let lt : t % tile_columns_of size < tile_columns_of size = mod-lt t some in
    within size.width (t % tile_columns_of size) lt
  where
    within : (w c : ℕ) → c < div_ceil w 32 → 32 * c < w
    within w c lt = omega arith

row_within : (size : Dimensions) (t : ℕ) → IsSize size.width size.height → t < tile_count_of size → 8 * (t / tile_columns_of size) < size.height
row_within size t valid lt = within size.height (t / tile_columns_of size) (row_below t (tile_columns_of size) (tile_rows_of size) (columns_some size valid) lt)
  where
    within : (h r : ℕ) → r < div_ceil h 8 → 8 * r < h
    within h r lt = omega arith

off_both : (x y : Bool) → (x ≡ false) ⊎ (y ≡ false) → (x && y) ≡ false
off_both x y (inl e) = rw e refl
off_both true y (inr e) = e
off_both false y (inr e) = refl

less : (m n : ℤ) → int_lt m n ≡ true → m <ℤ n
less m n e = grind (arith, ints)

none_between : (first behind c : ℕ) → behind ≡ 0 → is_between first behind c ≡ false
none_between first behind c e = grind (arith, nat_tests)

pub span_meets : (size : Dimensions) (a : Rect) (x0 x1 y0 y1 t : ℕ) → IsSize size.width size.height → t < tile_count_of size → let r = cut_of a (screen_of size) in
    pos x0 ≡ r.x0 → pos x1 ≡ r.x1 → pos y0 ≡ r.y0 → pos y1 ≡ r.y1 → has_tile (span_of x0 x1 y0 y1) (tile_place size t) ≡ meets a (tile_rect_of size t)
span_meets size a x0 x1 y0 y1 t valid lt e0 e1 f0 f1 = by (meets a (screen_of size)) refl e0 e1 f0 f1
  where
    c : ℕ
    c = t % tile_columns_of size

    r : ℕ
    r = t / tile_columns_of size

    by : (m : Bool) → meets a (screen_of size) ≡ m → let k = cond m (common a (screen_of size)) no_pixels in
        pos x0 ≡ k.x0 → pos x1 ≡ k.x1 → pos y0 ≡ k.y0 → pos y1 ≡ k.y1 → has_tile (span_of x0 x1 y0 y1) (tile_place size t) ≡ meets a (tile_rect_of size t)
    by true some e0 e1 f0 f1 =
        let (h, v) = and_parts (overlap a.x0 a.x1 (pos 0) (pos size.width)) (overlap a.y0 a.y1 (pos 0) (pos size.height)) some in
        let x = columns a.x0 a.x1 size.width c x0 x1 (column_below size t valid) (less (int_max a.x0 (pos 0)) (int_min a.x1 (pos size.width)) h) e0 e1 in
        let y = rows a.y0 a.y1 size.height r y0 y1 (row_within size t valid lt) (less (int_max a.y0 (pos 0)) (int_min a.y1 (pos size.height)) v) f0 f1 in
        ap (λ b. b && is_between (x0 / 32) (div_ceil x1 32) c) y ∙ ap (λ b. overlap a.y0 a.y1 (pos (8 * r)) (pos (min (8 * r + 8) size.height)) && b) x ∙ and_comm (overlap a.y0 a.y1 (pos (8 * r)) (pos (min (8 * r + 8) size.height))) (overlap a.x0 a.x1 (pos (32 * c)) (pos (min (32 * c + 32) size.width)))
    by false off e0 e1 f0 f1 =
        let no = off_both (overlap a.x0 a.x1 (pos (32 * c)) (pos (min (32 * c + 32) size.width))) (overlap a.y0 a.y1 (pos (8 * r)) (pos (min (8 * r + 8) size.height)))
        (elim (and_cases (overlap a.x0 a.x1 (pos 0) (pos size.width)) (overlap a.y0 a.y1 (pos 0) (pos size.height)) off) [
          | inl e ↦ inl (no_columns a.x0 a.x1 size.width c 32 e)
          | inr e ↦ inr (no_columns a.y0 a.y1 size.height r 8 e)
        ]) in
        let z : div_ceil x1 32 ≡ 0 = omega (arith, ints, e1) in
        let none = none_between (x0 / 32) (div_ceil x1 32) c z in
        let and_off : (b d : Bool) → d ≡ false → (b && d) ≡ false = λ b d e. off_both b d (inr e) in
        and_off (is_between (y0 / 8) (div_ceil y1 8) r) (is_between (x0 / 32) (div_ceil x1 32) c) none ∙ sym no

pixels : (a0 a1 : ℤ) (w m n : ℕ) → int_max a0 (pos 0) <ℤ int_min a1 (pos w) → pos m ≡ int_max a0 (pos 0) → pos n ≡ int_min a1 (pos w) → (m < n) × (n ≤ w)
pixels a0 a1 w m n lt em en = (omega (arith, ints), at_most a1 w n en)
  where
    at_most : (a : ℤ) (v k : ℕ) → pos k ≡ int_min a (pos v) → k ≤ v
    at_most a v k e = grind (arith, ints)

across : (a0 a1 : ℤ) (w m n : ℕ) → int_max a0 (pos 0) <ℤ int_min a1 (pos w) → pos m ≡ int_max a0 (pos 0) → pos n ≡ int_min a1 (pos w) → (m / 32 ≤ div_ceil n 32) × (div_ceil n 32 ≤ div_ceil w 32)
across a0 a1 w m n lt em en = let p = pixels a0 a1 w m n lt em en in (omega (arith, p.0), omega (arith, p.1))

down : (a0 a1 : ℤ) (w m n : ℕ) → int_max a0 (pos 0) <ℤ int_min a1 (pos w) → pos m ≡ int_max a0 (pos 0) → pos n ≡ int_min a1 (pos w) → (m / 8 ≤ div_ceil n 8) × (div_ceil n 8 ≤ div_ceil w 8)
down a0 a1 w m n lt em en = let p = pixels a0 a1 w m n lt em en in (omega (arith, p.0), omega (arith, p.1))

pub span_within : (size : Dimensions) (a : Rect) (x0 x1 y0 y1 : ℕ) → let r = cut_of a (screen_of size) in
    pos x0 ≡ r.x0 → pos x1 ≡ r.x1 → pos y0 ≡ r.y0 → pos y1 ≡ r.y1 → IsSpan size (span_of x0 x1 y0 y1)
span_within size a x0 x1 y0 y1 e0 e1 f0 f1 = by (meets a (screen_of size)) refl e0 e1 f0 f1
  where
    by : (m : Bool) → meets a (screen_of size) ≡ m → let k = cond m (common a (screen_of size)) no_pixels in
        pos x0 ≡ k.x0 → pos x1 ≡ k.x1 → pos y0 ≡ k.y0 → pos y1 ≡ k.y1 → IsSpan size (span_of x0 x1 y0 y1)
    by true some e0 e1 f0 f1 =
        let (h, v) = and_parts (overlap a.x0 a.x1 (pos 0) (pos size.width)) (overlap a.y0 a.y1 (pos 0) (pos size.height)) some in
        let x = across a.x0 a.x1 size.width x0 x1 (less (int_max a.x0 (pos 0)) (int_min a.x1 (pos size.width)) h) e0 e1 in
        let y = down a.y0 a.y1 size.height y0 y1 (less (int_max a.y0 (pos 0)) (int_min a.y1 (pos size.height)) v) f0 f1 in
        record { columns = x.0; rows = y.0; columns_within = x.1; rows_within = y.1 }
    by false off e0 e1 f0 f1 =
        record { columns = omega (arith, ints, e0, e1); rows = omega (arith, ints, f0, f1); columns_within = omega (arith, ints, e1); rows_within = omega (arith, ints, f1) }

-- the span of the pixels that a box shares with the screen
pub span_is : (size : Dimensions) (a r : Rect) (x0 x1 y0 y1 c d : ℕ) → IsSize size.width size.height → r ≡ cut_of a (screen_of size) → pos x0 ≡ r.x0 → pos x1 ≡ r.x1 → pos y0 ≡ r.y0 → pos y1 ≡ r.y1
    → c ≡ div_ceil x1 32 → d ≡ div_ceil y1 8 → let span : TileSpan = record { first_column = x0 / 32; end_column = c; first_row = y0 / 8; end_row = d } in
    ((t : ℕ) → t < tile_count_of size → has_tile span (tile_place size t) ≡ meets a (tile_rect_of size t)) × IsSpan size span
span_is size a r x0 x1 y0 y1 c d valid e e0 e1 f0 f1 ec ed =
    let g0 = e0 ∙ ap (λ (k : Rect). k.x0) e in
    let g1 = e1 ∙ ap (λ (k : Rect). k.x1) e in
    let h0 = f0 ∙ ap (λ (k : Rect). k.y0) e in
    let h1 = f1 ∙ ap (λ (k : Rect). k.y1) e in
    rw (ec, ed) ((λ t lt. span_meets size a x0 x1 y0 y1 t valid lt g0 g1 h0 h1), span_within size a x0 x1 y0 y1 g0 g1 h0 h1)
