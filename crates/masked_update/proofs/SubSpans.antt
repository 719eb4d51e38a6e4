-- The subtiles of a tile that a rectangle reaches, by column and row.
use Rattle.std.proofs.Common.{◌≡◌, ℕ, ℤ, pos, ◌+◌, ◌-◌, ◌*◌, ◌/◌, ◌%◌, ◌<◌, ◌≤◌, ◌≤ℤ◌, ◌<ℤ◌, true, min, int_lt, arith}
use Rattle.std.specs.Int.{int_min, int_max, div_ceil}
use Rattle.std.proofs.lemmas.Bool.{and_parts, and_from, lt-ltb, le-leb, ltb-true}
use Rattle.std.proofs.lemmas.Int.{ints, clamps}
use Rattle.cull_base.specs.declared.rect.Rect.{Rect}
use Rattle.cull_base.specs.declared.place.Tile.{Tile}
use Rattle.cull_base.specs.Screen.{Dimensions, IsSize}
use Rattle.masked_update.specs.Merged.{IsSubSpan}

-- how many of some pixels lie before a place
abbrev pub IsBefore : ℕ → ℤ → ℕ → Type 0
IsBefore count place n = pos n ≡ int_min (int_max place (pos 0)) (pos count)

-- what holds of a span of so many numbers, of which a place is one where it is on the screen and reached
pub record IsAlong (first end most : ℕ) (OnScreen Reached : ℕ → Type 0) : Type 0 where
  pub ordered : first ≤ end
  pub within : end ≤ most
  pub on_screen : (i : ℕ) → i < end → OnScreen i
  pub reached : (i : ℕ) → i < most → OnScreen i → Reached i → (first ≤ i) × (i < end)

columns : (a0 a1 : ℤ) (w c p0 p1 : ℕ) → w % 8 ≡ 0 → a0 ≤ℤ a1 → IsBefore w a0 p0 → IsBefore w a1 p1
    → IsAlong (min (p0 / 8 - 4 * c) 4) (min (div_ceil p1 8 - 4 * c) 4) 4 (λ i. 8 * (4 * c + i) < w) (λ i. int_max a0 (pos (8 * (4 * c + i))) <ℤ int_min a1 (pos (8 * (4 * c + i) + 8)))
columns a0 a1 w c p0 p1 whole le e0 e1 = record {
  ordered = omega (arith, ints, clamps, le, e0, e1);
  within = omega arith;
  on_screen = λ i h. omega (arith, ints, clamps, e1, h, whole);
  reached = λ i h on some. (omega (arith, ints, clamps, e0, h, on, some, le), omega (arith, ints, clamps, e1, h, on, some, le));
}

rows : (a0 a1 : ℤ) (w c p0 p1 : ℕ) → w % 4 ≡ 0 → a0 ≤ℤ a1 → IsBefore w a0 p0 → IsBefore w a1 p1
    → IsAlong (min (p0 / 4 - 2 * c) 2) (min (div_ceil p1 4 - 2 * c) 2) 2 (λ i. 4 * (2 * c + i) < w) (λ i. int_max a0 (pos (4 * (2 * c + i))) <ℤ int_min a1 (pos (4 * (2 * c + i) + 4)))
rows a0 a1 w c p0 p1 whole le e0 e1 = record {
  ordered = omega (arith, ints, clamps, le, e0, e1);
  within = omega arith;
  on_screen = λ i h. omega (arith, ints, clamps, e1, h, whole);
  reached = λ i h on some. (omega (arith, ints, clamps, e0, h, on, some, le), omega (arith, ints, clamps, e1, h, on, some, le));
}

pub sub_span_is : (r : Rect) (size : Dimensions) (place : Tile) (x0 x1 y0 y1 a b c d : ℕ) → IsSize size.width size.height → r.x0 ≤ℤ r.x1 → r.y0 ≤ℤ r.y1
    → IsBefore size.width r.x0 x0 → IsBefore size.width r.x1 x1 → IsBefore size.height r.y0 y0 → IsBefore size.height r.y1 y1
    → a ≡ min (x0 / 8 - 4 * place.column) 4 → b ≡ min (div_ceil x1 8 - 4 * place.column) 4 → c ≡ min (y0 / 4 - 2 * place.row) 2 → d ≡ min (div_ceil y1 4 - 2 * place.row) 2
    → IsSubSpan r size place (record { first_column = a; end_column = b; first_row = c; end_row = d })
sub_span_is r size place x0 x1 y0 y1 a b c d valid across down ex0 ex1 ey0 ey1 ea eb ec ed = rw (ea, eb, ec, ed) (record {
  columns = x.ordered;
  rows = y.ordered;
  columns_within = x.within;
  rows_within = y.within;
  on_screen = λ j h.
      let p = and_parts _ _ h in
      let row = and_parts _ _ p.0 in
      let column = and_parts _ _ p.1 in
      and_from _ _ (lt-ltb _ _ (x.on_screen (j % 4) (ltb-true _ _ column.1))) (lt-ltb _ _ (y.on_screen (j / 4) (ltb-true _ _ row.1)));
  reached = λ j lt on m.
      let (h, v) = and_parts _ _ on in
      let p = and_parts _ _ m in
      let column = x.reached (j % 4) (omega arith) (ltb-true _ _ h) (less _ _ p.0) in
      let row = y.reached (j / 4) (omega (arith, lt)) (ltb-true _ _ v) (less _ _ p.1) in
      and_from _ _ (and_from _ _ (le-leb _ _ row.0) (lt-ltb _ _ row.1)) (and_from _ _ (le-leb _ _ column.0) (lt-ltb _ _ column.1));
})
  where
    less : (m n : ℤ) → int_lt m n ≡ true → m <ℤ n
    less m n e = omega (arith, ints, e)

    x : IsAlong (min (x0 / 8 - 4 * place.column) 4) (min (div_ceil x1 8 - 4 * place.column) 4) 4 (λ i. 8 * (4 * place.column + i) < size.width) (λ i. int_max r.x0 (pos (8 * (4 * place.column + i))) <ℤ int_min r.x1 (pos (8 * (4 * place.column + i) + 8)))
    x = columns r.x0 r.x1 size.width place.column x0 x1 valid.whole_columns across ex0 ex1

    y : IsAlong (min (y0 / 4 - 2 * place.row) 2) (min (div_ceil y1 4 - 2 * place.row) 2) 2 (λ i. 4 * (2 * place.row + i) < size.height) (λ i. int_max r.y0 (pos (4 * (2 * place.row + i))) <ℤ int_min r.y1 (pos (4 * (2 * place.row + i) + 4)))
    y = rows r.y0 r.y1 size.height place.row y0 y1 valid.whole_rows down ey0 ey1
