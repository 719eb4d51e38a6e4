-- The bound at each pixel, element by element and row by row.
use Rattle.std.proofs.Common.{◌≡◌, inl, inr, ℕ, ◌+◌, ◌-◌, ◌*◌, ◌/◌, ◌<◌, ◌≤◌, ◌⊎◌, List, length, set, arith, refl, ap, ◌∙◌, sym}
use Rattle.std.proofs.lemmas.Bool.{cases_lt}
use Rattle.std.proofs.lemmas.List.{get_or-set_other, get_or-set_same, length-set}
use Rattle.std.proofs.lemmas.Nat.{div-add-mod', le-div, mul-le, row_fits}
use Rattle.cull_base.specs.Screen.{Dimensions, tile_columns_of, tile_count_of}
use Rattle.cull_base.proofs.Pixels.{tile_is, tile_of_pixel-is}
use Rattle.maskcull_c.specs.Picture.{AreDrawn, HasPicture, IsBesideRows, IsRow, element}

-- the tile of a pixel is among those of the screen
pub number_within : (size : Dimensions) (px py columns count : ℕ) → px < size.width → py < size.height → columns ≡ tile_columns_of size → count ≡ tile_count_of size → py / 4 / 2 * columns + px / 8 / 4 < count
number_within size px py columns count x y same all =
    let tile = tile_of_pixel-is size px py x y in
    let within = tile.within in
    let number = tile_is px py (py / 8) (px / 32) (tile_columns_of size) columns (sym same) refl refl in
    omega (arith, number, within, all)

-- no element of a row is drawn
pub row_none : (start : ℕ) (shade : ℕ → ℕ) (out : List ℕ) → IsRow start 0 shade out out
row_none start shade out = record { whole = refl; shades = λ x lt. absurd (omega (arith, lt)); beside = λ i off. refl }

-- one more is
pub row_more : (start n v : ℕ) (shade : ℕ → ℕ) (old now : List ℕ) → start + n < length now → v ≡ shade n → IsRow start n shade old now → IsRow start (n + 1) shade old (set now (start + n) v)
row_more start n v shade old now lt is r = record {
  whole = length-set now (start + n) v ∙ r.whole;
  shades = λ x below. elim (cases_lt x n) [
    | inl before ↦ get_or-set_other now (start + n) (start + x) v 0 (λ e. omega (arith, e, before)) ∙ r.shades x before
    | inr past ↦
        let here : x ≡ n = omega (arith, past, below) in
        ap (λ k. element (set now (start + n) v) (start + k)) here ∙ get_or-set_same now (start + n) v 0 lt ∙ is ∙ ap shade (sym here)
  ];
  beside = λ i off. get_or-set_other now (start + n) i v 0 (apart i off) ∙ r.beside i (farther i off);
}
  where
    apart : (i : ℕ) → (i < start) ⊎ (start + (n + 1) ≤ i) → i ≡ start + n → ⊥
    apart i off e = elim off [ inl before ↦ omega (arith, e, before) | inr past ↦ omega (arith, e, past) ]

    farther : (i : ℕ) → (i < start) ⊎ (start + (n + 1) ≤ i) → (i < start) ⊎ (start + n ≤ i)
    farther i off = elim off [ inl before ↦ inl before | inr past ↦ inr (omega (arith, past)) ]

-- no row is drawn
pub rows_none : (width stride : ℕ) (shade : ℕ → ℕ → ℕ) (out : List ℕ) → AreDrawn width stride 0 shade out out
rows_none width stride shade out = record { whole = refl; shades = λ x y lt below. absurd (omega (arith, below)); beside = λ i off. refl }

-- one more is
pub rows_more : (width stride n : ℕ) (shade : ℕ → ℕ → ℕ) (old now new : List ℕ) → width ≤ stride → AreDrawn width stride n shade old now → IsRow (n * stride) width (λ x. shade x n) now new → AreDrawn width stride (n + 1) shade old new
rows_more width stride n shade old now new wide a r = record {
  whole = r.whole ∙ a.whole;
  shades = λ x y lt below. elim (cases_lt y n) [
    | inl before ↦ r.beside (y * stride + x) (inl (earlier x y lt before)) ∙ a.shades x y lt before
    | inr past ↦
        let here : y ≡ n = omega (arith, past, below) in
        ap (λ k. element new (k * stride + x)) here ∙ r.shades x lt ∙ ap (shade x) (sym here)
  ];
  beside = λ i off. r.beside i (outside i off) ∙ a.beside i (λ x y lt below is. off x y lt (omega (arith, below)) is);
}
  where
    earlier : (x y : ℕ) → x < width → y < n → y * stride + x < n * stride
    earlier x y lt before = let row = row_fits y stride n stride before (omega arith) in omega (arith, row, lt, wide)

    outside : (i : ℕ) → IsBesideRows width (n + 1) stride i → (i < n * stride) ⊎ (n * stride + width ≤ i)
    outside i off = elim (cases_lt i (n * stride)) [
      | inl before ↦ inl before
      | inr past ↦ elim (cases_lt i (n * stride + width)) [
        | inl inside ↦ absurd (off (i - n * stride) n (omega (arith, past, inside)) (omega arith) (omega (arith, past)))
        | inr beyond ↦ inr beyond
      ]
    ]

-- a row of a picture has room
pub row_within : (size : Dimensions) (stride y : ℕ) (out : List ℕ) → HasPicture size stride out → y < size.height → y * stride + size.width ≤ length out
row_within size stride y out p lt =
    let before = mul-le y stride (size.height - 1) stride (omega (arith, lt)) (omega arith) in
    let room = p.room in
    omega (arith, before, room)

-- rows have room where as many fit before the last as there are
pub rows_fit : (size : Dimensions) (stride : ℕ) (out : List ℕ) → 0 < stride → size.width ≤ stride → size.width ≤ length out → size.height - 1 ≤ (length out - size.width) / stride → HasPicture size stride out
rows_fit size stride out some wide long fit =
    let times = mul-le (size.height - 1) stride ((length out - size.width) / stride) stride fit (omega arith) in
    let whole = div-add-mod' (length out - size.width) stride in
    record { wide = wide; room = omega (arith, times, whole, long) }

pub rows_are : (size : Dimensions) (stride : ℕ) (out : List ℕ) → 0 < stride → HasPicture size stride out → size.height - 1 ≤ (length out - size.width) / stride
rows_are size stride out some p =
    let room = p.room in
    le-div (size.height - 1) (length out - size.width) stride some (omega (arith, room))

pub first_row_fits : (size : Dimensions) (stride : ℕ) (out : List ℕ) → HasPicture size stride out → size.width ≤ length out
first_row_fits size stride out p = let room = p.room in omega (arith, room)
