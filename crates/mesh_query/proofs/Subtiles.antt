-- The samples of a subtile that a piece touches, by a mask.
use Rattle.std.proofs.Common.{◌≡◌, ◌≢◌, ℕ, ℤ, pos, negsuc, zero, suc, ◌+◌, ◌*◌, ◌/◌, ◌%◌, ◌^◌, ◌<◌, ◌≤◌, ◌≤ℤ◌, ◌⊎◌, List, Bool, true, false, nat_lt, arith, refl, sym, ap, ◌∙◌, inl, inr, IsTrue}
use Rattle.std.proofs.lemmas.Bool.{and_parts, and_from, both_ways, ltb-true, lt-ltb, cases_lt}
use Rattle.std.proofs.lemmas.Int.{ints, clamps}
use Rattle.std.proofs.lemmas.List.FromFn.{get_or-map-range_with_len}
use Rattle.cull_base.specs.declared.nearness.TheConstants.{HELD_TOP}
use Rattle.cull_base.specs.declared.place.Sub.{Sub}
use Rattle.cull_base.specs.Screen.{Dimensions, IsSize, is_on_screen}
use Rattle.cull_base.specs.Piece.{Piece, touches, touched, sample, middle, each_sample}
use Rattle.cull_base.specs.Depth.{cut_to_range, greatest_nearness, high_of}
use Rattle.cull_base.specs.State.{State, has, hides, samples_of, no_samples}
use Rattle.cull_base.specs.Fold.{IsLayered}
use Rattle.cull_base.specs.Pixels.{sub_of_pixel, sample_of_pixel}
use Rattle.cull_base.proofs.Bits.{zero_has, some_has}
use Rattle.cull_base.proofs.HiddenObjects.{below_reference}
use Rattle.cull_base.proofs.Pixels.{sample_below, sample_is_middle, sample_of_sample, column_of_sample, row_of_sample}
use Rattle.masked_update.specs.SubTile.{AllHide}
use Rattle.masked_update.specs.TileOf.{TileOf, sub_at}
use Rattle.cull_base.specs.declared.place.Tile.{Tile}
use Rattle.mesh_query.specs.Asked.{Asked, SomeShows, TouchedIn, InSub, InTile, states_of}
use Rattle.mesh_query.proofs.Asking.{asked_none}

-- the subtile of a pixel that is in one
pub sub_is : (u : Sub) (px py : ℕ) → InSub u px py → sub_of_pixel px py ≡ u
sub_is u px py (c, r) = rw (c, r) refl

has_touched : (t : Piece) (u : Sub) (k : ℕ) → k < 32 → has (touched t u) k ≡ touches t (sample u k)
unfolding touched each_sample
has_touched t u k lt = get_or-map-range_with_len (λ i. touches t (sample u i)) 0 32 k k false (omega arith) (omega arith)

-- the mask has the sample of a pixel that the piece touches
mask_has : (t : Piece) (u : Sub) (samples : List Bool) (px py : ℕ) → samples ≡ touched t u → InSub u px py → touches t (middle px py) ≡ true → has samples (sample_of_pixel px py) ≡ true
mask_has t u samples px py e inside touch =
    let k = sample_of_pixel px py in
    let at : sample u k ≡ middle px py = ap (λ (v : Sub). sample v k) (sym (sub_is u px py inside)) ∙ sample_is_middle px py in
    ap (λ (xs : List Bool). has xs k) e ∙ has_touched t u k (sample_below px py) ∙ ap (touches t) at ∙ touch

-- sample k of a subtile on the screen that the mask has
touched_there : (size : Dimensions) (t : Piece) (u : Sub) (samples : List Bool) (k : ℕ) → IsSize size.width size.height → is_on_screen size u ≡ true → samples ≡ touched t u → k < 32 → has samples k ≡ true
    → TouchedIn size t (InSub u) t (8 * u.column + k % 8) (4 * u.row + k / 8)
touched_there size t u samples k valid on e lt h =
    let within = and_parts (nat_lt (8 * u.column) size.width) (nat_lt (4 * u.row) size.height) on in
    let x = across u.column size.width k valid.whole_columns (ltb-true _ _ within.0) in
    let y = down u.row size.height k lt valid.whole_rows (ltb-true _ _ within.1) in
    (refl, (column_of_sample u.column k, row_of_sample u.row k lt), (x, y, sym (ap (λ (xs : List Bool). has xs k) e ∙ has_touched t u k lt) ∙ h))
  where
    across : (c w k : ℕ) → w % 8 ≡ 0 → 8 * c < w → 8 * c + k % 8 < w
    across c w k e lt = omega arith

    down : (r h k : ℕ) → k < 32 → h % 4 ≡ 0 → 4 * r < h → 4 * r + k / 8 < h
    down r h k lt e on = omega arith

-- a high bound is never above the greatest nearness
pub high-le : (t : Piece) (u : Sub) → high_of t u ≤ greatest_nearness t
unfolding high_of
high-le t u = cut_small (greatest_nearness t) _ (omega (arith, ints, clamps))
  where
    cut_small : (n : ℕ) (z : ℤ) → z ≤ℤ pos n → cut_to_range HELD_TOP z ≤ n
    cut_small n (pos m) le = omega (arith, ints, le)
    cut_small n (negsuc m) le = omega arith

-- the reference alone hides the piece
pub by_reference : (size : Dimensions) (t : Piece) (u : Sub) (s : State) (known : Bool) → known ≡ true → IsLayered s → high_of t u < s.reference → Asked (λ _. s) (TouchedIn size t (InSub u)) known true
by_reference size t u s known is layered lt = record {
  hidden = λ v px py (e, inside, touch).
      let high : high_of v (sub_of_pixel px py) < s.reference = rw (e, sub_is u px py inside) lt in
      below_reference s (sample_of_pixel px py) (high_of v (sub_of_pixel px py)) layered high;
  some = λ e. inl is;
  none = λ e. absurd cc;
}

-- each reference of a tile alone hides the piece
pub by_references : (size : Dimensions) (t : Piece) (place : Tile) (tile : TileOf) (least : ℕ) (known : Bool) → known ≡ true → ((j : ℕ) → j < 8 → least ≤ (sub_at tile j).reference)
    → ((j : ℕ) → j < 8 → IsLayered (sub_at tile j)) → greatest_nearness t < least → Asked (states_of tile) (TouchedIn size t (InTile place)) known true
by_references size t place tile least known is references layered lt = record {
  hidden = λ v px py (e, inside, touch).
      let j = 4 * (py / 4 % 2) + px / 8 % 4 in let below = of_eight px py in
      let high : high_of v (sub_of_pixel px py) ≤ greatest_nearness t = rw e (high-le t (sub_of_pixel px py)) in
      below_reference (sub_at tile j) (sample_of_pixel px py) (high_of v (sub_of_pixel px py)) (layered j below) (omega (arith, high, lt, references j below));
  some = λ e. inl is;
  none = λ e. absurd cc;
}
  where
    of_eight : (px py : ℕ) → 4 * (py / 4 % 2) + px / 8 % 4 < 8
    of_eight px py = omega arith

-- the mask is empty
pub by_empty_mask : (size : Dimensions) (t : Piece) (u : Sub) (s : State) (mask : ℕ) (known : Bool) → samples_of mask ≡ touched t u → mask ≡ 0 → Asked (λ _. s) (TouchedIn size t (InSub u)) known known
by_empty_mask size t u s mask known e z = asked_none (λ _. s) (TouchedIn size t (InSub u)) known (λ v px py (is, inside, (x, y, touch)).
    both_ways (has (samples_of mask) (sample_of_pixel px py)) (zero_has mask (sample_of_pixel px py) z) (mask_has t u (samples_of mask) px py e inside (rw is at touch)))

-- each sample of the mask hides the bound
pub by_mask : (size : Dimensions) (t : Piece) (u : Sub) (s : State) (mask q : ℕ) (known : Bool) → IsSize size.width size.height → is_on_screen size u ≡ true → samples_of mask ≡ touched t u → mask < 2 ^ 32 → mask ≢ 0
    → q ≡ high_of t u → AllHide s (samples_of mask) q → Asked (λ _. s) (TouchedIn size t (InSub u)) known true
by_mask size t u s mask q known valid on e small some is all = record {
  hidden = λ v px py (same, inside, (x, y, touch)).
      let h = all (sample_of_pixel px py) (sample_below px py) (mask_has t u (samples_of mask) px py e inside (rw same at touch)) in
      rw (same, sub_is u px py inside, ← is) h;
  some = λ _. let (k, lt, h) = some_has mask small some in inr (t, 8 * u.column + k % 8, 4 * u.row + k / 8, touched_there size t u (samples_of mask) k valid on e lt h);
  none = λ n. absurd cc;
}

-- either each sample hides the bound, or one doesn't
search_for : (n : ℕ) (s : State) (samples : List Bool) (q : ℕ) → ((k : ℕ) → k < n → has samples k ≡ true → IsTrue (hides s k q)) ⊎ ((k : ℕ) × (k < n) × (has samples k ≡ true) × (hides s k q ≡ false))
search_for zero s samples q = inl (λ k lt h. absurd (omega (arith, lt)))
search_for (suc n) s samples q = elim (search_for n s samples q) [
  | inr found ↦ let (k, lt, h, shows) = found in inr (k, omega (arith, lt), h, shows)
  | inl all ↦ by (has samples n) (hides s n q) refl refl all
]
  where
    last : (k : ℕ) → k < suc n → (k < n) ⊎ (k ≡ n)
    last k lt = elim (cases_lt k n) [ inl below ↦ inl below | inr above ↦ inr (omega arith) ]

    by : (h b : Bool) → has samples n ≡ h → hides s n q ≡ b → ((k : ℕ) → k < n → has samples k ≡ true → IsTrue (hides s k q))
        → ((k : ℕ) → k < suc n → has samples k ≡ true → IsTrue (hides s k q)) ⊎ ((k : ℕ) × (k < suc n) × (has samples k ≡ true) × (hides s k q ≡ false))
    by true false e f all = inr (n, omega arith, e, f)
    by true true e f all = inl (λ k lt h. elim (last k lt) [ inl below ↦ all k below h | inr is ↦ rw is f ])
    by false b e f all = inl (λ k lt h. elim (last k lt) [ inl below ↦ all k below h | inr is ↦ absurd (both_ways (has samples n) e (rw is at h)) ])

pub one_shows : (size : Dimensions) (t : Piece) (u : Sub) (s : State) (mask q : ℕ) → IsSize size.width size.height → is_on_screen size u ≡ true → samples_of mask ≡ touched t u
    → q ≡ high_of t u → (AllHide s (samples_of mask) q → ⊥) → SomeShows (λ _. s) (TouchedIn size t (InSub u))
one_shows size t u s mask q valid on e is never = elim (search_for 32 s (samples_of mask) q) [
  | inl all ↦ absurd (never all)
  | inr found ↦ let (k, lt, h, shows) = found in
      let there = touched_there size t u (samples_of mask) k valid on e lt h in
      let inside : InSub u (8 * u.column + k % 8) (4 * u.row + k / 8) = (column_of_sample u.column k, row_of_sample u.row k lt) in
      (t, 8 * u.column + k % 8, 4 * u.row + k / 8, there, rw (sub_is u (8 * u.column + k % 8) (4 * u.row + k / 8) inside, sample_of_sample u.column u.row k lt, ← is) shows)
]

-- a subtile of which an edge rejects all samples, or that lies beside the screen
pub none_touched : (size : Dimensions) (t : Piece) (u : Sub) (v : Piece) (px py : ℕ) → touched t u ≡ no_samples → TouchedIn size t (InSub u) v px py → ⊥
none_touched size t u v px py e (is, inside, (x, y, touch)) =
    both_ways (has no_samples (sample_of_pixel px py)) (zero_has 0 (sample_of_pixel px py) refl) (mask_has t u no_samples px py (sym e) inside (rw is at touch))

pub none_beside : (size : Dimensions) (t : Piece) (u : Sub) (v : Piece) (px py : ℕ) → is_on_screen size u ≡ false → TouchedIn size t (InSub u) v px py → ⊥
none_beside size t u v px py off (is, (c, r), (x, y, touch)) =
    both_ways (is_on_screen size u) off (and_from (nat_lt (8 * u.column) size.width) (nat_lt (4 * u.row) size.height) (lt-ltb (8 * u.column) size.width (omega (arith, c, x))) (lt-ltb (4 * u.row) size.height (omega (arith, r, y))))
