-- Tiles that follow each other, each part after lists of its own, or with pieces merged into it.
use Rattle.std.proofs.Common.{◌≡◌, inl, inr, ℕ, ◌+◌, ◌-◌, ◌<◌, ◌≤◌, ◌&&◌, true, false, nat_le, nat_lt, List, [], ◌++◌, length, replicate, add-mul, arith, refl, ap, ◌∙◌, sym, subst}
use Rattle.std.proofs.Math.Seq.{get_or-append_right}
use Rattle.std.proofs.lemmas.Bool.{cases_lt}
use Rattle.std.proofs.lemmas.Bool.Decides.{nat_tests}
use Rattle.std.proofs.lemmas.List.{get_or_append_left, get_or-append-add, get_or-replicate, length-append, length-replicate}
use Rattle.cull_base.specs.Piece.{Piece}
use Rattle.cull_base.specs.Screen.{Dimensions, tile_columns_of}
use Rattle.cull_base.specs.Tiles.{ArePieces, tile_after}
use Rattle.masked_update.specs.TileOf.{TileOf, empty_tile, no_tile, tile_at}
use Rattle.maskcull_c.specs.Bands.{AreMerged, merged_with}
use Rattle.maskcull_c.specs.Tiles.{AreRows, IsAfter, lists_from, none_between, row_start}
use Rattle.maskcull_c.proofs.Clearing.{fresh}
use Rattle.maskcull_c.proofs.Merged.{merged_once}

-- a tile of the first part, and one of the second
in_first : (a b : List TileOf) (t : ℕ) → t < length a → tile_at (a ++ b) t ≡ tile_at a t
in_first a b t lt = get_or_append_left a b no_tile t lt

in_second : (a b : List TileOf) (t : ℕ) → tile_at (a ++ b) (length a + t) ≡ tile_at b t
in_second a b t = get_or-append-add a b t no_tile

-- tiles are after other lists that are the same where they are
pub same_lists : (size : Dimensions) (first : ℕ) (lists others : ℕ → List Piece) (tiles : List TileOf) → ((t : ℕ) → t < length tiles → lists (first + t) ≡ others (first + t)) → IsAfter size first lists tiles → IsAfter size first others tiles
same_lists size first lists others tiles same was = record {
  states = λ t lt. was.states t lt ∙ ap (λ (ps : List Piece). tile_after size (first + t) ps) (same t lt);
  valid = λ t lt. subst ArePieces (same t lt) (was.valid t lt);
}

pub join : (size : Dimensions) (first : ℕ) (lists : ℕ → List Piece) (a b : List TileOf) → IsAfter size first lists a → IsAfter size (first + length a) lists b → IsAfter size first lists (a ++ b)
join size first lists a b upper lower = record {
  states = λ t lt. elim (cases_lt t (length a)) [
    | inl below ↦ ap (λ (s : TileOf). s.subs) (in_first a b t below) ∙ upper.states t below
    | inr past ↦
        let e : first + length a + (t - length a) ≡ first + t = omega (arith, past) in
        ap (λ (s : TileOf). s.subs) (get_or-append_right a b t no_tile past) ∙ lower.states (t - length a) (rest t lt past) ∙ ap (λ n. tile_after size n (lists n)) e
  ];
  valid = λ t lt. elim (cases_lt t (length a)) [
    | inl below ↦ upper.valid t below
    | inr past ↦
        let e : first + length a + (t - length a) ≡ first + t = omega (arith, past) in
        subst (λ n. ArePieces (lists n)) e (lower.valid (t - length a) (rest t lt past))
  ];
}
  where
    rest : (t : ℕ) → t < length (a ++ b) → length a ≤ t → t - length a < length b
    rest t lt past = let all = length-append a b in omega (arith, lt, past, all)

pub part : (size : Dimensions) (first : ℕ) (lists : ℕ → List Piece) (a b : List TileOf) → IsAfter size first lists (a ++ b) → IsAfter size first lists a × IsAfter size (first + length a) lists b
part size first lists a b was = (
  record {
    states = λ t lt. ap (λ (s : TileOf). s.subs) (sym (in_first a b t lt)) ∙ was.states t (early t lt);
    valid = λ t lt. was.valid t (early t lt);
  },
  record {
    states = λ t lt.
        ap (λ (s : TileOf). s.subs) (sym (in_second a b t)) ∙ was.states (length a + t) (late t lt) ∙ ap (λ n. tile_after size n (lists n)) (sum t);
    valid = λ t lt. subst (λ n. ArePieces (lists n)) (sum t) (was.valid (length a + t) (late t lt));
  },
)
  where
    early : (t : ℕ) → t < length a → t < length (a ++ b)
    early t lt = let all = length-append a b in omega (arith, lt, all)

    late : (t : ℕ) → t < length b → length a + t < length (a ++ b)
    late t lt = let all = length-append a b in omega (arith, lt, all)

    sum : (t : ℕ) → first + (length a + t) ≡ first + length a + t
    sum t = omega arith

before_is : (n t : ℕ) (before from : ℕ → List Piece) → t < n → before t ≡ lists_from n before from t
before_is n t before from lt = let b : nat_lt t n ≡ true = grind (arith, nat_tests) in rw b refl

from_is : (n t : ℕ) (before from : ℕ → List Piece) → n ≤ t → from t ≡ lists_from n before from t
from_is n t before from le = let b : nat_lt t n ≡ false = grind (arith, nat_tests) in rw b refl

pub join_own : (size : Dimensions) (first : ℕ) (before from : ℕ → List Piece) (a b : List TileOf) → IsAfter size first before a → IsAfter size (first + length a) from b
    → IsAfter size first (lists_from (first + length a) before from) (a ++ b)
join_own size first before from a b upper lower =
    let n = first + length a in
    join size first (lists_from n before from) a b
    (same_lists size first before (lists_from n before from) a (λ t lt. before_is n (first + t) before from (omega (arith, lt))) upper)
    (same_lists size n from (lists_from n before from) b (λ t lt. from_is n (n + t) before from (omega arith)) lower)

-- what is drawn onto two parts is what one draw leaves
pub join_merged : (size : Dimensions) (first : ℕ) (pieces : List Piece) (a b upper lower : List TileOf) → AreMerged size first pieces a upper → AreMerged size (first + length a) pieces b lower → AreMerged size first pieces (a ++ b) (upper ++ lower)
join_merged size first pieces a b upper lower m n = record {
  whole = length-append upper lower ∙ ap (λ k. k + length lower) m.whole ∙ ap (λ k. length a + k) n.whole ∙ sym (length-append a b);
  tiles = λ t lt. elim (cases_lt t (length a)) [
    | inl below ↦
        let here : t < length upper = let same = m.whole in omega (arith, below, same) in
        in_first upper lower t here ∙ m.tiles t below ∙ ap (merged_with size (first + t) pieces) (sym (in_first a b t below))
    | inr past ↦
        let rest : t - length a < length b = let all = length-append a b in omega (arith, lt, past, all) in
        let e : first + length a + (t - length a) ≡ first + t = omega (arith, past) in
        let there : length upper ≤ t = let same = m.whole in omega (arith, past, same) in
        get_or-append_right upper lower t no_tile there ∙ ap (λ k. tile_at lower (t - k)) m.whole ∙ n.tiles (t - length a) rest
        ∙ ap (λ k. merged_with size k pieces (tile_at b (t - length a))) e ∙ ap (merged_with size (first + t) pieces) (sym (get_or-append_right a b t no_tile past))
  ];
  valid = m.valid;
}

pub drawn_joined : (size : Dimensions) (first : ℕ) (pieces : List Piece) (a b upper lower whole : List TileOf) → AreMerged size first pieces a upper → AreMerged size (first + length a) pieces b lower → AreMerged size first pieces (a ++ b) whole → whole ≡ upper ++ lower
drawn_joined size first pieces a b upper lower whole m n all = merged_once size first pieces (a ++ b) whole (upper ++ lower) all (join_merged size first pieces a b upper lower m n)

-- the tiles of the row after a band have the numbers that follow
pub next_band : (size : Dimensions) (first_row : ℕ) (tiles : List TileOf) (band : AreRows size first_row tiles) → row_start size first_row + length tiles ≡ row_start size (first_row + band.rows)
next_band size first_row tiles band = ap (λ n. row_start size first_row + n) band.whole ∙ sym (add-mul first_row band.rows (tile_columns_of size))

-- inside, and outside on either side
inside_is : (from to t : ℕ) (lists : ℕ → List Piece) → from ≤ t → t < to → [] ≡ none_between from to lists t
inside_is from to t lists le lt = let b : nat_le from t && nat_lt t to ≡ true = grind (arith, nat_tests) in rw b refl

before_stays : (from to t : ℕ) (lists : ℕ → List Piece) → t < from → lists t ≡ none_between from to lists t
before_stays from to t lists lt = let b : nat_le from t && nat_lt t to ≡ false = grind (arith, nat_tests) in rw b refl

behind_stays : (from to t : ℕ) (lists : ℕ → List Piece) → to ≤ t → lists t ≡ none_between from to lists t
behind_stays from to t lists le = let b : nat_le from t && nat_lt t to ≡ false = grind (arith, nat_tests) in rw b refl

-- some tiles are emptied
pub cleared : (size : Dimensions) (first : ℕ) (lists : ℕ → List Piece) (a b c : List TileOf) → IsAfter size first lists (a ++ (b ++ c))
    → IsAfter size first (none_between (first + length a) (first + length a + length b) lists) (a ++ (replicate (length b) empty_tile ++ c))
cleared size first lists a b c was =
    let from = first + length a in let to = first + length a + length b in
    let now = none_between from to lists in
    let bare = replicate (length b) empty_tile in
    let long : length bare ≡ length b = length-replicate (length b) empty_tile in
    let outer = part size first lists a (b ++ c) was in
    let inner = part size from lists b c outer.1 in
    let upper = same_lists size first lists now a (λ t lt. before_stays from to (first + t) lists (omega (arith, lt))) outer.0 in
    let emptied : IsAfter size from (λ t. []) bare = fresh size from bare (λ t lt. get_or-replicate (length b) t empty_tile no_tile (omega (arith, lt, long))) in
    let middle = same_lists size from (λ t. []) now bare (λ t lt. inside_is from to (from + t) lists (omega arith) (omega (arith, lt, long))) emptied in
    let lower = same_lists size to lists now c (λ t lt. behind_stays from to (to + t) lists (omega arith)) inner.1 in
    let placed : IsAfter size (from + length bare) now c = subst (λ k. IsAfter size (from + k) now c) (sym long) lower in
    join size first now a (bare ++ c) upper (join size from now bare c middle placed)
