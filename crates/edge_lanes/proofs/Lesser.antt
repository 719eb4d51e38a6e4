-- The lesser and the greater of two lanes, and the samples between them.
use Rattle.std.proofs.Common.{◌≡◌, ◌∙◌, ap, ap₂, sym, ℕ, ℤ, pos, ◌<◌, ◌≤◌, ◌≤ℤ◌, ◌<ℤ◌, List, length, map, slice_index_or, Bool, true, false, cond, ◌&&◌, ◌||◌, IsTrue, nat_eq, nat_lt, nat_le, int_lt, int_le, min, max, w16, arith, refl, ◌^◌}
use Rattle.std.specs.Cmp.{both_ways}
use Rattle.std.specs.Int.{int_min, int_max}
use Rattle.std.specs.Simd.Lanes.{sel_l, top, zip2}
use Rattle.std.proofs.lemmas.Int.{clamps, ints}
use Rattle.std.proofs.lemmas.Bool.Decides.{nat_tests}
use Rattle.std.proofs.lemmas.Simd.{get_or-sel_l, get_or-zip2, length-sel_l, length-zip2, tops_compared}
use Rattle.edge_lanes.specs.Between.{IsLimit, held_column, is_between}

-- which lanes of one vector are below the other's, as lanes of 16 bits hold it
abbrev pub below : List ℕ → List ℕ → List Bool
below xs ys = map (top 15) (zip2 (λ a b. cond (nat_lt a b) 65535 0) xs ys)

selected : (xs ys vs ws : List ℕ) (r : ℕ) → length xs ≡ 8 → length ys ≡ 8 → length vs ≡ 8 → length ws ≡ 8 → r < 8 →
    slice_index_or (sel_l (below xs ys) vs ws) r 0 ≡ cond (nat_lt (slice_index_or xs r 0) (slice_index_or ys r 0)) (slice_index_or vs r 0) (slice_index_or ws r 0)
selected xs ys vs ws r p q s t l =
    let e = tops_compared w16 nat_lt xs ys in
    let n : length (zip2 nat_lt xs ys) ≡ 8 = length-zip2 nat_lt xs ys (p ∙ sym q) ∙ p in
    rw e (get_or-sel_l (zip2 nat_lt xs ys) vs ws r 0 (omega arith) (omega arith) (omega arith)
    ∙ ap (λ (b : Bool). cond b (slice_index_or vs r 0) (slice_index_or ws r 0)) (get_or-zip2 nat_lt xs ys r 0 0 false (omega arith) (omega arith)))

pub length-selected : (xs ys vs ws : List ℕ) → length xs ≡ 8 → length ys ≡ 8 → length vs ≡ 8 → length ws ≡ 8 → length (sel_l (below xs ys) vs ws) ≡ 8
length-selected xs ys vs ws p q s t =
    let e = tops_compared w16 nat_lt xs ys in
    let n : length (zip2 nat_lt xs ys) ≡ 8 = length-zip2 nat_lt xs ys (p ∙ sym q) ∙ p in
    rw e (length-sel_l (zip2 nat_lt xs ys) vs ws (n ∙ sym s) (n ∙ sym t) ∙ n)

lesser : (a b : ℕ) → cond (nat_lt a b) a b ≡ min a b
lesser a b = grind (arith, nat_tests)

greater : (a b : ℕ) → cond (nat_lt a b) b a ≡ max a b
greater a b = grind (arith, nat_tests)

-- a limit is 0 or 2048, and so it is held as it is
from : (crossed : ℤ) (m limit f x : ℕ) → pos m ≡ held_column crossed → limit ≤ 2048 → f ≡ min m limit → nat_le f x ≡ int_le (int_min crossed (pos limit)) (pos x)
from crossed m limit f x e small is = both_ways _ _ (λ h. grind (arith, ints, nat_tests, forth crossed m limit f x e small is)) (λ h. grind (arith, ints, nat_tests, back crossed m limit f x e small is))
  where
    forth : (crossed : ℤ) (m limit f x : ℕ) → pos m ≡ held_column crossed → limit ≤ 2048 → f ≡ min m limit → f ≤ x → int_min crossed (pos limit) ≤ℤ pos x
    forth crossed m limit f x e small is h = omega (arith, ints, clamps)

    back : (crossed : ℤ) (m limit f x : ℕ) → pos m ≡ held_column crossed → limit ≤ 2048 → f ≡ min m limit → int_min crossed (pos limit) ≤ℤ pos x → f ≤ x
    back crossed m limit f x e small is h = omega (arith, ints, clamps)

-- a column past all that are held is past those of the screen
before : (crossed : ℤ) (m limit f x : ℕ) → x < 2 ^ 11 → pos m ≡ held_column crossed → f ≡ max m limit → nat_lt x f ≡ int_lt (pos x) (int_max crossed (pos limit))
before crossed m limit f x on e is = both_ways _ _ (λ h. grind (arith, ints, nat_tests, forth crossed m limit f x on e is)) (λ h. grind (arith, ints, nat_tests, back crossed m limit f x on e is))
  where
    forth : (crossed : ℤ) (m limit f x : ℕ) → x < 2 ^ 11 → pos m ≡ held_column crossed → f ≡ max m limit → x < f → pos x <ℤ int_max crossed (pos limit)
    forth crossed m limit f x on e is h = omega (arith, ints, clamps)

    back : (crossed : ℤ) (m limit f x : ℕ) → x < 2 ^ 11 → pos m ≡ held_column crossed → f ≡ max m limit → pos x <ℤ int_max crossed (pos limit) → x < f
    back crossed m limit f x on e is h = omega (arith, ints, clamps)

-- A span from the lesser of a column and a limit to the greater. A column before the first counts as the first.
pub between_lanes : (crossed : ℤ) (xs ys : List ℕ) (limit r x : ℕ) → length xs ≡ 8 → length ys ≡ 8 → r < 8 → x < 2 ^ 11 → limit ≤ 2048 → pos (slice_index_or xs r 0) ≡ held_column crossed → slice_index_or ys r 0 ≡ limit →
    (nat_le (slice_index_or (sel_l (below xs ys) xs ys) r 0) x && nat_lt x (slice_index_or (sel_l (below xs ys) ys xs) r 0)) ≡ is_between crossed limit x
between_lanes crossed xs ys limit r x p q l on small e is =
    let m : ℕ = slice_index_or xs r 0 in
    let f = selected xs ys xs ys r p q p q l ∙ lesser m (slice_index_or ys r 0) ∙ ap (min m) is in
    let g = selected xs ys ys xs r p q q p l ∙ greater m (slice_index_or ys r 0) ∙ ap (max m) is in
    ap₂ (λ (a : Bool) (b : Bool). a && b) (from crossed m limit _ x e small f) (before crossed m limit _ x on e g)

-- a limit is small
pub limit-le : (limit : ℕ) → IsLimit limit → limit ≤ 2048
limit-le limit is = by (nat_eq limit 0) refl (nat_eq limit 2048) refl is
  where
    by : (a : Bool) → nat_eq limit 0 ≡ a → (b : Bool) → nat_eq limit 2048 ≡ b → IsTrue (a || b) → limit ≤ 2048
    by true p b q h = let e : limit ≡ 0 = grind (arith, nat_tests) in omega (arith, e)
    by false p true q h = let e : limit ≡ 2048 = grind (arith, nat_tests) in omega (arith, e)
    by false p false q h = absurd cc
