-- Eight places one by one, and the lesser and the greater of numbers in lanes.
use Rattle.std.proofs.Common.{◌≡◌, ◌≤◌, ℕ, zero, suc, ◌-◌, ◌^◌, ◌<◌, Bool, true, false, ◌&&◌, cond, nat_le, nat_lt, min, max, List, [], ◌∷◌, map, refl, ap, ap₂, ◌∙◌, arith, w32}
use Rattle.std.specs.Int.{bit_at}
use Rattle.std.specs.Simd.Lanes.{zip2, sel_l, top}
use Rattle.std.proofs.lemmas.Bool.Decides.{nat_tests}
use Rattle.std.proofs.lemmas.Simd.{tops_compared}
use Rattle.std.proofs.lemmas.Nat.Bits.{bit_at_mask_inside, bit_at_mask_below, bit_at_mask_above}
use Rattle.cull_base.specs.Span.{is_between}

-- what holds at each of eight places
pub each_of_eight : (P : ℕ → Type 0) → P 0 → P 1 → P 2 → P 3 → P 4 → P 5 → P 6 → P 7 → (j : ℕ) → j < 8 → P j
each_of_eight P a b c d e f g h zero lt = a
each_of_eight P a b c d e f g h (suc zero) lt = b
each_of_eight P a b c d e f g h (suc (suc zero)) lt = c
each_of_eight P a b c d e f g h (suc (suc (suc zero))) lt = d
each_of_eight P a b c d e f g h (suc (suc (suc (suc zero)))) lt = e
each_of_eight P a b c d e f g h (suc (suc (suc (suc (suc zero))))) lt = f
each_of_eight P a b c d e f g h (suc (suc (suc (suc (suc (suc zero)))))) lt = g
each_of_eight P a b c d e f g h (suc (suc (suc (suc (suc (suc (suc zero))))))) lt = h
each_of_eight P a b c d e f g h (suc (suc (suc (suc (suc (suc (suc (suc n)))))))) lt = absurd (omega arith)

-- the lanes of us where the first of two lanes is below the second, and else those of vs
abbrev where_below : List ℕ → List ℕ → List ℕ → List ℕ → List ℕ
where_below xs ys us vs = sel_l (map (top 31) (zip2 (λ a b. cond (nat_lt a b) 4294967295 0) xs ys)) us vs

-- the lesser and the greater in each lane
pub least_lanes : (xs ys : List ℕ) → where_below xs ys xs ys ≡ zip2 min xs ys
least_lanes xs ys = ap (λ ms. sel_l ms xs ys) (tops_compared w32 nat_lt xs ys) ∙ by_lane xs ys
  where
    lesser : (x y : ℕ) → cond (nat_lt x y) x y ≡ min x y
    lesser x y = grind (arith, nat_tests)

    by_lane : (xs ys : List ℕ) → sel_l (zip2 nat_lt xs ys) xs ys ≡ zip2 min xs ys
    by_lane [] ys = refl
    by_lane (x ∷ xs) [] = refl
    by_lane (x ∷ xs) (y ∷ ys) = ap₂ (λ n (r : List ℕ). n ∷ r) (lesser x y) (by_lane xs ys)

pub greatest_lanes : (xs ys : List ℕ) → where_below xs ys ys xs ≡ zip2 max xs ys
greatest_lanes xs ys = ap (λ ms. sel_l ms ys xs) (tops_compared w32 nat_lt xs ys) ∙ by_lane xs ys
  where
    greater : (x y : ℕ) → cond (nat_lt x y) y x ≡ max x y
    greater x y = grind (arith, nat_tests)

    by_lane : (xs ys : List ℕ) → sel_l (zip2 nat_lt xs ys) ys xs ≡ zip2 max xs ys
    by_lane [] ys = refl
    by_lane (x ∷ xs) [] = refl
    by_lane (x ∷ xs) (y ∷ ys) = ap₂ (λ n (r : List ℕ). n ∷ r) (greater x y) (by_lane xs ys)

-- the ones from a first bit to before an end
pub ones_at : (first end i : ℕ) → bit_at (2 ^ end - 2 ^ first) i ≡ cond (is_between first end i) 1 0
ones_at first end i = by (nat_le first i) refl (nat_lt i end) refl
  where
    by : (a : Bool) → nat_le first i ≡ a → (b : Bool) → nat_lt i end ≡ b → bit_at (2 ^ end - 2 ^ first) i ≡ cond (nat_le first i && nat_lt i end) 1 0
    by true p true q = let le : first ≤ i = grind (arith, nat_tests) in let lt : i < end = grind (arith, nat_tests) in rw (p, q) (bit_at_mask_inside first end i le lt)
    by true p false q = let le : end ≤ i = grind (arith, nat_tests) in rw (p, q) (bit_at_mask_above first end i le)
    by false p b q = let lt : i < first = grind (arith, nat_tests) in rw p (bit_at_mask_below first end i lt)
