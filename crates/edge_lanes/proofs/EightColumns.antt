-- The least of eight columns in lanes of 16 bits.
use Rattle.std.proofs.Common.{◌≡◌, ◌≤◌, ◌<◌, ℕ, cond, nat_lt, min, List, [], ◌∷◌, ◌++◌, length, map, get_or, refl, ap, ap₂, ◌∙◌, arith, w16}
use Rattle.std.specs.Simd.Lanes.{pick_l, zip2, sel_l, top}
use Rattle.std.proofs.lemmas.Bool.Decides.{nat_tests}
use Rattle.std.proofs.lemmas.Simd.{tops_compared}
use Rattle.cull_base.proofs.EightLanes.{each_of_eight}

-- the lanes of us where the first of two lanes is below the second, and else those of vs
abbrev where_below : List ℕ → List ℕ → List ℕ → List ℕ → List ℕ
where_below xs ys us vs = sel_l (map (top 15) (zip2 (λ a b. cond (nat_lt a b) 65535 0) xs ys)) us vs

-- the lesser in each lane
least_lanes : (xs ys : List ℕ) → where_below xs ys xs ys ≡ zip2 min xs ys
least_lanes xs ys = ap (λ ms. sel_l ms xs ys) (tops_compared w16 nat_lt xs ys) ∙ by_lane xs ys
  where
    lesser : (x y : ℕ) → cond (nat_lt x y) x y ≡ min x y
    lesser x y = grind (arith, nat_tests)

    by_lane : (xs ys : List ℕ) → sel_l (zip2 nat_lt xs ys) xs ys ≡ zip2 min xs ys
    by_lane [] ys = refl
    by_lane (x ∷ xs) [] = refl
    by_lane (x ∷ xs) (y ∷ ys) = ap₂ (λ n (r : List ℕ). n ∷ r) (lesser x y) (by_lane xs ys)

-- the lanes from a place on, and then those before it
abbrev turned : List ℕ → List ℕ → List ℕ
turned places xs = pick_l 0 (xs ++ xs) places

abbrev by_four : List ℕ
by_four = 4 ∷ 5 ∷ 6 ∷ 7 ∷ 0 ∷ 1 ∷ 2 ∷ 3 ∷ []

abbrev by_two : List ℕ
by_two = 2 ∷ 3 ∷ 4 ∷ 5 ∷ 6 ∷ 7 ∷ 0 ∷ 1 ∷ []

abbrev by_one : List ℕ
by_one = 1 ∷ 2 ∷ 3 ∷ 4 ∷ 5 ∷ 6 ∷ 7 ∷ 0 ∷ []

-- the lesser of each lane and of one so many places on, as lanes choose it, and as a number
abbrev chosen_on : List ℕ → List ℕ → List ℕ
chosen_on places xs = where_below xs (turned places xs) xs (turned places xs)

abbrev lesser_on : List ℕ → List ℕ → List ℕ
lesser_on places xs = zip2 min xs (turned places xs)

below_left : (r a b : ℕ) → r ≤ min a b → r ≤ a
below_left r a b le = omega (arith, le)

below_right : (r a b : ℕ) → r ≤ min a b → r ≤ b
below_right r a b le = omega (arith, le)

-- after three steps the first lane has the least of eight
pub least_of_eight : (xs : List ℕ) → length xs ≡ 8 → (r : ℕ) → r ≡ get_or (chosen_on by_one (chosen_on by_two (chosen_on by_four xs))) 0 0 → (j : ℕ) → j < 8 → r ≤ get_or xs j 0
least_of_eight xs long r is = by xs long (is ∙ ap (λ (v : List ℕ). get_or v 0 0) steps)
  where
    one : (places xs : List ℕ) → chosen_on places xs ≡ lesser_on places xs
    one places xs = least_lanes xs (turned places xs)

    steps : chosen_on by_one (chosen_on by_two (chosen_on by_four xs)) ≡ lesser_on by_one (lesser_on by_two (lesser_on by_four xs))
    steps = one by_one (chosen_on by_two (chosen_on by_four xs)) ∙ ap (lesser_on by_one) (one by_two (chosen_on by_four xs) ∙ ap (lesser_on by_two) (one by_four xs))

    each : (a b c d e f g h : ℕ) → r ≡ min (min (min a e) (min c g)) (min (min b f) (min d h)) → (j : ℕ) → j < 8 → r ≤ get_or (a ∷ b ∷ c ∷ d ∷ e ∷ f ∷ g ∷ h ∷ []) j 0
    each a b c d e f g h is =
        let even = below_left r (min (min a e) (min c g)) (min (min b f) (min d h)) (omega (arith, is)) in
        let odd = below_right r (min (min a e) (min c g)) (min (min b f) (min d h)) (omega (arith, is)) in
        let ae = below_left r (min a e) (min c g) even in
        let cg = below_right r (min a e) (min c g) even in
        let bf = below_left r (min b f) (min d h) odd in
        let dh = below_right r (min b f) (min d h) odd in
        each_of_eight (λ j. r ≤ get_or (a ∷ b ∷ c ∷ d ∷ e ∷ f ∷ g ∷ h ∷ []) j 0)
        (below_left r a e ae) (below_left r b f bf) (below_left r c g cg) (below_left r d h dh) (below_right r a e ae) (below_right r b f bf) (below_right r c g cg) (below_right r d h dh)

    by : (xs : List ℕ) → length xs ≡ 8 → r ≡ get_or (lesser_on by_one (lesser_on by_two (lesser_on by_four xs))) 0 0 → (j : ℕ) → j < 8 → r ≤ get_or xs j 0
    by (a ∷ b ∷ c ∷ d ∷ e ∷ f ∷ g ∷ h ∷ []) long is = each a b c d e f g h is
    by [] long is = absurd (omega (arith, long))
    by (a ∷ []) long is = absurd (omega (arith, long))
    by (a ∷ b ∷ []) long is = absurd (omega (arith, long))
    by (a ∷ b ∷ c ∷ []) long is = absurd (omega (arith, long))
    by (a ∷ b ∷ c ∷ d ∷ []) long is = absurd (omega (arith, long))
    by (a ∷ b ∷ c ∷ d ∷ e ∷ []) long is = absurd (omega (arith, long))
    by (a ∷ b ∷ c ∷ d ∷ e ∷ f ∷ []) long is = absurd (omega (arith, long))
    by (a ∷ b ∷ c ∷ d ∷ e ∷ f ∷ g ∷ []) long is = absurd (omega (arith, long))
    by (a ∷ b ∷ c ∷ d ∷ e ∷ f ∷ g ∷ h ∷ i ∷ more) long is = absurd (omega (arith, long))
