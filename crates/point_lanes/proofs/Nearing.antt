-- The steps of nearness, lane by lane.
use Rattle.std.proofs.Common.{◌≡◌, ℕ, suc, ◌+◌, ◌-◌, ◌*◌, ◌/◌, ◌%◌, ◌^◌, ◌<◌, ◌≤◌, List, Bool, true, false, cond, nat_le, length, get_or, replicate, refl, sym, ap, ap₂, ◌∙◌, subst, arith, w16, w32, Fits}
use Rattle.std.specs.Int.{leading_zeros}
use Rattle.std.specs.Simd.Lanes.{zip2, Each2}
use Rattle.std.proofs.Math.Nat.{mul-le-mul_left, le_of_mul-le-mul_left, div-mul-le_self, div-add-mod, mod-lt, mod-eq_of_lt, pow-le-pow_right}
use Rattle.std.proofs.lemmas.Nat.{div_below, mul-le, leading_top, pow-add, pow_pos}
use Rattle.std.proofs.lemmas.Grind.{pow_more}
use Rattle.std.proofs.lemmas.Simd.{get_or-replicate}
use Rattle.lane_numbers.proofs.EightLanes.{each_of_eight}
use Rattle.point_lanes.specs.Divisors.{IsDivisor, AreDivisors}
use Rattle.point_lanes.specs.Nearness.{IsScale}
use Rattle.point_lanes.proofs.Lanes.{at_both, at_same, long_both, long_same, pairs, pairs_same}
use Rattle.point_lanes.proofs.Quotients.{IsHeld, IsNearnessGuess, nearness_guess, rounded_is}
use Rattle.point_lanes.proofs.Placing.{mul, sub}

-- ---- what is divided

pub narrow_is : (near number held : ℕ) → 1 ≤ near → near ≤ 1024 → number ≡ 65535 * near → held ≡ 64 * number → IsScale 65535 near number held 5 0
narrow_is near number held least most en eh = record {
  near_least = least;
  near_most = most;
  top_most = omega arith;
  number_is = en;
  right_most = omega arith;
  left_most = omega arith;
  held_low = omega (arith, eh);
  held_high = omega (arith, eh);
  steep = omega (arith, least);
}

-- the binary digits of a near distance
pub record HasDigits (near digits : ℕ) : Type 0 where
  pub above : near < 2 ^ digits
  pub below : 2 ^ digits ≤ 2 * near
  pub few : digits ≤ 11

pub digits_are : (near digits : ℕ) → 1 ≤ near → near ≤ 1024 → digits ≡ 16 - leading_zeros w16 near → HasDigits near digits
digits_are near digits least most is = by (leading_top 16 near least (omega (arith, most))).0 (leading_top 16 near least (omega (arith, most))).1 (leading_top 16 near least (omega (arith, most))).2 (leading_top 16 near least (omega (arith, most))).3
  where
    not_less : (a b : ℕ) → (b < a → 1 ≤ 0) → a ≤ b
    not_less a b h = grind (arith, h)

    by : (j : ℕ) → leading_zeros w16 near + suc j ≡ 16 → 2 ^ j ≤ near → near < 2 ^ suc j → HasDigits near digits
    by j e low high =
        let same : digits ≡ j + 1 = omega (arith, is, e) in
        let next : 2 ^ (j + 1) ≡ 2 ^ j * 2 = pow_more 2 j in
        let wide : near < 2 ^ (j + 1) = last j high in
        let small : j ≤ 10 = not_less j 10 (λ (l : 10 < j).
        let more : 11 ≤ j = omega (arith, l) in
        let p : 2 ^ 11 ≤ 2 ^ j = pow-le-pow_right (omega arith) more in
        omega (arith, p, low, most)) in
        record {
          above = subst (λ (d : ℕ). near < 2 ^ d) (sym same) wide;
          below = subst (λ (d : ℕ). 2 ^ d ≤ 2 * near) (sym same) (omega (arith, next, low));
          few = omega (arith, same, small);
        }
      where
        last : (j : ℕ) → near < 2 ^ suc j → near < 2 ^ (j + 1)
        last j h = let e : suc j ≡ j + 1 = omega arith in subst (λ (d : ℕ). near < 2 ^ d) e h

-- one of the powers grows as the other doesn't fall
balanced : (digits right left : ℕ) → right ≡ 7 - digits → left ≡ digits - 7 → 2 ^ (right + 1) * 2 ^ digits ≡ 256 * 2 ^ left
balanced digits right left er el =
    let e : (right + 1) + digits ≡ 8 + left = omega (arith, er, el) in
    sym (pow-add 2 (right + 1) digits) ∙ ap (λ (k : ℕ). 2 ^ k) e ∙ pow-add 2 8 left

pub record IsWide (near number held right left : ℕ) : Type 0 where
  pub scale : IsScale 16777215 near number held right left
  pub fits : held < 4294967296

pub wide_is : (near digits right left number held : ℕ) → 1 ≤ near → near ≤ 1024 → HasDigits near digits → right ≡ 7 - digits → left ≡ digits - 7 → number ≡ 16777215 * near → held ≡ number * 2 ^ (right + 1) / 2 ^ left →
    IsWide near number held right left
wide_is near digits right left number held least most h er el en eh =
    let some : 0 < 2 ^ left = pow_pos left in
    let balance = balanced digits right left er el in
    let low : held * 2 ^ left ≤ number * 2 ^ (right + 1) = subst (λ (k : ℕ). k * 2 ^ left ≤ number * 2 ^ (right + 1)) (sym eh) (div-mul-le_self (number * 2 ^ (right + 1)) (2 ^ left)) in
    let whole = div-add-mod (number * 2 ^ (right + 1)) (2 ^ left) in
    let rest : number * 2 ^ (right + 1) % 2 ^ left < 2 ^ left = mod-lt (number * 2 ^ (right + 1)) some in
    let high : number * 2 ^ (right + 1) ≤ held * 2 ^ left + 2 ^ left = subst (λ (k : ℕ). number * 2 ^ (right + 1) ≤ k * 2 ^ left + 2 ^ left) (sym eh) (high_of (number * 2 ^ (right + 1)) (2 ^ left) (number * 2 ^ (right + 1) / 2 ^ left) (number * 2 ^ (right + 1) % 2 ^ left) whole rest) in
    let next : 2 ^ (right + 1) ≡ 2 ^ right * 2 = pow_more 2 right in
    record {
      scale = record {
        near_least = least;
        near_most = most;
        top_most = omega arith;
        number_is = en;
        right_most = omega (arith, er);
        left_most = left_few h.few;
        held_low = low;
        held_high = high;
        steep = steep_of (2 ^ right) (2 ^ (right + 1)) (2 ^ digits) (2 ^ left) next balance h.below;
      };
      fits = subst (λ (k : ℕ). k < 4294967296) (sym eh) (div_below (number * 2 ^ (right + 1)) (2 ^ left) 4294967296 some (little (2 ^ (right + 1)) (2 ^ digits) (2 ^ left) (pow_pos (right + 1)) balance h.above));
    }
  where
    left_few : digits ≤ 11 → left ≤ 4
    left_few l = omega (arith, el, l)

    high_of : (n q k r : ℕ) → q * k + r ≡ n → r < q → n ≤ k * q + q
    high_of n q k r e l = omega (arith, e, l)

    steep_of : (a p d q : ℕ) → p ≡ a * 2 → p * d ≡ 256 * q → d ≤ 2 * near → 32 * q ≤ near * a
    steep_of a p d q ep e l =
        let m : p * d ≤ p * (2 * near) = mul-le-mul_left p l in
        let n : p * (2 * near) ≡ a * 2 * (2 * near) = ap (λ (x : ℕ). x * (2 * near)) ep in
        omega (arith, e, m, n)

    little : (p d q : ℕ) → 0 < p → p * d ≡ 256 * q → near < d → number * p < 4294967296 * q
    little p d q some e l =
        let m : p * (number + 1) ≤ p * (16777216 * d) = mul-le-mul_left p (omega (arith, en, l)) in
        omega (arith, m, e, some)

-- as it is computed
pub wide_made : (near q right left : ℕ) → 1 ≤ near → near ≤ 1024 → q ≡ near → right ≡ 7 - (16 - leading_zeros w16 near) → left ≡ (16 - leading_zeros w16 near) - 7 →
    IsWide near (16777215 * q) (16777215 * q * 2 ^ (right + 1) % 18446744073709551616 / 2 ^ left) right left
wide_made near q right left least most eq er el =
    let h = digits_are near (16 - leading_zeros w16 near) least most refl in
    let wraps_not : 16777215 * q * 2 ^ (right + 1) % 18446744073709551616 ≡ 16777215 * q * 2 ^ (right + 1) = mod-eq_of_lt (below (16 - leading_zeros w16 near) er) in
    wide_is near (16 - leading_zeros w16 near) right left (16777215 * q) (16777215 * q * 2 ^ (right + 1) % 18446744073709551616 / 2 ^ left) least most h er el (ap (λ (n : ℕ). 16777215 * n) eq) (ap (λ (n : ℕ). n / 2 ^ left) wraps_not)
  where
    below : (digits : ℕ) → right ≡ 7 - digits → 16777215 * q * 2 ^ (right + 1) < 18446744073709551616
    below digits er =
        let few : right + 1 ≤ 8 = omega (arith, er) in
        let p : 2 ^ (right + 1) ≤ 2 ^ 8 = pow-le-pow_right (omega arith) few in
        let n : 16777215 * q ≤ 16777215 * 1024 = omega (arith, eq, most) in
        let m : 16777215 * q * 2 ^ (right + 1) ≤ 16777215 * 1024 * 256 = mul-le (16777215 * q) (2 ^ (right + 1)) (16777215 * 1024) 256 n p in
        omega (arith, m)

-- ---- a lane's numbers

exact : (k right : ℕ) → right < 8 → 2 ^ right * (128 * k / 2 ^ right) ≡ 128 * k
exact k = each_of_eight (λ r. 2 ^ r * (128 * k / 2 ^ r) ≡ 128 * k) (omega arith) (omega arith) (omega arith) (omega arith) (omega arith) (omega arith) (omega arith) (omega arith)

pub record IsLane (number held right left w power r f : ℕ) : Type 0 where
  pub is_held : IsHeld number held (2 ^ (right + 1)) (2 ^ left) f power
  pub factor : f ≤ 134217728
  pub few : number ≤ 16777216 * w
  pub reciprocal : r ≤ 4294967296

pub lane_is : (top near number held right left w power r : ℕ) → IsScale top near number held right left → IsDivisor w power r → near ≤ w → IsLane number held right left w power r (power / 2 ^ right * 2 ^ left)
lane_is top near number held right left w power r s d le =
    let whole : 2 ^ right * (power / 2 ^ right) ≡ power = whole_of (power / 128) d.whole in
    let next : 2 ^ (right + 1) ≡ 2 ^ right * 2 = pow_more 2 right in
    record {
      is_held = record {
        some = pow_pos left;
        low = s.held_low;
        high = s.held_high;
        factor = factor_of (2 ^ right) (2 ^ (right + 1)) (power / 2 ^ right) (2 ^ left) whole next;
      };
      factor = small (2 ^ right) (power / 2 ^ right) (2 ^ left) (pow_pos right) whole s.steep d.product_most;
      few = few_of s.number_is s.top_most;
      reciprocal = under d.product_least d.low;
    }
  where
    right_small : right ≤ 7 → right < 8
    right_small l = omega (arith, l)

    whole_of : (k : ℕ) → 128 * k ≡ power → 2 ^ right * (power / 2 ^ right) ≡ power
    whole_of k e = subst (λ (p : ℕ). 2 ^ right * (p / 2 ^ right) ≡ p) e (exact k right (right_small s.right_most))

    factor_of : (a u q v : ℕ) → a * q ≡ power → u ≡ a * 2 → q * v * u ≡ 2 * (power * v)
    factor_of a u q v e eu =
        ap (λ (x : ℕ). q * v * x) eu ∙ in_order ∙ ap (λ (x : ℕ). 2 * (x * v)) e
      where
        in_order : q * v * (a * 2) ≡ 2 * (a * q * v)
        in_order = omega arith

    small : (a q b : ℕ) → 0 < a → a * q ≡ power → 32 * b ≤ near * a → w * power < 4294967296 → q * b ≤ 134217728
    small a q b some e steep l =
        let m1 : power * (32 * b) ≤ power * (near * a) = mul-le-mul_left power steep in
        let m2 : power * a * near ≤ power * a * w = mul-le-mul_left (power * a) le in
        let m3 : a * (w * power) ≤ a * 4294967296 = mul-le-mul_left a (omega (arith, l)) in
        let e1 : a * q * (32 * b) ≡ power * (32 * b) = ap (λ (x : ℕ). x * (32 * b)) e in
        let c : q * b * 32 ≤ 4294967296 = le_of_mul-le-mul_left (joined m1 m2 m3 e1) some in
        omega (arith, c)
      where
        joined : power * (32 * b) ≤ power * (near * a) → power * a * near ≤ power * a * w → a * (w * power) ≤ a * 4294967296 → a * q * (32 * b) ≡ power * (32 * b) → a * (q * b * 32) ≤ a * 4294967296
        joined m1 m2 m3 e1 = omega (arith, m1, m2, m3, e1)

    few_of : number ≡ top * near → top ≤ 16777216 → number ≤ 16777216 * w
    few_of e l =
        let m : top * near ≤ 16777216 * w = mul-le top near 16777216 w l le in
        omega (arith, e, m)

    under : 2147483648 ≤ w * power → w * power * r ≤ 9223372036854775808 → r ≤ 4294967296
    under l h =
        let m : r * 2147483648 ≤ r * (w * power) = mul-le-mul_left r l in
        omega (arith, m, h)

-- ---- factors

-- a shift to the left, as a lane has it
abbrev pub shl : ℕ → ℕ → ℕ
shl a b = a * 2 ^ b % 4294967296

abbrev pub shr : ℕ → ℕ → ℕ
shr a b = a / 2 ^ b

pub factor_at : (ps : List ℕ) (right left : ℕ) → length ps ≡ 8 → ((j : ℕ) → j < 8 → get_or ps j 0 / 2 ^ right * 2 ^ left < 4294967296) →
    (j : ℕ) → j < 8 → get_or (zip2 shl (zip2 shr ps (replicate 8 right)) (replicate 8 left)) j 0 ≡ get_or ps j 0 / 2 ^ right * 2 ^ left
factor_at ps right left long small j lt =
    at_same shl (zip2 shr ps (replicate 8 right)) left (long_same shr ps right long) j lt
    ∙ ap (λ (a : ℕ). shl a left) (at_same shr ps right long j lt)
    ∙ mod-eq_of_lt (small j lt)

pub factors_long : (ps : List ℕ) (right left : ℕ) → length ps ≡ 8 → length (zip2 shl (zip2 shr ps (replicate 8 right)) (replicate 8 left)) ≡ 8
factors_long ps right left long = long_same shl (zip2 shr ps (replicate 8 right)) left (long_same shr ps right long)

pub shifts : (xs : List ℕ) (s : ℕ) → s ≤ 7 → length xs ≡ 8 → Each2 (λ (a b : ℕ). b < 32) xs (replicate 8 s)
shifts xs s le long = pairs_same (λ (a b : ℕ). b < 32) xs s long (λ j lt. omega (arith, le))

-- ---- guesses

pub guess_at : (held : ℕ) (rs fs ts es : List ℕ) → length rs ≡ 8 → length fs ≡ 8 → length ts ≡ 8 → ts ≡ zip2 (λ x y. x * y / 4294967296) (replicate 8 held) rs → es ≡ zip2 (λ x y. x * y / 4294967296) ts fs →
    (j : ℕ) → j < 8 → get_or es j 0 ≡ held * get_or rs j 0 / 4294967296 * get_or fs j 0 / 4294967296
guess_at held rs fs ts es lr lf lt_long are_ts are_es j lt =
    ap (λ (l : List ℕ). get_or l j 0) are_es
    ∙ at_both (λ x y. x * y / 4294967296) ts fs lt_long lf j lt
    ∙ ap (λ (a : ℕ). a * get_or fs j 0 / 4294967296)
    (ap (λ (l : List ℕ). get_or l j 0) are_ts ∙ at_both (λ x y. x * y / 4294967296) (replicate 8 held) rs refl lr j lt ∙ ap (λ (h : ℕ). h * get_or rs j 0 / 4294967296) (get_or-replicate 8 j held 0 lt))

-- ---- quotients

-- what a guess leaves of a number that may be wrapped
left_of : (n g d : ℕ) → g * d ≤ n → n < g * d + 2 * d → d ≤ 16777216 → sub (n % 4294967296) (mul g d) ≡ n - g * d
left_of n g d low high small = one (g * d) low high
  where
    one : (b : ℕ) → b ≤ n → n < b + 2 * d → (n % 4294967296 + (4294967296 - b % 4294967296)) % 4294967296 ≡ n - b
    one b low high = omega (arith, low, high, small)

pub record AreGuesses (n : ℕ) (ds gs : List ℕ) : Type 0 where
  pub small : (j : ℕ) → j < 8 → get_or ds j 0 ≤ 16777216
  pub low : (j : ℕ) → j < 8 → get_or gs j 0 * get_or ds j 0 ≤ n
  pub high : (j : ℕ) → j < 8 → n < get_or gs j 0 * get_or ds j 0 + 2 * get_or ds j 0

abbrev pub rests : ℕ → List ℕ → List ℕ → List ℕ
rests n ds gs = zip2 sub (replicate 8 (n % 4294967296)) (zip2 mul gs ds)

rest_at : (n : ℕ) (ds gs : List ℕ) → length ds ≡ 8 → length gs ≡ 8 → AreGuesses n ds gs → (j : ℕ) → j < 8 → get_or (rests n ds gs) j 0 ≡ n - get_or gs j 0 * get_or ds j 0
rest_at n ds gs ld lg h j lt =
    at_both sub (replicate 8 (n % 4294967296)) (zip2 mul gs ds) refl (long_both mul gs ds lg ld) j lt
    ∙ ap₂ sub (get_or-replicate 8 j (n % 4294967296) 0 lt) (at_both mul gs ds lg ld j lt)
    ∙ left_of n (get_or gs j 0) (get_or ds j 0) (h.low j lt) (h.high j lt) (h.small j lt)

one_or_none : (t : Bool) → cond t 1 0 ≤ 1
one_or_none true = omega arith
one_or_none false = omega arith

pub sums_fit : (gs os ds rs : List ℕ) → length gs ≡ 8 → ((j : ℕ) → j < 8 → get_or gs j 0 < 2147483648) → ((j : ℕ) → j < 8 → get_or os j 0 ≡ cond (nat_le (get_or ds j 0) (get_or rs j 0)) 1 0) → Each2 (λ a b. Fits w32 (a + b)) gs os
sums_fit gs os ds rs long small are =
    pairs (λ a b. Fits w32 (a + b)) gs os long (λ j lt. one (get_or gs j 0) (get_or os j 0) (cond (nat_le (get_or ds j 0) (get_or rs j 0)) 1 0) (small j lt) (are j lt) (one_or_none (nat_le (get_or ds j 0) (get_or rs j 0))))
  where
    one : (g o n : ℕ) → g < 2147483648 → o ≡ n → n ≤ 1 → Fits w32 (g + o)
    one g o n l e k = omega (arith, l, e, k)

pub quotient_at : (n : ℕ) (ds gs os : List ℕ) → length ds ≡ 8 → length gs ≡ 8 → length os ≡ 8 → AreGuesses n ds gs → ((j : ℕ) → j < 8 → get_or os j 0 ≡ cond (nat_le (get_or ds j 0) (get_or (rests n ds gs) j 0)) 1 0) →
    (j : ℕ) → j < 8 → get_or (zip2 (λ a b. a + b) gs os) j 0 ≡ n / get_or ds j 0
quotient_at n ds gs os ld lg lo h are j lt =
    let g = get_or gs j 0 in let d = get_or ds j 0 in
    at_both (λ a b. a + b) gs os lg lo j lt
    ∙ ap (λ (o : ℕ). g + o) (are j lt ∙ ap (λ (r : ℕ). cond (nat_le d r) 1 0) (rest_at n ds gs ld lg h j lt))
    ∙ sym (rounded_is n d g (n - g * d) (h.low j lt) (h.high j lt) (back (g * d) (h.low j lt)))
  where
    back : (b : ℕ) → b ≤ n → (n - b) + b ≡ n
    back b l = omega (arith, l)

-- of all lanes
pub are_guesses : (top near number held right left : ℕ) (ws ps rs fs gs : List ℕ) → IsScale top near number held right left → AreDivisors ws ps rs → ((j : ℕ) → j < 8 → near ≤ get_or ws j 0) →
    ((j : ℕ) → j < 8 → get_or fs j 0 ≡ get_or ps j 0 / 2 ^ right * 2 ^ left) → ((j : ℕ) → j < 8 → get_or gs j 0 ≡ held * get_or rs j 0 / 4294967296 * get_or fs j 0 / 4294967296) → AreGuesses number ws gs
are_guesses top near number held right left ws ps rs fs gs s are le are_fs are_gs = record {
  small = λ j lt. (are.each j lt).most;
  low = λ j lt. (guess j lt).low;
  high = λ j lt. (guess j lt).high;
}
  where
    guess : (j : ℕ) → j < 8 → IsNearnessGuess number (get_or ws j 0) (get_or gs j 0)
    guess j lt =
        let d = are.each j lt in
        let l = lane_is top near number held right left (get_or ws j 0) (get_or ps j 0) (get_or rs j 0) s d (le j lt) in
        let h : IsHeld number held (2 ^ (right + 1)) (2 ^ left) (get_or fs j 0) (get_or ps j 0) = subst (λ (f : ℕ). IsHeld number held (2 ^ (right + 1)) (2 ^ left) f (get_or ps j 0)) (sym (are_fs j lt)) l.is_held in
        nearness_guess number held (2 ^ (right + 1)) (2 ^ left) (get_or fs j 0) (get_or ps j 0) (get_or ws j 0) (get_or rs j 0) (held * get_or rs j 0 / 4294967296) (get_or gs j 0) h d
        (subst (λ (f : ℕ). f ≤ 134217728) (sym (are_fs j lt)) l.factor) l.few l.reciprocal refl (are_gs j lt)

pub guesses_small : (n : ℕ) (ds gs : List ℕ) → AreGuesses n ds gs → ((j : ℕ) → j < 8 → 1 ≤ get_or ds j 0) → ((j : ℕ) → j < 8 → n ≤ 16777216 * get_or ds j 0) → (j : ℕ) → j < 8 → get_or gs j 0 < 2147483648
guesses_small n ds gs h least few j lt = last (le_of_mul-le-mul_left (turned (get_or gs j 0) (get_or ds j 0) (h.low j lt) (few j lt)) (least j lt))
  where
    turned : (g d : ℕ) → g * d ≤ n → n ≤ 16777216 * d → d * g ≤ d * 16777216
    turned g d l f = omega (arith, l, f)

    last : get_or gs j 0 ≤ 16777216 → get_or gs j 0 < 2147483648
    last l = omega (arith, l)
