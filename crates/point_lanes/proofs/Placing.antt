-- The steps of a place, lane by lane.
use Rattle.std.proofs.Common.{◌≡◌, ℕ, ℤ, pos, negsuc, suc, ◌+◌, ◌-◌, ◌*◌, ◌/◌, ◌%◌, ◌^◌, ◌<◌, ◌≤◌, ◌⊎◌, inl, inr, ◌-ℤ◌, List, Bool, true, false, cond, nat_le, length, get_or, replicate, refl, sym, ap, ap₂, ◌∙◌, subst, arith, w32, Fits, to_z}
use Rattle.std.specs.Simd.Lanes.{zip2, Each2}
use Rattle.std.proofs.Math.Nat.{mul-le-mul_left, le_of_mul-le-mul_left}
use Rattle.std.proofs.lemmas.Int.{ints, to_z_pos}
use Rattle.std.proofs.lemmas.Nat.{mul-le}
use Rattle.point_lanes.specs.Divisors.{IsDivisor, AreDivisors}
use Rattle.point_lanes.specs.Places.{place_of}
use Rattle.point_lanes.proofs.Lanes.{at_both, at_same, long_both, long_same, pairs}
use Rattle.point_lanes.proofs.Quotients.{IsPlaceGuess, place_guess, rounded_is}
use mir.ValLaws.{to_z-neg}

-- ---- ratios

-- an offset times what makes its divisor one of 32 digits, over 128, fits 32 bits
scaled_fits : (x w power r : ℕ) → IsDivisor w power r → x < 128 * w → x * (power / 128) < 4294967296
scaled_fits x w power r h lx = by (power / 128) h.whole
  where
    by : (k : ℕ) → 128 * k ≡ power → x * k < 4294967296
    by k e =
        let m : k * x ≤ k * (128 * w) = mul-le-mul_left k (omega (arith, lx)) in
        let p : w * power ≡ w * (128 * k) = ap (λ (z : ℕ). w * z) (sym e) in
        last m p h.product_most
      where
        last : k * x ≤ k * (128 * w) → w * power ≡ w * (128 * k) → w * power < 4294967296 → x * k < 4294967296
        last m p l = omega (arith, m, p, l)

-- as the lanes compute it
abbrev pub parts_of : List ℕ → List ℕ
parts_of ps = zip2 (λ a b. a / 2 ^ b) ps (replicate 8 7)

parts_at : (ps : List ℕ) → length ps ≡ 8 → (j : ℕ) → j < 8 → get_or (parts_of ps) j 0 ≡ get_or ps j 0 / 128
parts_at ps long j lt = at_same (λ a b. a / 2 ^ b) ps 7 long j lt

pub scaled_fit : (xs ws ps rs : List ℕ) → length xs ≡ 8 → AreDivisors ws ps rs → ((j : ℕ) → j < 8 → get_or xs j 0 < 128 * get_or ws j 0) → Each2 (λ a b. Fits w32 (a * b)) xs (parts_of ps)
scaled_fit xs ws ps rs long are small =
    pairs (λ a b. Fits w32 (a * b)) xs (parts_of ps) long
    (λ j lt. record {
      fits = subst (λ (k : ℕ). get_or xs j 0 * k < 4294967296) (sym (parts_at ps are.eight_powers j lt)) (scaled_fits (get_or xs j 0) (get_or ws j 0) (get_or ps j 0) (get_or rs j 0) (are.each j lt) (small j lt));
    })

pub ratio_at : (xs ws ps rs zs : List ℕ) → length xs ≡ 8 → AreDivisors ws ps rs → zs ≡ zip2 (λ a b. a * b / 4294967296) (zip2 (λ a b. a * b) xs (parts_of ps)) rs →
    (j : ℕ) → j < 8 → get_or zs j 0 ≡ get_or xs j 0 * (get_or ps j 0 / 128) * get_or rs j 0 / 4294967296
ratio_at xs ws ps rs zs long are is j lt =
    let long_parts = long_same (λ a b. a / 2 ^ b) ps 7 are.eight_powers in
    ap (λ (l : List ℕ). get_or l j 0) is
    ∙ at_both (λ a b. a * b / 4294967296) (zip2 (λ a b. a * b) xs (parts_of ps)) rs (long_both (λ a b. a * b) xs (parts_of ps) long long_parts) are.eight_reciprocals j lt
    ∙ ap (λ (n : ℕ). n * get_or rs j 0 / 4294967296) (at_both (λ a b. a * b) xs (parts_of ps) long long_parts j lt ∙ ap (λ (k : ℕ). get_or xs j 0 * k) (parts_at ps are.eight_powers j lt))

-- ---- guesses

pub guess_at : (ts hs : List ℕ) (p q : ℕ) → length ts ≡ 8 → length hs ≡ 8 → q ≡ p → hs ≡ zip2 (λ a b. a * b / 4294967296) ts (replicate 8 (1048576 * q)) →
    (j : ℕ) → j < 8 → get_or (zip2 (λ a b. a / 2 ^ b) hs (replicate 8 9)) j 0 ≡ get_or ts j 0 * (1048576 * p) / 4294967296 / 512
guess_at ts hs p q long long_hs same is j lt =
    at_same (λ a b. a / 2 ^ b) hs 9 long_hs j lt
    ∙ ap (λ (n : ℕ). n / 512) (ap (λ (l : List ℕ). get_or l j 0) is ∙ at_same (λ a b. a * b / 4294967296) ts (1048576 * q) long j lt ∙ ap (λ (n : ℕ). get_or ts j 0 * (1048576 * n) / 4294967296) same)

-- ---- what guesses leave

-- lanes that wrap
abbrev pub add : ℕ → ℕ → ℕ
add a b = (a + b) % 4294967296

abbrev pub mul : ℕ → ℕ → ℕ
mul a b = a * b % 4294967296

abbrev pub sub : ℕ → ℕ → ℕ
sub a b = (a + (4294967296 - b)) % 4294967296

abbrev pub numerators : List ℕ → ℕ → List ℕ → List ℕ
numerators xs k ws = zip2 add (zip2 mul xs (replicate 8 k)) ws

abbrev pub taken : List ℕ → List ℕ → List ℕ
taken gs ws = zip2 mul gs (zip2 add ws ws)

long_numerators : (xs : List ℕ) (k : ℕ) (ws : List ℕ) → length xs ≡ 8 → length ws ≡ 8 → length (numerators xs k ws) ≡ 8
long_numerators xs k ws lx lw = long_both add (zip2 mul xs (replicate 8 k)) ws (long_same mul xs k lx) lw

long_taken : (gs ws : List ℕ) → length gs ≡ 8 → length ws ≡ 8 → length (taken gs ws) ≡ 8
long_taken gs ws lg lw = long_both mul gs (zip2 add ws ws) lg (long_both add ws ws lw lw)

pub long_rests : (xs : List ℕ) (k : ℕ) (ws gs : List ℕ) → length xs ≡ 8 → length ws ≡ 8 → length gs ≡ 8 → length (zip2 sub (numerators xs k ws) (taken gs ws)) ≡ 8
long_rests xs k ws gs lx lw lg = long_both sub (numerators xs k ws) (taken gs ws) (long_numerators xs k ws lx lw) (long_taken gs ws lg lw)

-- what they leave where the numbers themselves may be wrapped, and the difference isn't
wrapped : (a w b : ℕ) → b ≤ a + w → a + w < b + 4294967296 → ((a % 4294967296 + w) % 4294967296 + (4294967296 - b % 4294967296)) % 4294967296 ≡ (a + w) - b
wrapped a w b low high = omega (arith, low, high)

rest_of : (x k w g n : ℕ) → w ≤ 16777216 → x * k ≡ n → 2 * (g * w) ≤ n + w → n + w < 2 * (g * w) + 4294967296 → sub (add (mul x k) w) (mul g (add w w)) ≡ (n + w) - 2 * (g * w)
rest_of x k w g n small e low high =
    let double : (w + w) % 4294967296 ≡ 2 * w = omega (arith, small) in
    let same : g * (2 * w) ≡ 2 * (g * w) = omega arith in
    ap₂ (λ (m d : ℕ). sub (add (m % 4294967296) w) (d % 4294967296)) e (ap (λ (d : ℕ). g * d) double ∙ same) ∙ wrapped n w (2 * (g * w)) low high

pub rest_at : (xs : List ℕ) (p q : ℕ) (ws gs : List ℕ) → length xs ≡ 8 → length ws ≡ 8 → length gs ≡ 8 → q ≡ p → ((j : ℕ) → j < 8 → get_or ws j 0 ≤ 16777216) →
    ((j : ℕ) → j < 8 → 2 * (get_or gs j 0 * get_or ws j 0) ≤ 16 * p * get_or xs j 0 + get_or ws j 0) →
    ((j : ℕ) → j < 8 → 16 * p * get_or xs j 0 + get_or ws j 0 < 2 * (get_or gs j 0 * get_or ws j 0) + 4294967296) →
    (j : ℕ) → j < 8 → get_or (zip2 sub (numerators xs (16 * q) ws) (taken gs ws)) j 0 ≡ (16 * p * get_or xs j 0 + get_or ws j 0) - 2 * (get_or gs j 0 * get_or ws j 0)
rest_at xs p q ws gs lx lw lg same small low high j lt =
    at_both sub (numerators xs (16 * q) ws) (taken gs ws) (long_numerators xs (16 * q) ws lx lw) (long_taken gs ws lg lw) j lt
    ∙ ap₂ sub
    (at_both add (zip2 mul xs (replicate 8 (16 * q))) ws (long_same mul xs (16 * q) lx) lw j lt ∙ ap (λ (a : ℕ). add a (get_or ws j 0)) (at_same mul xs (16 * q) lx j lt))
    (at_both mul gs (zip2 add ws ws) lg (long_both add ws ws lw lw) j lt ∙ ap (λ (b : ℕ). mul (get_or gs j 0) b) (at_both add ws ws lw lw j lt))
    ∙ rest_of (get_or xs j 0) (16 * q) (get_or ws j 0) (get_or gs j 0) (16 * p * get_or xs j 0) (small j lt) (turned (get_or xs j 0)) (low j lt) (high j lt)
  where
    turned : (x : ℕ) → x * (16 * q) ≡ 16 * p * x
    turned x = ap (λ (k : ℕ). x * (16 * k)) same ∙ swapped x
      where
        swapped : (x : ℕ) → x * (16 * p) ≡ 16 * p * x
        swapped x = omega arith

-- ---- one more where that is no less than the divisor

pub double_at : (ws : List ℕ) → length ws ≡ 8 → (j : ℕ) → j < 8 → get_or (zip2 (λ a b. a + b) ws ws) j 0 ≡ 2 * get_or ws j 0
double_at ws long j lt = at_both (λ a b. a + b) ws ws long long j lt ∙ omega arith

pub doubles_fit : (ws : List ℕ) → length ws ≡ 8 → ((j : ℕ) → j < 8 → get_or ws j 0 ≤ 16777216) → Each2 (λ a b. Fits w32 (a + b)) ws ws
doubles_fit ws long small = pairs (λ a b. Fits w32 (a + b)) ws ws long (λ j lt. one (get_or ws j 0) (small j lt))
  where
    one : (w : ℕ) → w ≤ 16777216 → Fits w32 (w + w)
    one w l = omega (arith, l)

one_or_none : (t : Bool) → cond t 1 0 ≤ 1
one_or_none true = omega arith
one_or_none false = omega arith

pub sums_fit : (gs os ds rs : List ℕ) → length gs ≡ 8 → ((j : ℕ) → j < 8 → get_or gs j 0 < 2147483648) → ((j : ℕ) → j < 8 → get_or os j 0 ≡ cond (nat_le (get_or ds j 0) (get_or rs j 0)) 1 0) → Each2 (λ a b. Fits w32 (a + b)) gs os
sums_fit gs os ds rs long small are =
    pairs (λ a b. Fits w32 (a + b)) gs os long (λ j lt. one (get_or gs j 0) (get_or os j 0) (cond (nat_le (get_or ds j 0) (get_or rs j 0)) 1 0) (small j lt) (are j lt) (one_or_none (nat_le (get_or ds j 0) (get_or rs j 0))))
  where
    one : (g o n : ℕ) → g < 2147483648 → o ≡ n → n ≤ 1 → Fits w32 (g + o)
    one g o n l e k = omega (arith, l, e, k)

pub rounded_at : (gs os ws rs : List ℕ) → length gs ≡ 8 → length os ≡ 8 → length ws ≡ 8 → ((j : ℕ) → j < 8 → get_or os j 0 ≡ cond (nat_le (get_or (zip2 (λ a b. a + b) ws ws) j 0) (get_or rs j 0)) 1 0) →
    (j : ℕ) → j < 8 → get_or (zip2 (λ a b. a + b) gs os) j 0 ≡ get_or gs j 0 + cond (nat_le (2 * get_or ws j 0) (get_or rs j 0)) 1 0
rounded_at gs os ws rs lg lo lw are j lt =
    at_both (λ a b. a + b) gs os lg lo j lt
    ∙ ap (λ (o : ℕ). get_or gs j 0 + o) (are j lt ∙ ap (λ (d : ℕ). cond (nat_le d (get_or rs j 0)) 1 0) (double_at ws lw j lt))

-- ---- the place

-- what is wanted of a guess before it is rounded
pub record IsClose (p x w g : ℕ) : Type 0 where
  pub low : 2 * (g * w) ≤ 16 * p * x + w
  pub high : 16 * p * x + w < 2 * (g * w) + 4294967296
  pub small : g < 4194304
  pub place : (16 * p * x + w) / (2 * w) ≡ g + cond (nat_le (2 * w) ((16 * p * x + w) - 2 * (g * w))) 1 0

pub close : (p x w g : ℕ) → 1 ≤ w → w ≤ 16777216 → p ≤ 2048 → x < 128 * w → IsPlaceGuess p x w g → IsClose p x w g
close p x w g lw small lp lx h =
    let below : 2 * (g * w) ≤ 16 * p * x + w = below_of h.low in
    let above : 16 * p * x + w < 2 * (g * w) + 4 * w = above_of h.high in
    let few : p * x ≤ 2048 * (128 * w) = mul-le p x 2048 (128 * w) lp (omega (arith, lx)) in
    record {
      low = below;
      high = omega (arith, above, small);
      small = smaller (le_of_mul-le-mul_left (little_of h.low few) lw);
      place = rounded_is (16 * p * x + w) (2 * w) g ((16 * p * x + w) - 2 * (g * w)) (first below) (second above) (third below);
    }
  where
    below_of : g * w ≤ 8 * (p * x) → 2 * (g * w) ≤ 16 * p * x + w
    below_of l = omega (arith, l)

    above_of : 16 * (p * x) < 2 * (g * w) + 3 * w → 16 * p * x + w < 2 * (g * w) + 4 * w
    above_of l = omega (arith, l)

    little_of : g * w ≤ 8 * (p * x) → p * x ≤ 2048 * (128 * w) → w * g ≤ w * 2097152
    little_of l f = omega (arith, l, f)

    smaller : g ≤ 2097152 → g < 4194304
    smaller l = omega (arith, l)

    first : 2 * (g * w) ≤ 16 * p * x + w → g * (2 * w) ≤ 16 * p * x + w
    first l = omega (arith, l)

    second : 16 * p * x + w < 2 * (g * w) + 4 * w → 16 * p * x + w < g * (2 * w) + 2 * (2 * w)
    second l = omega (arith, l)

    third : 2 * (g * w) ≤ 16 * p * x + w → ((16 * p * x + w) - 2 * (g * w)) + g * (2 * w) ≡ 16 * p * x + w
    third l = omega (arith, l)

-- of each lane, by its ratio
pub close_at : (p : ℕ) (xs ws ps rs ts gs : List ℕ) → p ≤ 2048 → AreDivisors ws ps rs → ((j : ℕ) → j < 8 → get_or xs j 0 < 128 * get_or ws j 0) →
    ((j : ℕ) → j < 8 → get_or ts j 0 ≡ get_or xs j 0 * (get_or ps j 0 / 128) * get_or rs j 0 / 4294967296) → ((j : ℕ) → j < 8 → get_or gs j 0 ≡ get_or ts j 0 * (1048576 * p) / 4294967296 / 512) →
    (j : ℕ) → j < 8 → IsClose p (get_or xs j 0) (get_or ws j 0) (get_or gs j 0)
close_at p xs ws ps rs ts gs lp are small are_ts are_gs j lt =
    let d = are.each j lt in
    close p (get_or xs j 0) (get_or ws j 0) (get_or gs j 0) d.least d.most lp (small j lt)
    (place_guess p (get_or xs j 0) (get_or ws j 0) (get_or ps j 0) (get_or rs j 0) (get_or xs j 0 * (get_or ps j 0 / 128)) (get_or ts j 0) (get_or gs j 0) d lp (small j lt) refl (are_ts j lt) (are_gs j lt))

-- ---- moved to the first edge, with its sign

pub moved_at : (ns : List ℕ) (p q : ℕ) → length ns ≡ 8 → q ≡ p → (j : ℕ) → j < 8 → get_or (zip2 sub ns (replicate 8 (504 * q))) j 0 ≡ (get_or ns j 0 + (4294967296 - 504 * p)) % 4294967296
moved_at ns p q long same j lt = at_same sub ns (504 * q) long j lt ∙ ap (λ (n : ℕ). (get_or ns j 0 + (4294967296 - 504 * n)) % 4294967296) same

signed_is : (m s : ℕ) → m < 2147483648 → s < 2147483648 → to_z w32 ((m + (4294967296 - s)) % 4294967296) ≡ pos m -ℤ pos s
signed_is m s lm ls = by (order s m)
  where
    order : (x y : ℕ) → (x ≤ y) ⊎ (suc y ≤ x)
    order x y = grind arith

    above : (k : ℕ) → k + s ≡ m → to_z w32 ((m + (4294967296 - s)) % 4294967296) ≡ pos m -ℤ pos s
    above k e =
        let v : (m + (4294967296 - s)) % 4294967296 ≡ k = omega (arith, e, lm, ls) in
        let l : k < 2147483648 = omega (arith, e, lm) in
        ap (λ (n : ℕ). to_z w32 n) v ∙ to_z_pos w32 k l ∙ plain
      where
        plain : pos k ≡ pos m -ℤ pos s
        plain = omega (arith, ints, e)

    below : (k : ℕ) → m + suc k ≡ s → to_z w32 ((m + (4294967296 - s)) % 4294967296) ≡ pos m -ℤ pos s
    below k e =
        let v : (m + (4294967296 - s)) % 4294967296 ≡ 4294967296 - suc k = omega (arith, e, lm, ls) in
        let l : k < 2147483648 = omega (arith, e, ls) in
        ap (λ (n : ℕ). to_z w32 n) v ∙ to_z-neg w32 k l ∙ plain
      where
        plain : negsuc k ≡ pos m -ℤ pos s
        plain = omega (arith, ints, e)

    by : (s ≤ m) ⊎ (suc m ≤ s) → to_z w32 ((m + (4294967296 - s)) % 4294967296) ≡ pos m -ℤ pos s
    by (inl le) = above (m - s) (omega (arith, le))
    by (inr lt) = below (s - suc m) (omega (arith, lt))

-- a place from what the lanes computed
pub place_is : (p x w g n m : ℕ) (v : ℤ) → p ≤ 2048 → IsClose p x w g → n ≡ g + cond (nat_le (2 * w) ((16 * p * x + w) - 2 * (g * w))) 1 0 → m ≡ (n + (4294967296 - 504 * p)) % 4294967296 → v ≡ to_z w32 m → v ≡ place_of p x w
place_is p x w g n m v lp c en em ev =
    let whole : n ≡ (16 * p * x + w) / (2 * w) = en ∙ sym c.place in
    let small : n < 2147483648 = rw en (within (cond (nat_le (2 * w) ((16 * p * x + w) - 2 * (g * w))) 1 0) (one_or_none (nat_le (2 * w) ((16 * p * x + w) - 2 * (g * w)))) c.small) in
    ev ∙ ap (λ (k : ℕ). to_z w32 k) em ∙ signed_is n (504 * p) small (omega (arith, lp)) ∙ ap (λ (k : ℕ). pos k -ℤ pos (504 * p)) whole
  where
    within : (o : ℕ) → o ≤ 1 → g < 4194304 → g + o < 2147483648
    within o l s = omega (arith, l, s)
