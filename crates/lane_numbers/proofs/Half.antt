-- A fixed-point number that stands for (n + 1/2) / p, with an error of less than half a step, has the whole part of n / p.
use Rattle.std.proofs.Common.{◌≡◌, ℕ, ℤ, pos, ◌<◌, ◌+ℤ◌, ◌*ℤ◌, ◌≤ℤ◌, ◌<ℤ◌, arith, subst}
use Rattle.std.specs.Int.{int_div_euclid}
use Rattle.std.proofs.lemmas.Int.{ints}
use Rattle.lane_numbers.specs.Parts.{StandsFor}
use Rattle.lane_numbers.proofs.Floors.{add-times, floor-le, floor-lt, floor_is, le-from_times, le-times, lt-from_times, times-swap}

-- no less than the quotient n / p
not_below : (n t q : ℤ) (p w : ℕ) → (q *ℤ pos p) ≤ℤ n → (n *ℤ pos w) <ℤ (t *ℤ pos p) → (q *ℤ pos w) ≤ℤ t
not_below n t q p w le l =
    le-from_times (q *ℤ pos w) t p
    (low ((q *ℤ pos w) *ℤ pos p) ((q *ℤ pos p) *ℤ pos w) (n *ℤ pos w) (t *ℤ pos p) (times-swap q (pos w) (pos p)) (le-times (q *ℤ pos p) n w le) l)
  where
    low : (a b c d : ℤ) → a ≡ b → b ≤ℤ c → c <ℤ d → a <ℤ (d +ℤ pos p)
    low a b c d e i j = omega (arith, ints, e, i, j)

-- and less than the next whole
below_next : (n t q : ℤ) (p w : ℕ) → n <ℤ ((q *ℤ pos p) +ℤ pos p) → (t *ℤ pos p) <ℤ ((n +ℤ pos 1) *ℤ pos w) → t <ℤ ((q *ℤ pos w) +ℤ pos w)
below_next n t q p w lt l =
    next (q +ℤ pos 1) (once q w)
    (lt-from_times t ((q +ℤ pos 1) *ℤ pos w) p
    (high (t *ℤ pos p) ((n +ℤ pos 1) *ℤ pos w) (((q +ℤ pos 1) *ℤ pos p) *ℤ pos w) (((q +ℤ pos 1) *ℤ pos w) *ℤ pos p) l
    (le-times (n +ℤ pos 1) ((q +ℤ pos 1) *ℤ pos p) w (more ((q +ℤ pos 1) *ℤ pos p) (q *ℤ pos p) (once q p) lt)) (times-swap (q +ℤ pos 1) (pos p) (pos w))))
  where
    once : (q : ℤ) (k : ℕ) → (q +ℤ pos 1) *ℤ pos k ≡ (q *ℤ pos k) +ℤ pos k
    once q k = let e = add-times q (pos 1) (pos k) in omega (arith, ints, e)

    more : (a b : ℤ) → a ≡ b +ℤ pos p → n <ℤ (b +ℤ pos p) → (n +ℤ pos 1) ≤ℤ a
    more a b e i = omega (arith, ints, e, i)

    high : (a b c d : ℤ) → a <ℤ b → b ≤ℤ c → c ≡ d → a <ℤ d
    high a b c d i j e = omega (arith, ints, e, i, j)

    next : (r : ℤ) → r *ℤ pos w ≡ (q *ℤ pos w) +ℤ pos w → t <ℤ (r *ℤ pos w) → t <ℤ ((q *ℤ pos w) +ℤ pos w)
    next r e i = subst (λ (z : ℤ). t <ℤ z) e i

pub whole_is : (w : ℕ) (n : ℤ) (p : ℕ) (t : ℤ) → 0 < w → StandsFor w n p t → int_div_euclid t (pos w) ≡ int_div_euclid n (pos p)
whole_is w n p t some h =
    floor_is t (int_div_euclid n (pos p)) w some
    (not_below n t (int_div_euclid n (pos p)) p w (floor-le n p h.positive) h.above)
    (below_next n t (int_div_euclid n (pos p)) p w (floor-lt n p h.positive) h.below)
