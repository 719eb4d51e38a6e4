-- What the halves of space at a column or a row say of the points in them.
use Rattle.std.proofs.Common.{◌≡◌, ℕ, ℤ, pos, negsuc, neg_ℤ, ◌+◌, ◌*◌, ◌<◌, ◌≤◌, ◌+ℤ◌, ◌-ℤ◌, ◌*ℤ◌, ◌≤ℤ◌, ◌<ℤ◌, arith}
use Rattle.std.proofs.lemmas.Int.{ints}
use Rattle.box_rays.proofs.Orders.{cancel, none_times, right_sum, left_sum, lower_sum, upper_sum}

-- n pixels, and m is twice the column's or the row's number
pub is_right : (n m x y w : ℤ) → pos 0 <ℤ (((n *ℤ x) +ℤ (pos 0 *ℤ y)) +ℤ ((n -ℤ m) *ℤ w)) → (m *ℤ w) <ℤ (n *ℤ (x +ℤ w))
is_right n m x y w h = less _ _ _ _ _ (none_times y) (right_sum n m x w) h
  where
    less : (a z b p q : ℤ) → z ≡ pos 0 → a +ℤ b ≡ p -ℤ q → pos 0 <ℤ ((a +ℤ z) +ℤ b) → q <ℤ p
    less a z b p q ez e k = omega (arith, ints, ez, e, k)

pub is_left : (n m x y w : ℤ) → pos 0 <ℤ (((neg_ℤ n *ℤ x) +ℤ (pos 0 *ℤ y)) +ℤ ((m -ℤ n) *ℤ w)) → (n *ℤ (x +ℤ w)) <ℤ (m *ℤ w)
is_left n m x y w h = less _ _ _ _ _ (none_times y) (left_sum n m x w) h
  where
    less : (a z b p q : ℤ) → z ≡ pos 0 → a +ℤ b ≡ p -ℤ q → pos 0 <ℤ ((a +ℤ z) +ℤ b) → q <ℤ p
    less a z b p q ez e k = omega (arith, ints, ez, e, k)

pub is_below : (n m x y w : ℤ) → pos 0 <ℤ (((pos 0 *ℤ x) +ℤ (n *ℤ neg_ℤ y)) +ℤ ((n -ℤ m) *ℤ w)) → (m *ℤ w) <ℤ (n *ℤ (w -ℤ y))
is_below n m x y w h = less _ _ _ _ _ (none_times x) (lower_sum n m y w) h
  where
    less : (z a b p q : ℤ) → z ≡ pos 0 → a +ℤ b ≡ p -ℤ q → pos 0 <ℤ ((z +ℤ a) +ℤ b) → q <ℤ p
    less z a b p q ez e k = omega (arith, ints, ez, e, k)

pub is_above : (n m x y w : ℤ) → pos 0 <ℤ (((pos 0 *ℤ x) +ℤ (neg_ℤ n *ℤ neg_ℤ y)) +ℤ ((m -ℤ n) *ℤ w)) → (n *ℤ (w -ℤ y)) <ℤ (m *ℤ w)
is_above n m x y w h = less _ _ _ _ _ (none_times x) (upper_sum n m y w) h
  where
    less : (z a b p q : ℤ) → z ≡ pos 0 → a +ℤ b ≡ p -ℤ q → pos 0 <ℤ ((z +ℤ a) +ℤ b) → q <ℤ p
    less z a b p q ez e k = omega (arith, ints, ez, e, k)

-- A point that is seen at s over twice w: from a place on, and in pixel k or before, and the other way round.
pub from_place : (place k : ℕ) (w s : ℤ) → pos 0 <ℤ w → (pos (2 * place) *ℤ w) <ℤ s → s <ℤ (pos (2 * (k + 1)) *ℤ w) → place ≤ k
from_place place k (negsuc u) s h i j = absurd (omega (arith, ints, h))
from_place place k (pos u) s h i j = le_of_twice (cancel u (pos (2 * place)) (pos (2 * (k + 1))) (along _ _ i j))
  where
    along : (a b : ℤ) → a <ℤ s → s <ℤ b → a <ℤ b
    along a b x y = omega (arith, ints, x, y)

    le_of_twice : pos (2 * place) <ℤ pos (2 * (k + 1)) → place ≤ k
    le_of_twice lt = omega (arith, ints, lt)

pub before_place : (place k : ℕ) (w s : ℤ) → pos 0 <ℤ w → s <ℤ (pos (2 * place) *ℤ w) → (pos (2 * k) *ℤ w) ≤ℤ s → k < place
before_place place k (negsuc u) s h i j = absurd (omega (arith, ints, h))
before_place place k (pos u) s h i j = lt_of_twice (cancel u (pos (2 * k)) (pos (2 * place)) (along _ _ i j))
  where
    along : (a b : ℤ) → s <ℤ b → a ≤ℤ s → a <ℤ b
    along a b x y = omega (arith, ints, x, y)

    lt_of_twice : pos (2 * k) <ℤ pos (2 * place) → k < place
    lt_of_twice lt = omega (arith, ints, lt)
