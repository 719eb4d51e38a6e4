-- Products of integers, in order.
use Rattle.std.proofs.Common.{◌≡◌, ℕ, ℤ, pos, negsuc, neg_ℤ, suc, ◌*◌, ◌≤◌, ◌<◌, ◌+ℤ◌, ◌-ℤ◌, ◌*ℤ◌, ◌≤ℤ◌, ◌<ℤ◌, arith}
use Rattle.std.proofs.lemmas.Int.{ints, by_lt_z}
use Rattle.std.proofs.Math.Nat.{mul-le-mul_left}
use Rattle.cull_base.proofs.Ring.{diff-add, diff-sub, diff-mul, diff-neg, diff-same, pos_is, over1, over3, over4}

-- by a natural on the right
pub times_le : (u : ℕ) (a b : ℤ) → a ≤ℤ b → (a *ℤ pos u) ≤ℤ (b *ℤ pos u)
times_le u (pos a) (pos b) h = let le : a ≤ b = omega (arith, ints, h) in let p = mul-le-mul_left u le in omega (arith, ints, p)
times_le u (pos a) (negsuc b) h = absurd (omega (arith, ints, h))
times_le u (negsuc a) (pos b) h = omega (arith, ints)
times_le u (negsuc a) (negsuc b) h = let le : suc b ≤ suc a = omega (arith, ints, h) in let p = mul-le-mul_left u le in omega (arith, ints, p)

-- a common factor goes out of an order
pub cancel : (u : ℕ) (a b : ℤ) → (a *ℤ pos u) <ℤ (b *ℤ pos u) → a <ℤ b
cancel u a b k = by_lt_z a b (λ lt. lt) (λ le. absurd (clash _ _ k (times_le u b a le)))
  where
    clash : (p q : ℤ) → p <ℤ q → q ≤ℤ p → ⊥
    clash p q i j = omega (arith, ints, i, j)

-- by a number on the left that isn't negative, and by one that is
pub keeps_order : (m a b : ℤ) → pos 0 ≤ℤ m → a ≤ℤ b → (m *ℤ a) ≤ℤ (m *ℤ b)
keeps_order (negsuc m) a b n h = absurd (omega (arith, ints, n))
keeps_order (pos m) (pos a) (pos b) n h = let le : a ≤ b = omega (arith, ints, h) in let p = mul-le-mul_left m le in omega (arith, ints, p)
keeps_order (pos m) (pos a) (negsuc b) n h = absurd (omega (arith, ints, h))
keeps_order (pos m) (negsuc a) (pos b) n h = omega (arith, ints)
keeps_order (pos m) (negsuc a) (negsuc b) n h = let le : suc b ≤ suc a = omega (arith, ints, h) in let p = mul-le-mul_left m le in omega (arith, ints, p)

pub turns_order : (m a b : ℤ) → m <ℤ pos 0 → a ≤ℤ b → (m *ℤ b) ≤ℤ (m *ℤ a)
turns_order (pos m) a b n h = absurd (omega (arith, ints, n))
turns_order (negsuc m) (pos a) (pos b) n h = let le : a ≤ b = omega (arith, ints, h) in let p = mul-le-mul_left (suc m) le in omega (arith, ints, p)
turns_order (negsuc m) (pos a) (negsuc b) n h = absurd (omega (arith, ints, h))
turns_order (negsuc m) (negsuc a) (pos b) n h = omega (arith, ints)
turns_order (negsuc m) (negsuc a) (negsuc b) n h = let le : suc b ≤ suc a = omega (arith, ints, h) in let p = mul-le-mul_left (suc m) le in omega (arith, ints, p)

-- positive numbers
pub positive_times : (s : ℤ) (u : ℕ) → pos 0 <ℤ s → 0 < u → pos 0 <ℤ (s *ℤ pos u)
positive_times (negsuc s) u h k = absurd (omega (arith, ints, h))
positive_times (pos s) u h k = let le : 1 ≤ s = omega (arith, ints, h) in let p = mul-le-mul_left u le in omega (arith, ints, p, k)

pub at_least_once : (n : ℕ) (s : ℤ) → pos 0 <ℤ s → pos n ≤ℤ (pos n *ℤ s)
at_least_once n (negsuc s) h = absurd (omega (arith, ints, h))
at_least_once n (pos s) h = let le : 1 ≤ s = omega (arith, ints, h) in let p = mul-le-mul_left n le in omega (arith, ints, p)

pub none_times : (s : ℤ) → pos 0 *ℤ s ≡ pos 0
none_times (pos s) = omega (arith, ints)
none_times (negsuc s) = omega (arith, ints)

-- laws of rings
pub grouped : (a b c : ℤ) → (a *ℤ b) *ℤ c ≡ a *ℤ (b *ℤ c)
grouped = over3 (λ a b c. (a *ℤ b) *ℤ c ≡ a *ℤ (b *ℤ c)) (λ a a' b b' c c'. simp diff-mul (diff-same _ _ _ _ (omega arith)))

-- so many times a step that is itself so many times another
pub steps_of_steps : (a : ℤ) (s u : ℕ) → a *ℤ pos (u * s) ≡ (a *ℤ pos s) *ℤ pos u
steps_of_steps a s u = over1 (λ a. a *ℤ pos (u * s) ≡ (a *ℤ pos s) *ℤ pos u) (λ a a'. simp (pos_is, diff-mul) (diff-same _ _ _ _ (omega arith))) a

-- k steps more
pub more_steps : (a : ℤ) (k s : ℕ) → (a +ℤ pos k) *ℤ pos s ≡ (a *ℤ pos s) +ℤ pos (k * s)
more_steps a k s = over1 (λ a. (a +ℤ pos k) *ℤ pos s ≡ (a *ℤ pos s) +ℤ pos (k * s)) (λ a a'. simp (pos_is, diff-add, diff-mul) (diff-same _ _ _ _ (omega arith))) a

pub turned_steps : (a : ℤ) (s : ℕ) → neg_ℤ a *ℤ pos s ≡ neg_ℤ (a *ℤ pos s)
turned_steps a s = over1 (λ a. neg_ℤ a *ℤ pos s ≡ neg_ℤ (a *ℤ pos s)) (λ a a'. simp (pos_is, diff-neg, diff-mul) (diff-same _ _ _ _ (omega arith))) a

pub three_steps : (a b c : ℤ) (s : ℕ) → ((a +ℤ b) +ℤ c) *ℤ pos s ≡ ((a *ℤ pos s) +ℤ (b *ℤ pos s)) +ℤ (c *ℤ pos s)
three_steps a b c s =
    over3 (λ a b c. ((a +ℤ b) +ℤ c) *ℤ pos s ≡ ((a *ℤ pos s) +ℤ (b *ℤ pos s)) +ℤ (c *ℤ pos s))
    (λ a a' b b' c c'. simp (pos_is, diff-add, diff-mul) (diff-same _ _ _ _ (omega arith))) a b c

pub over_three : (n a b c : ℤ) → n *ℤ ((a +ℤ b) +ℤ c) ≡ ((n *ℤ a) +ℤ (n *ℤ b)) +ℤ (n *ℤ c)
over_three = over4 (λ n a b c. n *ℤ ((a +ℤ b) +ℤ c) ≡ ((n *ℤ a) +ℤ (n *ℤ b)) +ℤ (n *ℤ c)) (λ n n' a a' b b' c c'. simp (diff-add, diff-mul) (diff-same _ _ _ _ (omega arith)))

-- a coordinate of a weighted sum, so many times
pub weighted_times : (a n x r : ℤ) → a *ℤ ((n *ℤ x) +ℤ r) ≡ (n *ℤ (a *ℤ x)) +ℤ (a *ℤ r)
weighted_times = over4 (λ a n x r. a *ℤ ((n *ℤ x) +ℤ r) ≡ (n *ℤ (a *ℤ x)) +ℤ (a *ℤ r)) (λ a a' n n' x x' r r'. simp (diff-add, diff-mul) (diff-same _ _ _ _ (omega arith)))

pub weighted_turned : (a n y r : ℤ) → a *ℤ neg_ℤ ((n *ℤ y) +ℤ r) ≡ (n *ℤ (a *ℤ neg_ℤ y)) +ℤ (a *ℤ neg_ℤ r)
weighted_turned =
    over4 (λ a n y r. a *ℤ neg_ℤ ((n *ℤ y) +ℤ r) ≡ (n *ℤ (a *ℤ neg_ℤ y)) +ℤ (a *ℤ neg_ℤ r)) (λ a a' n n' y y' r r'. simp (diff-add, diff-mul, diff-neg) (diff-same _ _ _ _ (omega arith)))

-- n (x + w) less m w, and for y, which goes upwards
pub right_sum : (n m x w : ℤ) → (n *ℤ x) +ℤ ((n -ℤ m) *ℤ w) ≡ (n *ℤ (x +ℤ w)) -ℤ (m *ℤ w)
right_sum = over4 (λ n m x w. (n *ℤ x) +ℤ ((n -ℤ m) *ℤ w) ≡ (n *ℤ (x +ℤ w)) -ℤ (m *ℤ w)) (λ n n' m m' x x' w w'. simp (diff-add, diff-sub, diff-mul) (diff-same _ _ _ _ (omega arith)))

pub left_sum : (n m x w : ℤ) → (neg_ℤ n *ℤ x) +ℤ ((m -ℤ n) *ℤ w) ≡ (m *ℤ w) -ℤ (n *ℤ (x +ℤ w))
left_sum =
    over4 (λ n m x w. (neg_ℤ n *ℤ x) +ℤ ((m -ℤ n) *ℤ w) ≡ (m *ℤ w) -ℤ (n *ℤ (x +ℤ w))) (λ n n' m m' x x' w w'. simp (diff-add, diff-mul, diff-neg) (diff-same _ _ _ _ (omega arith)))

pub lower_sum : (n m y w : ℤ) → (n *ℤ neg_ℤ y) +ℤ ((n -ℤ m) *ℤ w) ≡ (n *ℤ (w -ℤ y)) -ℤ (m *ℤ w)
lower_sum =
    over4 (λ n m y w. (n *ℤ neg_ℤ y) +ℤ ((n -ℤ m) *ℤ w) ≡ (n *ℤ (w -ℤ y)) -ℤ (m *ℤ w)) (λ n n' m m' y y' w w'. simp (diff-add, diff-mul, diff-neg) (diff-same _ _ _ _ (omega arith)))

pub upper_sum : (n m y w : ℤ) → (neg_ℤ n *ℤ neg_ℤ y) +ℤ ((m -ℤ n) *ℤ w) ≡ (m *ℤ w) -ℤ (n *ℤ (w -ℤ y))
upper_sum =
    over4 (λ n m y w. (neg_ℤ n *ℤ neg_ℤ y) +ℤ ((m -ℤ n) *ℤ w) ≡ (m *ℤ w) -ℤ (n *ℤ (w -ℤ y))) (λ n n' m m' y y' w w'. simp (diff-add, diff-mul, diff-neg) (diff-same _ _ _ _ (omega arith)))
