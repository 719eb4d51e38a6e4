-- Masks as lists: tests of a mask are tests of its samples, and a mask is given back by them.
use Rattle.std.proofs.Common.{◌≡◌, ℕ, zero, suc, ◌+◌, ◌-◌, ◌*◌, ◌/◌, ◌%◌, ◌<◌, ◌^◌, List, [], ◌∷◌, Bool, true, false, ◌&&◌, ◌||◌, not, cond, length, nat_eq, arith, refl, ap, ◌∙◌, sym, bit_and, bit_or, min, max, ◌≢◌}
use Rattle.std.specs.Simd.Lanes.{mask_l}
use Rattle.std.proofs.lemmas.Bool.{both_ways}
use Rattle.std.proofs.lemmas.Bool.Decides.{nat_tests}
use Rattle.std.proofs.lemmas.Nat.{or_shr, and_shr}
use Rattle.std.proofs.lemmas.Nat.Bits.{bit_at_or, bit_at_and, bit_at_lowest}
use Rattle.cull_base.specs.State.{bits, is_none, is_all, union, has, samples_of, no_samples}

or_low : (a b c : ℕ) → c ≡ max a b → a < 2 → b < 2 → nat_eq c 1 ≡ (nat_eq a 1 || nat_eq b 1)
or_low a b c e p q = grind (arith, nat_tests)

or_lowest : (m c : ℕ) → bit_or m c % 2 ≡ max (m % 2) (c % 2)
or_lowest m c = sym (bit_at_lowest (bit_or m c)) ∙ bit_at_or m c 0 ∙ rw (bit_at_lowest m, bit_at_lowest c)

or_half : (m c : ℕ) → bit_or m c / 2 ≡ bit_or (m / 2) (c / 2)
or_half m c = or_shr m c 1

bits-or : (k m c : ℕ) → bits k (bit_or m c) ≡ union (bits k m) (bits k c)
bits-or zero m c = refl
bits-or (suc k) m c =
    let low = or_low (m % 2) (c % 2) (bit_or m c % 2) (or_lowest m c) (omega arith) (omega arith) in
    let rest = bits-or k (m / 2) (c / 2) in
    let half = or_half m c in
    rw (low, half, rest)

none-bits : (k n : ℕ) → n < 2 ^ k → is_none (bits k n) ≡ nat_eq n 0
none-bits zero n h = grind (arith, nat_tests)
none-bits (suc k) n h =
    let half : n / 2 < 2 ^ k = omega arith in
    let e = none-bits k (n / 2) half in
    rw e (none_step n (n % 2) (n / 2) (omega arith) (omega arith))
  where
    none_step : (n r q : ℕ) → n ≡ 2 * q + r → r < 2 → (not (nat_eq r 1) && nat_eq q 0) ≡ nat_eq n 0
    none_step n r q e h = grind (arith, nat_tests)

all-bits : (k n : ℕ) → n < 2 ^ k → is_all (bits k n) ≡ nat_eq n (2 ^ k - 1)
all-bits zero n h = grind (arith, nat_tests)
all-bits (suc k) n h =
    let half : n / 2 < 2 ^ k = omega arith in
    let e = all-bits k (n / 2) half in
    rw e (all_step n (n % 2) (n / 2) (2 ^ k) (2 ^ suc k) (omega arith) (omega arith) (omega arith) (omega arith))
  where
    all_step : (n r q p t : ℕ) → n ≡ 2 * q + r → r < 2 → q < p → t ≡ 2 * p → (nat_eq r 1 && nat_eq q (p - 1)) ≡ nat_eq n (t - 1)
    all_step n r q p t e h l w = grind (arith, nat_tests)

pub none-samples_of : (m : ℕ) → m < 2 ^ 32 → is_none (samples_of m) ≡ nat_eq m 0
unfolding samples_of
none-samples_of m h = none-bits 32 m h

pub all-samples_of : (m : ℕ) → m < 2 ^ 32 → is_all (samples_of m) ≡ nat_eq m 4294967295
unfolding samples_of
all-samples_of m h = all-bits 32 m h

pub samples_of-or : (m c : ℕ) → samples_of (bit_or m c) ≡ union (samples_of m) (samples_of c)
unfolding samples_of
samples_of-or m c = bits-or 32 m c

pub length-samples_of : (m : ℕ) → length (samples_of m) ≡ 32
unfolding samples_of
length-samples_of m = refl

and_low : (a b c : ℕ) → c ≡ min a b → a < 2 → b < 2 → nat_eq c 1 ≡ (nat_eq a 1 && nat_eq b 1)
and_low a b c e p q = grind (arith, nat_tests)

and_lowest : (m c : ℕ) → bit_and m c % 2 ≡ min (m % 2) (c % 2)
and_lowest m c = sym (bit_at_lowest (bit_and m c)) ∙ bit_at_and m c 0 ∙ rw (bit_at_lowest m, bit_at_lowest c)

has-bits-and : (n m c k : ℕ) → has (bits n (bit_and m c)) k ≡ (has (bits n m) k && has (bits n c) k)
has-bits-and zero m c k = refl
has-bits-and (suc n) m c zero = and_low (m % 2) (c % 2) (bit_and m c % 2) (and_lowest m c) (omega arith) (omega arith)
has-bits-and (suc n) m c (suc k) = let half = and_shr m c 1 in let rest = has-bits-and n (m / 2) (c / 2) k in rw (half, rest)

has-bits-not : (n m k : ℕ) → m < 2 ^ n → k < n → has (bits n (2 ^ n - 1 - m)) k ≡ not (has (bits n m) k)
has-bits-not zero m k h l = absurd (omega arith)
has-bits-not (suc n) m zero h l = not_low (m % 2) ((2 ^ suc n - 1 - m) % 2) (omega arith) (omega arith)
  where
    not_low : (a c : ℕ) → a < 2 → c ≡ 1 - a → nat_eq c 1 ≡ not (nat_eq a 1)
    not_low a c h e = grind (arith, nat_tests)
has-bits-not (suc n) m (suc k) h l =
    let half : (2 ^ suc n - 1 - m) / 2 ≡ 2 ^ n - 1 - m / 2 = omega arith in
    let rest = has-bits-not n (m / 2) k (omega arith) (omega arith) in
    rw (half, rest)

pub has-and : (m c k : ℕ) → has (samples_of (bit_and m c)) k ≡ (has (samples_of m) k && has (samples_of c) k)
unfolding samples_of
has-and m c k = has-bits-and 32 m c k

pub has-not : (m k : ℕ) → m < 2 ^ 32 → k < 32 → has (samples_of (4294967295 - m)) k ≡ not (has (samples_of m) k)
unfolding samples_of
has-not m k h l = has-bits-not 32 m k h l

pub has-none : (xs : List Bool) (k : ℕ) → is_none xs ≡ true → has xs k ≡ false
has-none [] k e = refl
has-none (false ∷ xs) zero e = refl
has-none (false ∷ xs) (suc k) e = has-none xs k e
has-none (true ∷ xs) k e = cc

-- a set that isn't empty has a sample
pub one_of : (xs : List Bool) → is_none xs ≡ false → (k : ℕ) × (k < length xs) × (has xs k ≡ true)
one_of [] e = cc
one_of (true ∷ xs) e = (0, omega arith, refl)
one_of (false ∷ xs) e = let r = one_of xs e in (suc r.0, omega arith, r.2)

pub zero_has : (m k : ℕ) → m ≡ 0 → has (samples_of m) k ≡ false
zero_has m k e = let n = none-samples_of 0 (omega arith) in rw e (has-none (samples_of 0) k n)

pub some_has : (m : ℕ) → m < 2 ^ 32 → m ≢ 0 → (k : ℕ) × (k < 32) × (has (samples_of m) k ≡ true)
some_has m h ne =
    let n = none-samples_of m h in
    let z : nat_eq m 0 ≡ false = grind (arith, nat_tests) in
    let r = one_of (samples_of m) (n ∙ z) in
    let len = length-samples_of m in
    (r.0, omega arith, r.2)

pub has-all : (xs : List Bool) (k : ℕ) → is_all xs ≡ true → k < length xs → has xs k ≡ true
has-all [] k e l = absurd (omega arith)
has-all (true ∷ xs) zero e l = refl
has-all (true ∷ xs) (suc k) e l = has-all xs k e (omega arith)
has-all (false ∷ xs) k e l = cc

pub has-union : (xs ys : List Bool) (k : ℕ) → length xs ≡ length ys → has (union xs ys) k ≡ (has xs k || has ys k)
has-union [] [] k e = refl
has-union [] (y ∷ ys) k e = absurd (omega arith)
has-union (x ∷ xs) [] k e = absurd (omega arith)
has-union (x ∷ xs) (y ∷ ys) zero e = refl
has-union (x ∷ xs) (y ∷ ys) (suc k) e = has-union xs ys k (omega arith)

pub length-union : (xs ys : List Bool) → length xs ≡ length ys → length (union xs ys) ≡ length xs
length-union [] [] e = refl
length-union [] (y ∷ ys) e = absurd (omega arith)
length-union (x ∷ xs) [] e = absurd (omega arith)
length-union (x ∷ xs) (y ∷ ys) e = ap suc (length-union xs ys (omega arith))

-- of two sets of 32 samples, the joined one isn't empty where the second isn't
pub union_some : (xs ys : List Bool) → length xs ≡ length ys → is_none ys ≡ false → is_none (union xs ys) ≡ false
union_some [] [] e some = some
union_some [] (y ∷ ys) e some = absurd (omega arith)
union_some (x ∷ xs) [] e some = absurd (omega arith)
union_some (true ∷ xs) (y ∷ ys) e some = refl
union_some (false ∷ xs) (true ∷ ys) e some = refl
union_some (false ∷ xs) (false ∷ ys) e some = union_some xs ys (omega arith) some

-- a set that has a sample isn't empty
pub some-has : (xs : List Bool) (k : ℕ) → has xs k ≡ true → is_none xs ≡ false
some-has xs k e = by (is_none xs) refl
  where
    by : (b : Bool) → is_none xs ≡ b → b ≡ false
    by true n = absurd (both_ways (has xs k) (has-none xs k n) e)
    by false n = refl

pub none-no_samples : is_none no_samples ≡ true
none-no_samples = none-samples_of 0 (omega arith)

pub has-no_samples : (k : ℕ) → has no_samples k ≡ false
has-no_samples k = has-none no_samples k none-no_samples

pub length-no_samples : length no_samples ≡ 32
length-no_samples = length-samples_of 0

lowest_bit : (n m : ℕ) → n % 2 ≡ m → m < 2 → cond (nat_eq m 1) 1 0 + 2 * (n / 2) ≡ n
lowest_bit n m e h = grind (arith, nat_tests)

mask_l-bits : (k n : ℕ) → n < 2 ^ k → mask_l (bits k n) ≡ n
mask_l-bits zero n h = omega arith
mask_l-bits (suc k) n h =
    let half : n / 2 < 2 ^ k = omega arith in
    ap (λ t. cond (nat_eq (n % 2) 1) 1 0 + 2 * t) (mask_l-bits k (n / 2) half) ∙ lowest_bit n (n % 2) refl (omega arith)

-- a mask is given back by its samples
pub mask_l-samples_of : (m : ℕ) → m < 2 ^ 32 → mask_l (samples_of m) ≡ m
unfolding samples_of
mask_l-samples_of m h = mask_l-bits 32 m h
