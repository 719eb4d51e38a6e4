-- Masks made of tests, one sample after the other.
use Rattle.std.proofs.Common.{◌≡◌, ℕ, zero, suc, ◌+◌, ◌*◌, ◌/◌, ◌%◌, ◌<◌, ◌^◌, ◌++◌, List, [], ◌∷◌, Bool, true, false, cond, nat_eq, length, map, arith, refl, ap, ap₂, ◌∙◌}
use Rattle.std.specs.List.{range_with_len}
use Rattle.std.specs.Simd.Lanes.{mask_l}
use Rattle.std.proofs.lemmas.List.FromFn.{length-map-range_with_len, get_or-map-range_with_len, map-range_with_len_more}
use Rattle.cull_base.specs.Piece.{each_sample}
use Rattle.cull_base.specs.State.{bits, samples_of, has}

pub bits-mask_l : (ms : List Bool) → bits (length ms) (mask_l ms) ≡ ms
bits-mask_l [] = refl
bits-mask_l (b ∷ bs) =
    let low = low_is b (mask_l bs) in
    let half = half_is b (mask_l bs) in
    let rest = bits-mask_l bs in
    rw (low, half, rest)
  where
    low_is : (x : Bool) (m : ℕ) → nat_eq ((cond x 1 0 + 2 * m) % 2) 1 ≡ x
    low_is true m = let e : (1 + 2 * m) % 2 ≡ 1 = omega arith in rw e refl
    low_is false m = let e : (0 + 2 * m) % 2 ≡ 0 = omega arith in rw e refl

    half_is : (x : Bool) (m : ℕ) → (cond x 1 0 + 2 * m) / 2 ≡ m
    half_is true m = omega arith
    half_is false m = omega arith

-- the mask of a list of 32 tests has these samples
pub samples_of-mask_l : (ms : List Bool) → length ms ≡ 32 → samples_of (mask_l ms) ≡ ms
unfolding samples_of
samples_of-mask_l ms e = let h = bits-mask_l ms in rw e at h

-- sample k of a mask that was made of 32 tests
pub has-samples_of-mask_l : (test : ℕ → Bool) (k : ℕ) → k < 32 → has (samples_of (mask_l (map test (range_with_len 0 32)))) k ≡ test k
has-samples_of-mask_l test k lt =
    ap (λ (ms : List Bool). has ms k) (samples_of-mask_l (map test (range_with_len 0 32)) (length-map-range_with_len test 0 32))
    ∙ get_or-map-range_with_len test 0 32 k k false lt (omega arith)

-- one test more
pub mask_l-push : (ms : List Bool) (b : Bool) → mask_l (ms ++ b ∷ []) ≡ mask_l ms + 2 ^ length ms * cond b 1 0
mask_l-push [] b = omega arith
mask_l-push (x ∷ xs) b = let e = mask_l-push xs b in rw e (doubled (cond x 1 0) (mask_l xs) (length xs) b)
  where
    doubled : (low m n : ℕ) (b : Bool) → low + 2 * (m + 2 ^ n * cond b 1 0) ≡ (low + 2 * m) + 2 ^ suc n * cond b 1 0
    doubled low m n true = omega arith
    doubled low m n false = omega arith

pub mask_l-more : (test : ℕ → Bool) (k : ℕ) → mask_l (map test (range_with_len 0 (k + 1))) ≡ mask_l (map test (range_with_len 0 k)) + 2 ^ k * cond (test k) 1 0
mask_l-more test k =
    let more : map test (range_with_len 0 (k + 1)) ≡ map test (range_with_len 0 k) ++ test k ∷ [] = map-range_with_len_more test 0 k k (omega arith) in
    let n : length (map test (range_with_len 0 k)) ≡ k = length-map-range_with_len test 0 k in
    rw more (mask_l-push (map test (range_with_len 0 k)) (test k) ∙ ap (λ (m : ℕ). mask_l (map test (range_with_len 0 k)) + 2 ^ m * cond (test k) 1 0) n)

-- functions that agree at each number below n
map-range : {X : Type 0} (f g : ℕ → X) (a n : ℕ) → ((k : ℕ) → k < a + n → f k ≡ g k) → map f (range_with_len a n) ≡ map g (range_with_len a n)
map-range f g a zero h = refl
map-range {X} f g a (suc n) h = ap₂ (λ x (xs : List X). x ∷ xs) (h a (omega arith)) (map-range f g (a + 1) n (λ k l. h k (omega arith)))

-- functions that agree at each sample
pub each_sample-same : {X : Type 0} (f g : ℕ → X) → ((k : ℕ) → k < 32 → f k ≡ g k) → each_sample f ≡ each_sample g
unfolding each_sample
each_sample-same f g h = map-range f g 0 32 (λ k l. h k (omega arith))

-- the samples of a mask of 32 tests are those tests
pub samples_of-mask_l_each : (test : ℕ → Bool) → samples_of (mask_l (each_sample test)) ≡ each_sample test
unfolding each_sample
samples_of-mask_l_each test = samples_of-mask_l (map test (range_with_len 0 32)) (length-map-range_with_len test 0 32)
