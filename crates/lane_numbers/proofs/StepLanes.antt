-- A step of Newton's method, lane by lane.
use Rattle.std.proofs.Common.{◌≡◌, ℕ, ◌+◌, ◌-◌, ◌*◌, ◌/◌, ◌%◌, ◌<◌, List, length, get_or, replicate, refl, sym, ap, ◌∙◌, subst, arith, w32, Fits}
use Rattle.std.specs.Simd.Lanes.{zip2, Each1, Each2}
use Rattle.std.proofs.lemmas.Simd.{get_or-zip2, length-zip2, get_or-replicate, Each1-get_or, below_from_Fits}
use Rattle.lane_numbers.specs.Reciprocals.{CanStep, newton}
use Rattle.lane_numbers.proofs.EightLanes.{each_pair}

-- ---- 2^32 less a number, as a difference that wraps

-- as it is computed
abbrev pub below_0 : ℕ → ℕ → ℕ
below_0 a b = (a + (4294967296 - b)) % 4294967296

pub left_long : (xs : List ℕ) → length xs ≡ 8 → length (zip2 below_0 (replicate 8 0) xs) ≡ 8
left_long xs long = length-zip2 below_0 (replicate 8 0) xs (sym long)

pub left_at : (xs : List ℕ) → length xs ≡ 8 → Each1 (Fits w32) xs → ((j : ℕ) → j < 8 → 0 < get_or xs j 0) → (j : ℕ) → j < 8 →
    get_or (zip2 below_0 (replicate 8 0) xs) j 0 ≡ 4294967296 - get_or xs j 0
left_at xs long fits some j lt =
    get_or-zip2 below_0 (replicate 8 0) xs j 0 0 0 lt (omega (arith, long, lt))
    ∙ ap (λ (a : ℕ). below_0 a (get_or xs j 0)) (get_or-replicate 8 j 0 0 lt)
    ∙ one (get_or xs j 0) (some j lt) (Each1-get_or (λ x. x < 4294967296) xs j 0 (omega (arith, long, lt)) (below_from_Fits w32 xs fits))
  where
    one : (x : ℕ) → 0 < x → x < 4294967296 → (0 + (4294967296 - x)) % 4294967296 ≡ 4294967296 - x
    one x h l = omega (arith, h, l)

-- ---- twice a number

pub twice_long : (xs : List ℕ) → length xs ≡ 8 → length (zip2 (λ a b. a + b) xs xs) ≡ 8
twice_long xs long = length-zip2 (λ a b. a + b) xs xs refl ∙ long

pub twice_fits : (xs : List ℕ) → length xs ≡ 8 → ((j : ℕ) → j < 8 → get_or xs j 0 < 2147483648) → Each2 (λ a b. Fits w32 (a + b)) xs xs
twice_fits xs long small =
    each_pair (λ a b. Fits w32 (a + b)) xs xs (λ j lt. one (get_or xs j 0) (small j (subst (λ (n : ℕ). j < n) long lt)))
  where
    one : (x : ℕ) → x < 2147483648 → Fits w32 (x + x)
    one x l = omega (arith, l)

pub twice_at : (xs : List ℕ) → length xs ≡ 8 → (j : ℕ) → j < 8 → get_or (zip2 (λ a b. a + b) xs xs) j 0 ≡ 2 * get_or xs j 0
twice_at xs long j lt = get_or-zip2 (λ a b. a + b) xs xs j 0 0 0 (omega (arith, long, lt)) (omega (arith, long, lt)) ∙ omega arith

-- ---- the step

-- upper halves of products
high_at : (xs ys zs : List ℕ) → length xs ≡ 8 → length ys ≡ 8 → zs ≡ zip2 (λ x y. x * y / 4294967296) xs ys → (j : ℕ) → j < 8 → get_or zs j 0 ≡ get_or xs j 0 * get_or ys j 0 / 4294967296
high_at xs ys zs long long_ys are j lt =
    ap (λ (l : List ℕ). get_or l j 0) are ∙ get_or-zip2 (λ x y. x * y / 4294967296) xs ys j 0 0 0 (omega (arith, long, lt)) (omega (arith, long_ys, lt))

pub products_positive : (ds gs ms : List ℕ) → length ds ≡ 8 → length gs ≡ 8 → ms ≡ zip2 (λ x y. x * y / 4294967296) ds gs →
    ((j : ℕ) → j < 8 → CanStep (get_or ds j 0) (get_or gs j 0)) → (j : ℕ) → j < 8 → 0 < get_or ms j 0
products_positive ds gs ms ld lg are good j lt = subst (λ (x : ℕ). 0 < x) (sym (high_at ds gs ms ld lg are j lt)) (good j lt).some

-- r s over 2^32
half_at : (ds gs ms ss hs : List ℕ) → length ds ≡ 8 → length gs ≡ 8 → length ss ≡ 8 → ms ≡ zip2 (λ x y. x * y / 4294967296) ds gs →
    ((j : ℕ) → j < 8 → get_or ss j 0 ≡ 4294967296 - get_or ms j 0) → hs ≡ zip2 (λ x y. x * y / 4294967296) gs ss → (j : ℕ) → j < 8 →
    get_or hs j 0 ≡ get_or gs j 0 * (4294967296 - get_or ds j 0 * get_or gs j 0 / 4294967296) / 4294967296
half_at ds gs ms ss hs ld lg ls are_ms are_ss are_hs j lt =
    high_at gs ss hs lg ls are_hs j lt
    ∙ ap (λ (s : ℕ). get_or gs j 0 * s / 4294967296) (are_ss j lt ∙ ap (λ (m : ℕ). 4294967296 - m) (high_at ds gs ms ld lg are_ms j lt))

pub halves_small : (ds gs ms ss hs : List ℕ) → length ds ≡ 8 → length gs ≡ 8 → length ss ≡ 8 → ms ≡ zip2 (λ x y. x * y / 4294967296) ds gs →
    ((j : ℕ) → j < 8 → get_or ss j 0 ≡ 4294967296 - get_or ms j 0) → hs ≡ zip2 (λ x y. x * y / 4294967296) gs ss →
    ((j : ℕ) → j < 8 → CanStep (get_or ds j 0) (get_or gs j 0)) → (j : ℕ) → j < 8 → get_or hs j 0 < 2147483648
halves_small ds gs ms ss hs ld lg ls are_ms are_ss are_hs good j lt =
    subst (λ (x : ℕ). x < 2147483648) (sym (half_at ds gs ms ss hs ld lg ls are_ms are_ss are_hs j lt))
    (small (get_or gs j 0 * (4294967296 - get_or ds j 0 * get_or gs j 0 / 4294967296)) (good j lt).fits)
  where
    small : (n : ℕ) → n < 9223372036854775808 → n / 4294967296 < 2147483648
    small n l = omega (arith, l)

pub step_at : (ds gs ms ss hs rs : List ℕ) → length ds ≡ 8 → length gs ≡ 8 → length ss ≡ 8 → ms ≡ zip2 (λ x y. x * y / 4294967296) ds gs →
    ((j : ℕ) → j < 8 → get_or ss j 0 ≡ 4294967296 - get_or ms j 0) → hs ≡ zip2 (λ x y. x * y / 4294967296) gs ss →
    ((j : ℕ) → j < 8 → get_or rs j 0 ≡ 2 * get_or hs j 0) → (j : ℕ) → j < 8 → get_or rs j 0 ≡ newton (get_or ds j 0) (get_or gs j 0)
step_at ds gs ms ss hs rs ld lg ls are_ms are_ss are_hs are_rs j lt =
    are_rs j lt ∙ ap (λ (x : ℕ). 2 * x) (half_at ds gs ms ss hs ld lg ls are_ms are_ss are_hs j lt)
