-- Lanes of eight one by one.
use Rattle.std.proofs.Common.{◌≡◌, ℕ, ◌<◌, List, Bool, false, cond, map, length, get_or, replicate, refl, sym, ap, ◌∙◌, subst, arith, w32}
use Rattle.std.specs.Simd.Lanes.{zip2, sel_l, top, Each2}
use Rattle.std.proofs.lemmas.Simd.{tops_compared, get_or-zip2, length-zip2, get_or-replicate, get_or-sel_l, length-sel_l, Each2-splat, Each1-from_get_or}
use Rattle.lane_numbers.proofs.EightLanes.{each_pair}

-- an operation on two vectors
pub at_both : (f : ℕ → ℕ → ℕ) (xs ys : List ℕ) → length xs ≡ 8 → length ys ≡ 8 → (j : ℕ) → j < 8 → get_or (zip2 f xs ys) j 0 ≡ f (get_or xs j 0) (get_or ys j 0)
at_both f xs ys long long_ys j lt = get_or-zip2 f xs ys j 0 0 0 (omega (arith, long, lt)) (omega (arith, long_ys, lt))

pub long_both : (f : ℕ → ℕ → ℕ) (xs ys : List ℕ) → length xs ≡ 8 → length ys ≡ 8 → length (zip2 f xs ys) ≡ 8
long_both f xs ys long long_ys = length-zip2 f xs ys (long ∙ sym long_ys) ∙ long

pub pairs : (R : ℕ → ℕ → Type 0) (xs ys : List ℕ) → length xs ≡ 8 → ((j : ℕ) → j < 8 → R (get_or xs j 0) (get_or ys j 0)) → Each2 R xs ys
pairs R xs ys long h = each_pair R xs ys (λ j lt. h j (subst (λ (n : ℕ). j < n) long lt))

-- and on one and the same number in each lane
pub at_same : (f : ℕ → ℕ → ℕ) (xs : List ℕ) (y : ℕ) → length xs ≡ 8 → (j : ℕ) → j < 8 → get_or (zip2 f xs (replicate 8 y)) j 0 ≡ f (get_or xs j 0) y
at_same f xs y long j lt = at_both f xs (replicate 8 y) long refl j lt ∙ ap (λ (b : ℕ). f (get_or xs j 0) b) (get_or-replicate 8 j y 0 lt)

pub long_same : (f : ℕ → ℕ → ℕ) (xs : List ℕ) (y : ℕ) → length xs ≡ 8 → length (zip2 f xs (replicate 8 y)) ≡ 8
long_same f xs y long = long_both f xs (replicate 8 y) long refl

pub pairs_same : (R : ℕ → ℕ → Type 0) (xs : List ℕ) (y : ℕ) → length xs ≡ 8 → ((j : ℕ) → j < 8 → R (get_or xs j 0) y) → Each2 R xs (replicate 8 y)
pairs_same R xs y long h = Each2-splat R xs 8 y (Each1-from_get_or (λ a. R a y) xs 0 (λ j lt. h j (subst (λ (n : ℕ). j < n) long lt)))

-- the lanes of us where a test of xs and ys holds, and else those of vs
abbrev pub chosen : (ℕ → ℕ → Bool) → List ℕ → List ℕ → List ℕ → List ℕ → List ℕ
chosen t xs ys us vs = sel_l (map (top 31) (zip2 (λ a b. cond (t a b) 4294967295 0) xs ys)) us vs

pub long_chosen : (t : ℕ → ℕ → Bool) (xs ys us vs : List ℕ) → length xs ≡ 8 → length ys ≡ 8 → length us ≡ 8 → length vs ≡ 8 → length (chosen t xs ys us vs) ≡ 8
long_chosen t xs ys us vs hx hy hu hv =
    let told : length (zip2 t xs ys) ≡ 8 = length-zip2 t xs ys (hx ∙ sym hy) ∙ hx in
    ap (λ ms. length (sel_l ms us vs)) (tops_compared w32 t xs ys) ∙ length-sel_l (zip2 t xs ys) us vs (told ∙ sym hu) (told ∙ sym hv) ∙ told

pub at_chosen : (t : ℕ → ℕ → Bool) (xs ys us vs : List ℕ) → length xs ≡ 8 → length ys ≡ 8 → length us ≡ 8 → length vs ≡ 8 → (i : ℕ) → i < 8 →
    get_or (chosen t xs ys us vs) i 0 ≡ cond (t (get_or xs i 0) (get_or ys i 0)) (get_or us i 0) (get_or vs i 0)
at_chosen t xs ys us vs hx hy hu hv i lt =
    let told : length (zip2 t xs ys) ≡ 8 = length-zip2 t xs ys (hx ∙ sym hy) ∙ hx in
    ap (λ ms. get_or (sel_l ms us vs) i 0) (tops_compared w32 t xs ys)
    ∙ get_or-sel_l (zip2 t xs ys) us vs i 0 (omega arith) (omega arith) (omega arith)
    ∙ ap (λ b. cond b (get_or us i 0) (get_or vs i 0)) (get_or-zip2 t xs ys i 0 0 false (omega arith) (omega arith))
