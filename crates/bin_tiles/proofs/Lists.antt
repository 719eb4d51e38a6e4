-- Lists of which each element has a property by its place.
use Rattle.std.proofs.Common.{◌≡◌, ℕ, ◌+◌, ◌<◌, List, [], ◌∷◌, ◌++◌, length, get_or, inl, inr, arith, sym, subst}
use Rattle.std.proofs.lemmas.Bool.{cases_lt}
use Rattle.std.proofs.lemmas.List.{get_or_push, get_or_append_left}

-- one element more, at the end, where elements are read with one value past the end
pushed_or : {X : Type 0} (P : ℕ → X → Type 0) (n : ℕ) (xs : List X) (y d : X) → length xs ≡ n → ((k : ℕ) → k < n → P k (get_or xs k d)) → P n y
    → (k : ℕ) → k < n + 1 → P k (get_or (xs ++ y ∷ []) k d)
pushed_or P n xs y d len old new k lt = elim (cases_lt k n) [
  | inl below ↦ subst (P k) (sym (get_or_append_left xs (y ∷ []) d k (omega (arith, below, len)))) (old k below)
  | inr last ↦ (let same : k ≡ n = omega (arith, lt, last) in subst (P k) (sym (get_or_push xs y d k (omega (arith, len, same)))) (subst (λ m. P m y) (sym same) new))
]

-- and with any
pub pushed_at : {X : Type 0} (P : ℕ → X → Type 0) (n : ℕ) (xs : List X) (y : X) → length xs ≡ n → ((k : ℕ) (d : X) → k < n → P k (get_or xs k d)) → P n y
    → (k : ℕ) (d : X) → k < n + 1 → P k (get_or (xs ++ y ∷ []) k d)
pushed_at P n xs y len old new k d lt = pushed_or P n xs y d len (λ j below. old j d below) new k lt
