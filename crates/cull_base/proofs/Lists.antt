-- Lists of which one place changes, and lists that end one place later.
use Rattle.std.proofs.Common.{◌≡◌, ⊎_elim, ℕ, zero, suc, ◌+◌, ◌<◌, List, [], ◌∷◌, ◌++◌, drop, length, set, get_or, Some, sym, ap, ◌∙◌, subst, arith, length-append, length-drop, below_more}
use Rattle.std.specs.Prelude.{slice_get, slice_index_or}
use Rattle.std.proofs.lemmas.List.{get_or_push, get_or_append_left, get_or-set_same, get_or-set_other, drop_more}
use Rattle.std.proofs.lemmas.Option.{slice_get-get_or}
use Rattle.std.proofs.lemmas.Bool.{cases_eq}
use mathlib.Core.Option.{some, some-ne-none, some-injective}
use lib.ListN.{get_elem?}

pub set_each : {X : Type 0} (P : ℕ → X → Type 0) (xs : List X) (t : ℕ) (x : X) (n : ℕ) → t < length xs → ((k : ℕ) (d : X) → k < n → (k ≡ t → ⊥) → P k (slice_index_or xs k d)) → P t x
    → (k : ℕ) (d : X) → k < n → P k (slice_index_or (set xs t x) k d)
set_each P xs t x n lt old new k d h =
    ⊎_elim (λ (e : k ≡ t). subst (λ z. P z (slice_index_or (set xs t x) z d)) (sym e) (subst (P t) (sym (get_or-set_same xs t x d lt)) new))
    (λ (ne : k ≡ t → ⊥). subst (P k) (sym (get_or-set_other xs t k x d ne)) (old k d h ne)) (cases_eq k t)

-- what a push adds, read by place
pub pushed_at : {X : Type 0} (P : ℕ → X → Type 0) (n : ℕ) (xs : List X) (y : X) → length xs ≡ n → ((t : ℕ) (d : X) → t < n → P t (slice_index_or xs t d)) → P n y → (t : ℕ) (d : X) → t < n + 1 → P t (slice_index_or (xs ++ y ∷ []) t d)
pushed_at P n xs y len old new t d h = below_more (λ t. P t (slice_index_or (xs ++ y ∷ []) t d)) n
    (λ k lt. subst (P k) (sym (get_or_append_left xs (y ∷ []) d k (omega arith))) (old k d lt))
    (subst (P n) (sym (get_or_push xs y d n len)) new) t h

pub get_pushed : {X : Type 0} (xs : List X) (y : X) (t : ℕ) → t < length xs → slice_get (xs ++ y ∷ []) t ≡ slice_get xs t
get_pushed xs y t lt = slice_get-get_or (xs ++ y ∷ []) t y (omega (arith, length-append xs (y ∷ []))) ∙ ap Some (get_or_append_left xs (y ∷ []) y t lt) ∙ sym (slice_get-get_or xs t y lt)

pub get_last : {X : Type 0} (xs : List X) (y : X) (n : ℕ) → length xs ≡ n → slice_get (xs ++ y ∷ []) n ≡ Some y
get_last xs y n is = slice_get-get_or (xs ++ y ∷ []) n y (omega (arith, length-append xs (y ∷ []))) ∙ ap Some (get_or_push xs y y n is)

-- the turn of a loop over a Vec by value: what is left is the list from place i on
abbrev head_or : {X : Type 0} → X → List X → X
head_or d [] = d
head_or d (x ∷ xs) = x

abbrev tail_of : {X : Type 0} → List X → List X
tail_of [] = []
tail_of (x ∷ xs) = xs

pub turn : {X : Type 0} (xs : List X) (i : ℕ) (x : X) (ys : List X) → drop i xs ≡ x ∷ ys → (ys ≡ drop (i + 1) xs) × (x ≡ slice_index_or xs i x) × (i < length xs)
turn xs i x ys e =
    let lt : i < length xs = omega (arith, length-drop i xs, ap length e) in
    let both : get_or xs i x ∷ drop (i + 1) xs ≡ x ∷ ys = sym (drop_more xs i x lt) ∙ e in
    (sym (ap tail_of both), sym (ap (head_or x) both), lt)

-- A loop over a Vec by value after so many elements: its iterator goes on and ends, it holds the others, and two facts
-- hold of what the loop has made.
abbrev pub GoesOver : {X : Type 0} → Type 0 → Type 0 → List X → ℕ → List X → ℕ → Type 0 → Type 0 → Type 0
GoesOver can_next is_finite items done others count P Q =
    can_next × is_finite × (others ≡ drop done items) × (done + count ≡ length items) × P × Q

-- the one element of a list
pub only_one : {X : Type 0} (one : X) (xs : List X) (by : ℕ) (x : X) → xs ≡ one ∷ [] → get_elem? xs by ≡ some x → one ≡ x
only_one {X} one xs by x is at = go by (subst (λ (l : List X). get_elem? l by ≡ some x) is at)
  where
    go : (by : ℕ) → get_elem? (one ∷ []) by ≡ some x → one ≡ x
    go zero e = some-injective _ _ e
    go (suc by) e = absurd (some-ne-none x (sym e))
