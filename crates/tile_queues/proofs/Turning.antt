-- A list whose elements change one after another.
use Rattle.std.proofs.Common.{◌≡◌, ℕ, ◌+◌, ◌<◌, ◌≤◌, List, length, get_or, set, length-set, arith, refl, sym, subst, ◌∙◌, below_more}
use Rattle.std.proofs.lemmas.List.{get_or-set_same, get_or-set_other}
use Rattle.cull_base.proofs.Lists.{set_each}

-- the first n elements changed so, and the others are as they were
pub record IsTurnedTo {X : Type 0} (P : X → Type 0) (R : X → X → Type 0) (old new : List X) (n : ℕ) : Type 0 where
  pub all : (i : ℕ) (d : X) → i < length new → P (get_or new i d)
  pub count : length new ≡ length old
  pub done : (i : ℕ) (d : X) → i < n → R (get_or old i d) (get_or new i d)
  pub left : (i : ℕ) (d : X) → n ≤ i → get_or new i d ≡ get_or old i d

module _ {X : Type 0} (P : X → Type 0) (R : X → X → Type 0) (old : List X) where
  pub none_turned : ((i : ℕ) (d : X) → i < length old → P (get_or old i d)) → IsTurnedTo P R old old 0
  none_turned all = record { all = all; count = refl; done = λ i d lt. absurd (omega (arith, lt)); left = λ i d le. refl }

  pub turned_more : (xs : List X) (n : ℕ) (y : X) → IsTurnedTo P R old xs n → n < length xs → P y → ((d : X) → R (get_or xs n d) y) → IsTurnedTo P R old (set xs n y) (n + 1)
  turned_more xs n y at lt holds changed =
      let long = length-set xs n y in
      record {
        all = λ i d below. set_each (λ _ x. P x) xs n y (length xs) lt (λ k e less other. at.all k e less) holds i d (omega (arith, below, long));
        count = long ∙ at.count;
        done = λ i d below. below_more (λ k. R (get_or old k d) (get_or (set xs n y) k d)) n
            (λ k less. subst (R (get_or old k d)) (sym (get_or-set_other xs n k y d (λ e. absurd (omega (arith, less, e))))) (at.done k d less))
            (subst (R (get_or old n d)) (sym (get_or-set_same xs n y d lt)) (subst (λ x. R x y) (at.left n d (omega arith)) (changed d))) i below;
        left = λ i d le. get_or-set_other xs n i y d (λ e. absurd (omega (arith, le, e))) ∙ at.left i d (omega (arith, le));
      }
