-- What holds of two parts of a slice holds of the whole.
use Rattle.std.proofs.Common.{◌≡◌, ℕ, ◌+◌, ◌-◌, ◌<◌, List, ◌++◌, length, get_or, inl, inr, ◌⊎◌, ◌≤◌, arith, refl, sym, ap, ◌∙◌, subst}
use Rattle.std.proofs.lemmas.Bool.{cases_lt}
use Rattle.std.proofs.lemmas.List.{get_or_append_left, get_or-append_right, length-append}
use Rattle.side_by_side.specs.Shares.{EachFrom, EachBothFrom}

module _ {X : Type 0} (base : ℕ) (all xs ys : List X) (is : all ≡ xs ++ ys) where
  left : (k : ℕ) (d : X) → k < length xs → get_or all k d ≡ get_or xs k d
  left k d lt = ap (λ zs. get_or zs k d) is ∙ get_or_append_left xs ys d k lt

  pub first_part : (P : ℕ → X → Type 0) → EachFrom P base all → EachFrom P base xs
  first_part P each k d lt = subst (P (base + k)) (left k d lt) (each k d (omega (arith, lt, ap length is, length-append xs ys)))

  right : (k : ℕ) (d : X) → get_or all (length xs + k) d ≡ get_or ys k d
  right k d =
      let n : length xs + k - length xs ≡ k = omega arith in
      ap (λ zs. get_or zs (length xs + k) d) is ∙ get_or-append_right xs ys (length xs) (length xs + k) d refl (omega arith) ∙ ap (λ j. get_or ys j d) n

  pub second_part : (P : ℕ → X → Type 0) (up : ℕ) → up ≡ base + length xs → EachFrom P base all → EachFrom P up ys
  second_part P up e each k d lt =
      let at : base + (length xs + k) ≡ up + k = omega (arith, e) in
      subst (λ n. P n (get_or ys k d)) at (subst (P (base + (length xs + k))) (right k d) (each (length xs + k) d (omega (arith, lt, ap length is, length-append xs ys))))

-- and what holds of the elements before and after
module _ {X : Type 0} (R : ℕ → X → X → Type 0) (base up : ℕ) (all xs ys xs' ys' : List X) (is : all ≡ xs ++ ys) (len : length xs' ≡ length xs) (e : up ≡ base + length xs) where
  pub both_parts : EachBothFrom R base xs xs' → EachBothFrom R up ys ys' → EachBothFrom R base all (xs' ++ ys')
  both_parts front back = record { each = λ k d lt. by k d (cases_lt k (length xs)) (omega (arith, lt, ap length is, length-append xs ys)) }
    where
      by : (k : ℕ) (d : X) → (k < length xs) ⊎ (length xs ≤ k) → k < length xs + length ys → R (base + k) (get_or all k d) (get_or (xs' ++ ys') k d)
      by k d (inl before) lt =
          subst (λ x. R (base + k) x (get_or (xs' ++ ys') k d)) (sym (ap (λ zs. get_or zs k d) is ∙ get_or_append_left xs ys d k before))
          (subst (R (base + k) (get_or xs k d)) (sym (get_or_append_left xs' ys' d k (omega (arith, before, len)))) (front.each k d before))
      by k d (inr after) lt =
          let j = k - length xs in
          let at : up + j ≡ base + k = omega (arith, e, after) in
          let inside : j < length ys = omega (arith, lt, after) in
          let new : get_or (xs' ++ ys') k d ≡ get_or ys' j d = get_or-append_right xs' ys' (length xs) k d len after in
          subst (λ x. R (base + k) x (get_or (xs' ++ ys') k d)) (sym (ap (λ zs. get_or zs k d) is ∙ get_or-append_right xs ys (length xs) k d refl after))
          (subst (R (base + k) (get_or ys j d)) (sym new) (subst (λ n. R n (get_or ys j d) (get_or ys' j d)) at (back.each j d inside)))
