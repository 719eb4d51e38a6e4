-- Lists that are weighed.
use Rattle.std.proofs.Common.{get_or, ◌<◌, ◌≡◌, ◌≢◌, ℕ, zero, suc, ◌+◌, ◌≤◌, List, [], ◌∷◌, ◌++◌, length, set, refl, sym, ap, arith}
use mathlib.Core.Option.{some, some-ne-none, some-injective}
use lib.ListN.{get_elem?}
use Rattle.steal_pool.specs.Counted.{HasNone, HasOne}
use Rattle.steal_pool.specs.DequeRule.{weigh, places}

module _ {A : Type 0} where
  pub weigh_append : (f : A → ℕ) (xs ys : List A) → weigh f (xs ++ ys) ≡ weigh f xs + weigh f ys
  weigh_append f [] ys = omega arith
  weigh_append f (x ∷ xs) ys = let e = weigh_append f xs ys in omega arith

  pub weigh_one : (f : A → ℕ) (xs : List A) (a : A) → weigh f (xs ++ a ∷ []) ≡ weigh f xs + f a
  weigh_one f xs a = let e = weigh_append f xs (a ∷ []) in omega arith

  -- after a change of one member
  pub weigh_set : (f : A → ℕ) (l : List A) (i : ℕ) (v w : A) → get_elem? l i ≡ some v → weigh f (set l i w) + f v ≡ weigh f l + f w
  weigh_set f [] i v w e = absurd (some-ne-none v (sym e))
  weigh_set f (x ∷ xs) zero v w e = let s : f x ≡ f v = ap f (some-injective x v e) in omega arith
  weigh_set f (x ∷ xs) (suc i) v w e = let s = weigh_set f xs i v w e in omega arith

  -- one member weighs no more than all
  pub weigh_at : (f : A → ℕ) (l : List A) (i : ℕ) (v : A) → get_elem? l i ≡ some v → f v ≤ weigh f l
  weigh_at f [] i v e = absurd (some-ne-none v (sym e))
  weigh_at f (x ∷ xs) zero v e = let s : f x ≡ f v = ap f (some-injective x v e) in omega arith
  weigh_at f (x ∷ xs) (suc i) v e = let s = weigh_at f xs i v e in omega arith

  pub weigh_none : (f : A → ℕ) (l : List A) → ((j : ℕ) (u : A) → get_elem? l j ≡ some u → f u ≡ 0) → weigh f l ≡ 0
  weigh_none f [] n = refl
  weigh_none f (x ∷ xs) n = let a : f x ≡ 0 = n 0 x refl in let b = weigh_none f xs (λ j u e. n (suc j) u e) in omega arith

  -- where no other member has a weight
  pub weigh_alone : (f : A → ℕ) (l : List A) (i : ℕ) (v : A) → get_elem? l i ≡ some v → ((j : ℕ) (u : A) → j ≢ i → get_elem? l j ≡ some u → f u ≡ 0) → weigh f l ≡ f v
  weigh_alone f [] i v e n = absurd (some-ne-none v (sym e))
  weigh_alone f (x ∷ xs) zero v e n =
      let s : f x ≡ f v = ap f (some-injective x v e) in
      let r = weigh_none f xs (λ j u a. n (suc j) u (λ h. omega arith) a) in
      omega arith
  weigh_alone f (x ∷ xs) (suc i) v e n =
      let a : f x ≡ 0 = n 0 x (λ h. omega arith) refl in
      let r = weigh_alone f xs i v e (λ j u ne at. n (suc j) u (λ h. ne (omega arith)) at) in
      omega arith

  -- where all weigh nothing, each does
  pub each_none : (f : A → ℕ) (l : List A) → weigh f l ≡ 0 → HasNone f l
  each_none f [] e j d lt = absurd (omega arith)
  each_none f (x ∷ xs) e zero d lt = omega (arith, e)
  each_none f (x ∷ xs) e (suc j) d lt = each_none f xs (omega (arith, e)) j d (omega (arith, lt))

  first_none : (f : A → ℕ) (x : A) (xs : List A) (at : ℕ) → f x ≡ 0 → ((j : ℕ) (d : A) → j < length xs → (j ≡ at → ⊥) → f (get_or xs j d) ≡ 0) → (j : ℕ) (d : A) → j < length (x ∷ xs) → (j ≡ suc at → ⊥) → f (get_or (x ∷ xs) j d) ≡ 0
  first_none f x xs at none rest zero d lt ne = none
  first_none f x xs at none rest (suc j) d lt ne = rest j d (omega (arith, lt)) (λ e. ne (ap suc e))

  rest_none : (f : A → ℕ) (x : A) (xs : List A) → weigh f xs ≡ 0 → (j : ℕ) (d : A) → j < length (x ∷ xs) → (j ≡ 0 → ⊥) → f (get_or (x ∷ xs) j d) ≡ 0
  rest_none f x xs e zero d lt ne = absurd (ne refl)
  rest_none f x xs e (suc j) d lt ne = each_none f xs e j d (omega (arith, lt))

  one_step : (f : A → ℕ) (x : A) (xs : List A) (n : ℕ) → f x ≡ n → f x + weigh f xs ≡ 1 → (weigh f xs ≡ 1 → HasOne f xs) → HasOne f (x ∷ xs)
  one_step f x xs zero is e rest =
      let r = rest (omega (arith, is, e)) in
      record { at = suc r.at; within = (let lt = r.within in omega (arith, lt)); once = r.once; others = first_none f x xs r.at is r.others }
  one_step f x xs (suc n) is e rest = record { at = 0; within = omega arith; once = λ d. omega (arith, is, e); others = rest_none f x xs (omega (arith, is, e)) }

  -- where all weigh 1 together, one does
  pub only_one : (f : A → ℕ) (l : List A) → weigh f l ≡ 1 → HasOne f l
  only_one f [] e = absurd (omega (arith, e))
  only_one f (x ∷ xs) e = one_step f x xs (f x) refl e (λ r. only_one f xs r)

  pub weigh_length : (l : List A) → weigh (λ (a : A). 1) l ≡ length l
  weigh_length [] = refl
  weigh_length (x ∷ xs) = let e = weigh_length xs in omega arith

-- one place more
pub weigh_places : (h : ℕ × ℕ → ℕ) (n : ℕ) (bs : List ℕ) (b : ℕ) → weigh h (places n (bs ++ b ∷ [])) ≡ weigh h (places n bs) + h (n + length bs, b)
weigh_places h n [] b = let e : h (n, b) ≡ h (n + 0, b) = ap (λ (m : ℕ). h (m, b)) (omega arith) in omega arith
weigh_places h n (x ∷ bs) b =
    let s = weigh_places h (suc n) bs b in
    let e : h (suc n + length bs, b) ≡ h (n + suc (length bs), b) = ap (λ (m : ℕ). h (m, b)) (omega arith) in
    omega arith

pub places_length : (n : ℕ) (bs : List ℕ) → length (places n bs) ≡ length bs
places_length n [] = refl
places_length n (b ∷ bs) = ap suc (places_length (suc n) bs)

-- where a weight looks at bins alone
pub weigh_bins : (k : ℕ → ℕ) (n : ℕ) (bs : List ℕ) → weigh (λ (p : ℕ × ℕ). k p.1) (places n bs) ≡ weigh k bs
weigh_bins k n [] = refl
weigh_bins k n (b ∷ bs) = let e = weigh_bins k (suc n) bs in omega arith

pub weigh_each : {A : Type 0} (f : A → ℕ) (l l' : List A) → length l' ≡ length l → ((i : ℕ) (d : A) → i < length l → f (get_or l' i d) ≡ f (get_or l i d)) → weigh f l' ≡ weigh f l
weigh_each f [] [] e h = refl
weigh_each f [] (y ∷ ys) e h = absurd (omega arith)
weigh_each f (x ∷ xs) [] e h = absurd (omega arith)
weigh_each f (x ∷ xs) (y ∷ ys) e h =
    let a : f y ≡ f x = h 0 x (omega arith) in
    let b = weigh_each f xs ys (omega arith) (λ i d lt. h (suc i) d (omega arith)) in
    omega arith

pub weigh_zero : {A : Type 0} (f : A → ℕ) (l : List A) → ((i : ℕ) (d : A) → i < length l → f (get_or l i d) ≡ 0) → weigh f l ≡ 0
weigh_zero f [] h = refl
weigh_zero f (x ∷ xs) h = let a : f x ≡ 0 = h 0 x (omega arith) in let b = weigh_zero f xs (λ i d lt. h (suc i) d (omega arith)) in omega arith

pub weigh_pairs : {A : Type 0} (f g : A → ℕ) (l : List A) → ((i : ℕ) (d : A) → i < length l → f (get_or l i d) ≡ g (get_or l i d)) → weigh f l ≡ weigh g l
weigh_pairs f g [] h = refl
weigh_pairs f g (x ∷ xs) h = let a : f x ≡ g x = h 0 x (omega arith) in let b = weigh_pairs f g xs (λ i d lt. h (suc i) d (omega arith)) in omega arith

pub weigh_both : {A : Type 0} (f g h : A → ℕ) (l : List A) → ((i : ℕ) (d : A) → i < length l → f (get_or l i d) ≡ g (get_or l i d) + h (get_or l i d)) → weigh f l ≡ weigh g l + weigh h l
weigh_both f g h [] e = refl
weigh_both f g h (x ∷ xs) e = let a : f x ≡ g x + h x = e 0 x (omega arith) in let b = weigh_both f g h xs (λ i d lt. e (suc i) d (omega arith)) in omega arith
