-- Lists joined over numbers that follow one another.
use Rattle.std.proofs.Common.{◌≡◌, ℕ, zero, suc, ◌+◌, ◌<◌, ◌++◌, List, append_assoc, arith, refl, ap, sym, ◌∙◌}
use Rattle.std.specs.List.{flat_map, range_with_len}
use Rattle.std.proofs.lemmas.List.{append-nil}

-- over some numbers, and over the next ones
pub joined : {A : Type 0} (f : ℕ → List A) (a m n : ℕ) → flat_map f (range_with_len a (m + n)) ≡ flat_map f (range_with_len a m) ++ flat_map f (range_with_len (a + m) n)
joined {A} f a zero n =
    let e : zero + n ≡ n = omega arith in let b : a ≡ a + 0 = omega arith in
    ap (λ k. flat_map f (range_with_len a k)) e ∙ ap (λ k. flat_map f (range_with_len k n)) b
joined {A} f a (suc m) n =
    let e : suc m + n ≡ suc (m + n) = omega arith in
    let b : (a + 1) + m ≡ a + suc m = omega arith in
    ap (λ k. flat_map f (range_with_len a k)) e
    ∙ ap (λ (t : List A). f a ++ t) (joined f (a + 1) m n ∙ ap (λ k. flat_map f (range_with_len (a + 1) m) ++ flat_map f (range_with_len k n)) b)
    ∙ sym (append_assoc (f a) (flat_map f (range_with_len (a + 1) m)) (flat_map f (range_with_len (a + suc m) n)))

-- over one number more
pub joined_one : {A : Type 0} (f : ℕ → List A) (a n : ℕ) → flat_map f (range_with_len a (n + 1)) ≡ flat_map f (range_with_len a n) ++ f (a + n)
joined_one {A} f a n = joined f a n 1 ∙ ap (λ (t : List A). flat_map f (range_with_len a n) ++ t) (append-nil (f (a + n)))

-- what is the same at each number
pub alike : {A : Type 0} (f g : ℕ → List A) (a b n : ℕ) → ((k : ℕ) → k < n → f (a + k) ≡ g (b + k)) → flat_map f (range_with_len a n) ≡ flat_map g (range_with_len b n)
alike {A} f g a b zero same = refl
alike {A} f g a b (suc n) same =
    let x : a ≡ a + 0 = omega arith in let y : b + 0 ≡ b = omega arith in
    let first : f a ≡ g b = ap f x ∙ same 0 (omega arith) ∙ ap g y in
    let rest = alike f g (a + 1) (b + 1) n (λ k lt.
    let p : (a + 1) + k ≡ a + suc k = omega arith in let q : b + suc k ≡ (b + 1) + k = omega arith in
    ap f p ∙ same (suc k) (omega (arith, lt)) ∙ ap g q) in
    λ i. first i ++ rest i
