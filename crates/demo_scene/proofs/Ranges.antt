-- Lists joined over the numbers from 0 on.
use Rattle.std.proofs.Common.{◌≡◌, ℕ, zero, suc, ◌+◌, ◌-◌, ◌<◌, ◌++◌, List, append_assoc, arith, ap, sym, ◌∙◌}
use Rattle.std.specs.List.{flat_map, range_with_len}
use Rattle.std.proofs.lemmas.List.{append-nil}

one_more : {A : Type 0} (f : ℕ → List A) (a k : ℕ) → flat_map f (range_with_len a (suc k)) ≡ flat_map f (range_with_len a k) ++ f (a + k)
one_more f a zero = let e : a ≡ a + 0 = omega arith in append-nil (f a) ∙ ap f e
one_more {A} f a (suc k) =
    let e : (a + 1) + k ≡ a + suc k = omega arith in
    ap (λ (t : List A). f a ++ t) (one_more f (a + 1) k ∙ ap (λ n. flat_map f (range_with_len (a + 1) k) ++ f n) e)
    ∙ sym (append_assoc (f a) (flat_map f (range_with_len (a + 1) k)) (f (a + suc k)))

-- one number more
pub flat_map-next : {A : Type 0} (f : ℕ → List A) (k : ℕ) → flat_map f (range_with_len 0 (k + 1)) ≡ flat_map f (range_with_len 0 k) ++ f k
flat_map-next {A} f k =
    let e : k + 1 ≡ suc k = omega arith in let z : 0 + k ≡ k = omega arith in
    ap (λ n. flat_map f (range_with_len 0 n)) e ∙ one_more f 0 k ∙ ap (λ n. flat_map f (range_with_len 0 k) ++ f n) z

begins : {A : Type 0} (f : ℕ → List A) (a m n : ℕ) → (rest : List A) × (flat_map f (range_with_len a (m + n)) ≡ flat_map f (range_with_len a m) ++ rest)
begins f a zero n = let e : zero + n ≡ n = omega arith in (flat_map f (range_with_len a n), ap (λ k. flat_map f (range_with_len a k)) e)
begins {A} f a (suc m) n =
    let (rest, e) = begins f (a + 1) m n in
    let k : suc m + n ≡ suc (m + n) = omega arith in
    (rest, ap (λ k. flat_map f (range_with_len a k)) k ∙ ap (λ (t : List A). f a ++ t) e ∙ sym (append_assoc (f a) (flat_map f (range_with_len (a + 1) m)) rest))

-- over more numbers it begins as over the first of them
pub flat_map-begins : {A : Type 0} (f : ℕ → List A) (k count : ℕ) → k < count → (rest : List A) × (flat_map f (range_with_len 0 count) ≡ flat_map f (range_with_len 0 (k + 1)) ++ rest)
flat_map-begins f k count lt =
    let (rest, e) = begins f 0 (k + 1) (count - (k + 1)) in
    let c : count ≡ (k + 1) + (count - (k + 1)) = omega arith in
    (rest, ap (λ n. flat_map f (range_with_len 0 n)) c ∙ e)
