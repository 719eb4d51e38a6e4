-- The mask of the samples that are in a range of columns and a range of rows.
use Rattle.std.proofs.Common.{◌≡◌, ℕ, zero, suc, ◌+◌, ◌-◌, ◌*◌, ◌/◌, ◌%◌, ◌<◌, ◌≤◌, ◌^◌, inl, inr, [], ◌∷◌, map, Bool, true, false, ◌&&◌, cond, min, arith, refl, sym, subst, ◌∙◌}
use Rattle.std.specs.List.{range_with_len}
use Rattle.std.specs.Simd.Lanes.{mask_l}
use Rattle.std.proofs.lemmas.Bool.{cases_lt}
use Rattle.std.proofs.lemmas.Bool.Decides.{nat_tests}
use Rattle.std.proofs.Math.Nat.{two-pow-succ}
use Rattle.cull_base.specs.Span.{is_between}
use Rattle.cull_base.specs.State.{has, samples_of}
use Rattle.cull_base.proofs.Masks.{mask_l-more, has-samples_of-mask_l}

-- the mask so far, with one bit more
next_bit : (first from end n m : ℕ) → from ≤ end → m + 2 ^ min (from - first) n ≡ 2 ^ min (end - first) n
    → (m + 2 ^ n * cond (is_between from end (first + n)) 1 0) + 2 ^ min (from - first) (n + 1) ≡ 2 ^ min (end - first) (n + 1)
next_bit first from end n m le e = elim (cases_lt n (from - first)) [
  | inl before ↦
      let t : is_between from end (first + n) ≡ false = grind (arith, nat_tests) in
      let a : min (from - first) n ≡ n = omega arith in let b : min (end - first) n ≡ n = omega arith in
      let a' : min (from - first) (n + 1) ≡ n + 1 = omega arith in let b' : min (end - first) (n + 1) ≡ n + 1 = omega arith in
      let f : m + 2 ^ n ≡ 2 ^ n = rw (a, b) at e in
      rw (t, a', b') (none m (2 ^ n) (2 ^ (n + 1)) f)
  | inr from_on ↦ elim (cases_lt n (end - first)) [
    | inl within ↦
        let t : is_between from end (first + n) ≡ true = grind (arith, nat_tests) in
        let a : min (from - first) n ≡ from - first = omega arith in let b : min (end - first) n ≡ n = omega arith in
        let a' : min (from - first) (n + 1) ≡ from - first = omega arith in let b' : min (end - first) (n + 1) ≡ suc n = omega arith in
        let f : m + 2 ^ (from - first) ≡ 2 ^ n = rw (a, b) at e in
        rw (t, a', b') (one m (2 ^ n) (2 ^ (from - first)) (2 ^ suc n) f (two-pow-succ n))
    | inr past ↦
        let t : is_between from end (first + n) ≡ false = grind (arith, nat_tests) in
        let a : min (from - first) n ≡ from - first = omega arith in let b : min (end - first) n ≡ end - first = omega arith in
        let a' : min (from - first) (n + 1) ≡ from - first = omega arith in let b' : min (end - first) (n + 1) ≡ end - first = omega arith in
        let f : m + 2 ^ (from - first) ≡ 2 ^ (end - first) = rw (a, b) at e in
        rw (t, a', b') (same m (2 ^ n) (2 ^ (from - first)) (2 ^ (end - first)) f)
  ]
]
  where
    none : (m p q : ℕ) → m + p ≡ p → (m + p * 0) + q ≡ q
    none m p q f = omega arith

    one : (m p a q : ℕ) → m + a ≡ p → q ≡ p + p → (m + p * 1) + a ≡ q
    one m p a q f d = omega arith

    same : (m p a b : ℕ) → m + a ≡ b → (m + p * 0) + a ≡ b
    same m p a b f = omega arith

-- of numbered places from a first on, those from one to before an end, as bits
pub between_mask : (first from end n : ℕ) → from ≤ end → mask_l (map (λ k. is_between from end (first + k)) (range_with_len 0 n)) + 2 ^ min (from - first) n ≡ 2 ^ min (end - first) n
between_mask first from end zero le = let a : min (from - first) 0 ≡ 0 = omega arith in let b : min (end - first) 0 ≡ 0 = omega arith in rw (a, b) refl
between_mask first from end (suc n) le =
    let more = mask_l-more (λ k. is_between from end (first + k)) n in
    let next : mask_l (map (λ k. is_between from end (first + k)) (range_with_len 0 (n + 1))) + 2 ^ min (from - first) (n + 1) ≡ 2 ^ min (end - first) (n + 1) =
    rw more (next_bit first from end n (mask_l (map (λ k. is_between from end (first + k)) (range_with_len 0 n))) le (between_mask first from end n le)) in
    let s : n + 1 ≡ suc n = omega arith in
    subst (λ (j : ℕ). mask_l (map (λ k. is_between from end (first + k)) (range_with_len 0 j)) + 2 ^ min (from - first) j ≡ 2 ^ min (end - first) j) s next

-- the columns of a row that is in the range, or none
row_mask : (f : ℕ → Bool) (b : Bool) → mask_l (map (λ k. f k && b) (range_with_len 0 8)) ≡ cond b (mask_l (map f (range_with_len 0 8))) 0
row_mask f true = by (f 0) (f 1) (f 2) (f 3) (f 4) (f 5) (f 6) (f 7)
  where
    and_true : (b : Bool) → (b && true) ≡ b
    and_true true = refl
    and_true false = refl

    by : (b0 b1 b2 b3 b4 b5 b6 b7 : Bool) → mask_l ((b0 && true) ∷ (b1 && true) ∷ (b2 && true) ∷ (b3 && true) ∷ (b4 && true) ∷ (b5 && true) ∷ (b6 && true) ∷ (b7 && true) ∷ []) ≡ mask_l (b0 ∷ b1 ∷ b2 ∷ b3 ∷ b4 ∷ b5 ∷ b6 ∷ b7 ∷ [])
    by b0 b1 b2 b3 b4 b5 b6 b7 = rw (and_true b0, and_true b1, and_true b2, and_true b3, and_true b4, and_true b5, and_true b6, and_true b7) refl
row_mask f false = by (f 0) (f 1) (f 2) (f 3) (f 4) (f 5) (f 6) (f 7)
  where
    and_false : (b : Bool) → (b && false) ≡ false
    and_false true = refl
    and_false false = refl

    by : (b0 b1 b2 b3 b4 b5 b6 b7 : Bool) → mask_l ((b0 && false) ∷ (b1 && false) ∷ (b2 && false) ∷ (b3 && false) ∷ (b4 && false) ∷ (b5 && false) ∷ (b6 && false) ∷ (b7 && false) ∷ []) ≡ 0
    by b0 b1 b2 b3 b4 b5 b6 b7 = rw (and_false b0, and_false b1, and_false b2, and_false b3, and_false b4, and_false b5, and_false b6, and_false b7) refl

-- four rows of eight columns are the mask of 32 samples
four_rows : (f g : ℕ → Bool) → mask_l (map (λ k. f (k % 8) && g (k / 8)) (range_with_len 0 32))
    ≡ (mask_l (map (λ k. f k && g 0) (range_with_len 0 8)) + mask_l (map (λ k. f k && g 1) (range_with_len 0 8)) * 256)
    + (mask_l (map (λ k. f k && g 2) (range_with_len 0 8)) + mask_l (map (λ k. f k && g 3) (range_with_len 0 8)) * 256) * 65536
four_rows f g = omega arith

pub mask_of_rows : (f g : ℕ → Bool) (columns mask : ℕ) → columns ≡ mask_l (map f (range_with_len 0 8))
    → mask ≡ (cond (g 0) columns 0 + cond (g 1) columns 0 * 256) + (cond (g 2) columns 0 + cond (g 3) columns 0 * 256) * 65536
    → (k : ℕ) → k < 32 → has (samples_of mask) k ≡ (f (k % 8) && g (k / 8))
mask_of_rows f g columns mask c m k lt =
    let is : mask ≡ mask_l (map (λ k. f (k % 8) && g (k / 8)) (range_with_len 0 32)) =
    m ∙ sym (four_rows f g ∙ rw (row_mask f (g 0), row_mask f (g 1), row_mask f (g 2), row_mask f (g 3), ← c) refl) in
    rw is (has-samples_of-mask_l (λ k. f (k % 8) && g (k / 8)) k lt)
