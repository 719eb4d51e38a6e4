-- The upper halves of lanes, by their bytes.
use Rattle.std.proofs.Common.{◌≡◌, ℕ, ℤ, pos, negsuc, suc, ◌+◌, ◌-◌, ◌*◌, ◌/◌, ◌%◌, ◌^◌, ◌<◌, List, [], ◌∷◌, map, length, get_or, refl, sym, ap, ap₂, ◌∙◌, subst, arith, w32, w64, Fits, FitsSigned, to_z, of_z}
use Rattle.std.specs.Int.{int_div_euclid}
use Rattle.std.specs.Simd.Lanes.{zip2, Each1, Each2, number_l, digits_l}
use Rattle.std.proofs.lemmas.Int.{ints}
use Rattle.std.proofs.lemmas.List.{ext_get_or, get_or-map, length-map}
use Rattle.std.proofs.lemmas.Nat.{mul-lt}
use Rattle.std.proofs.lemmas.Grind.{same_number_lists}
use Rattle.std.proofs.lemmas.Simd.{get_or_narrower, below_from_Fits, Each1-get_or, Each2-of}
use mir.ValLaws.{to_z-neg}
use Rattle.lane_numbers.proofs.Digits.{spelled, spelled_below}
use Rattle.lane_numbers.proofs.EightLanes.{each_of_eight}

-- eight numbers as sixteen
abbrev pub halves : List ℕ → List ℕ
halves xs = digits_l 4294967296 16 (number_l 256 (digits_l 256 64 (number_l 18446744073709551616 xs)))

-- where the upper ones stand
abbrev pub odd_places : List ℕ
odd_places = 1 ∷ 3 ∷ 5 ∷ 7 ∷ 9 ∷ 11 ∷ 13 ∷ 15 ∷ []

place_at : (j : ℕ) → j < 8 → get_or odd_places j 0 ≡ 2 * j + 1
place_at = each_of_eight (λ j. get_or odd_places j 0 ≡ 2 * j + 1) refl refl refl refl refl refl refl refl

-- the bytes spell what the numbers do
spelled_by_bytes : (xs : List ℕ) → length xs ≡ 8 → Each1 (λ x. x < 18446744073709551616) xs →
    number_l 256 (digits_l 256 64 (number_l 18446744073709551616 xs)) ≡ number_l 18446744073709551616 xs
spelled_by_bytes xs long below =
    spelled 256 64 (number_l 18446744073709551616 xs) (omega arith)
    (subst (λ (k : ℕ). number_l 18446744073709551616 xs < 18446744073709551616 ^ k) long (spelled_below 18446744073709551616 xs (omega arith) below))

half_at : (xs : List ℕ) → length xs ≡ 8 → Each1 (λ x. x < 18446744073709551616) xs → (j : ℕ) → j < 8 → get_or (halves xs) (2 * j + 1) 0 ≡ get_or xs j 0 / 4294967296
half_at xs long below j lt =
    ap (λ (m : ℕ). get_or (digits_l 4294967296 16 m) (2 * j + 1) 0) (spelled_by_bytes xs long below)
    ∙ get_or_narrower 18446744073709551616 2 4294967296 16 xs j 1 refl below (omega arith) (omega (arith, lt))
    ∙ upper (get_or xs j 0) (Each1-get_or (λ x. x < 18446744073709551616) xs j 0 (omega (arith, long, lt)) below)
  where
    upper : (x : ℕ) → x < 18446744073709551616 → x / 4294967296 ^ 1 % 4294967296 ≡ x / 4294967296
    upper x lt = omega (arith, lt)

pub upper_halves_are : (xs : List ℕ) → length xs ≡ 8 → Each1 (Fits w64) xs → map (λ k. get_or (halves xs) k 0) odd_places ≡ map (λ n. n / 4294967296) xs
upper_halves_are xs long fits =
    same_number_lists (map (λ k. get_or (halves xs) k 0) odd_places) (map (λ n. n / 4294967296) xs)
    (sym (length-map xs (λ n. n / 4294967296) ∙ long))
    (λ j lt.
    get_or-map (λ k. get_or (halves xs) k 0) odd_places j 0 0 lt
    ∙ ap (λ (k : ℕ). get_or (halves xs) k 0) (place_at j lt)
    ∙ half_at xs long (below_from_Fits w64 xs fits) j lt
    ∙ sym (get_or-map (λ n. n / 4294967296) xs j 0 0 (omega (arith, long, lt))))

-- ---- of signed numbers

bits_fit : (zs : List ℤ) → Each1 (FitsSigned w64) zs → Each1 (Fits w64) (map (of_z w64) zs)
bits_fit [] h = tt
bits_fit (z ∷ zs) h = (fit z h.0, bits_fit zs h.1)
  where
    fit : (z : ℤ) → FitsSigned w64 z → Fits w64 (of_z w64 z)
    fit (pos n) f = omega (arith, ints, f)
    fit (negsuc n) f = omega (arith, ints, f)

upper_below_0 : (n : ℕ) → n < 9223372036854775808 → (18446744073709551616 - suc n) / 4294967296 ≡ 4294967296 - suc (n / 4294967296)
upper_below_0 n lt = omega (arith, lt)

high_lanes : (zs : List ℤ) → Each1 (FitsSigned w64) zs → map (to_z w32) (map (λ n. n / 4294967296) (map (of_z w64) zs)) ≡ map (λ z. int_div_euclid z (pos 4294967296)) zs
high_lanes [] h = refl
high_lanes (z ∷ zs) h = ap₂ (λ (x : ℤ) (r : List ℤ). x ∷ r) (high z h.0) (high_lanes zs h.1)
  where
    high : (z : ℤ) → FitsSigned w64 z → to_z w32 (of_z w64 z / 4294967296) ≡ int_div_euclid z (pos 4294967296)
    high (pos n) f = omega (arith, ints, f)
    high (negsuc n) f =
        let small : n < 9223372036854775808 = omega (arith, ints, f) in
        let few : n / 4294967296 < 2147483648 = omega (arith, small) in
        ap (λ (k : ℕ). to_z w32 k) (upper_below_0 n small) ∙ to_z-neg w32 (n / 4294967296) few

high_halves_are : (zs : List ℤ) → length zs ≡ 8 → Each1 (FitsSigned w64) zs →
    map (to_z w32) (map (λ k. get_or (halves (map (of_z w64) zs)) k 0) odd_places) ≡ map (λ z. int_div_euclid z (pos 4294967296)) zs
high_halves_are zs long fits =
    ap (λ (ns : List ℕ). map (to_z w32) ns) (upper_halves_are (map (of_z w64) zs) (length-map zs (of_z w64) ∙ long) (bits_fit zs fits)) ∙ high_lanes zs fits

-- the numbers one by one
abbrev pub one_by_one : List ℤ → List ℤ
one_by_one zs =
    get_or zs 0 (pos 0) ∷ get_or zs 1 (pos 0) ∷ get_or zs 2 (pos 0) ∷ get_or zs 3 (pos 0)
    ∷ get_or zs 4 (pos 0) ∷ get_or zs 5 (pos 0) ∷ get_or zs 6 (pos 0) ∷ get_or zs 7 (pos 0) ∷ []

same_one_by_one : (zs : List ℤ) → length zs ≡ 8 → one_by_one zs ≡ zs
same_one_by_one zs long = ext_get_or (pos 0) (one_by_one zs) zs (sym long) (each_of_eight (λ k. get_or (one_by_one zs) k (pos 0) ≡ get_or zs k (pos 0)) refl refl refl refl refl refl refl refl)

pub high_one_by_one : (zs : List ℤ) → length zs ≡ 8 → Each1 (FitsSigned w64) (one_by_one zs) →
    map (to_z w32) (map (λ k. get_or (halves (map (of_z w64) (one_by_one zs))) k 0) odd_places) ≡ map (λ z. int_div_euclid z (pos 4294967296)) zs
high_one_by_one zs long fits =
    high_halves_are (one_by_one zs) refl fits ∙ ap (λ (l : List ℤ). map (λ z. int_div_euclid z (pos 4294967296)) l) (same_one_by_one zs long)

-- ---- of products

pub widened_small : (xs : List ℕ) → Each1 (λ n. n < 4294967296) xs → Each1 (λ n. n < 4294967296) (map (λ x. x) xs)
widened_small [] h = tt
widened_small (x ∷ xs) h = (h.0, widened_small xs h.1)

pub products_fit : (xs ys : List ℕ) → Each1 (λ n. n < 4294967296) xs → Each1 (λ n. n < 4294967296) ys → Each2 (λ a b. Fits w64 (a * b)) xs ys
products_fit xs ys = Each2-of (λ n. n < 4294967296) (λ n. n < 4294967296) (λ a b. Fits w64 (a * b)) fit xs ys
  where
    fit : (a b : ℕ) → a < 4294967296 → b < 4294967296 → Fits w64 (a * b)
    fit a b h k = let m : a * b < 4294967296 * 4294967296 = mul-lt a b 4294967296 4294967296 h k in record { fits = m }

zipped : (xs ys : List ℕ) → map (λ n. n / 4294967296) (zip2 (λ x y. x * y) xs ys) ≡ zip2 (λ x y. x * y / 4294967296) xs ys
zipped [] ys = refl
zipped (x ∷ xs) [] = refl
zipped (x ∷ xs) (y ∷ ys) = ap (λ (r : List ℕ). x * y / 4294967296 ∷ r) (zipped xs ys)

pub high_products : (xs ys us vs rs : List ℕ) → us ≡ xs → vs ≡ ys → rs ≡ map (λ n. n / 4294967296) (zip2 (λ x y. x * y) us vs) → rs ≡ zip2 (λ x y. x * y / 4294967296) xs ys
high_products xs ys us vs rs eu ev er = er ∙ ap₂ (λ (s t : List ℕ). map (λ n. n / 4294967296) (zip2 (λ x y. x * y) s t)) eu ev ∙ zipped xs ys
