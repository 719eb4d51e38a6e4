-- The bytes of a tile's masks, of the firsts and the ends of its rows.
use Rattle.std.proofs.Common.{◌≡◌, ℕ, zero, suc, ◌+◌, ◌-◌, ◌*◌, ◌/◌, ◌%◌, ◌^◌, ◌<◌, ◌≤◌, Bool, true, ◌&&◌, T, nat_le, nat_lt, eqb, eqb→eq, min, List, [], ◌∷◌, map, length, get_or, refl, sym, ap, ap₂, ◌∙◌, subst, inl, inr, arith, w8, w16, Fits, bit_and, eq-zero-or-pos}
use Rattle.std.specs.Simd.Lanes.{zip2, mask_l, Each1, chunk, number_l, digits_l}
use Rattle.std.proofs.lemmas.Bool.Decides.{nat_tests}
use Rattle.std.proofs.lemmas.List.{get_or-map, length-map}
use Rattle.std.proofs.lemmas.Simd.{get_or-zip2, length-zip2, Each1-from_get_or, below_from_Fits, get_or_narrower, get_or_wider, get_or-chunk, length-chunk, mask_l-lt, swz_l, SwzOk, SwzOk-from_below, get_or-swz_l_below}
use Rattle.edge_lanes.specs.declared.spans.TheConstants.{FROM, BEFORE}
use Rattle.edge_lanes.specs.declared.spans.Spans.{Spans}
use Rattle.edge_lanes.specs.Spans.{in_span, spanned}
use Rattle.edge_lanes.specs.Lanes.{columns, row_of}
use Rattle.edge_lanes.proofs.Masks.{mask_of_rows, row_of_test}
use lib.Ieee.Fits.{and_l, and_r}

-- ---- tests that are computed for each number below another

-- whether a test holds for each number below n
abbrev for_each : (ℕ → Bool) → ℕ → Bool
for_each p zero = true
for_each p (suc n) = p n && for_each p n

-- so for one of them
holds_at : (p : ℕ → Bool) (n : ℕ) → T (for_each p n) → (i : ℕ) → i < n → T (p i)
holds_at p zero h i l = absurd (omega arith)
holds_at p (suc n) h i l =
    elim (eq-zero-or-pos (n - i)) [
      | inl z ↦ let e : n ≡ i = omega arith in subst (λ x. T (p x)) e (and_l _ _ h)
      | inr g ↦ holds_at p n (and_r (p n) _ h) i (omega arith)
    ]

-- ---- the byte of each row

-- where the lowest byte of each row's number stands, by the bytes of the masks
abbrev places : List ℕ
places = 0 ∷ 2 ∷ 4 ∷ 6 ∷ 0 ∷ 2 ∷ 4 ∷ 6 ∷ 0 ∷ 2 ∷ 4 ∷ 6 ∷ 0 ∷ 2 ∷ 4 ∷ 6 ∷ 8 ∷ 10 ∷ 12 ∷ 14 ∷ 8 ∷ 10 ∷ 12 ∷ 14 ∷ 8 ∷ 10 ∷ 12 ∷ 14 ∷ 8 ∷ 10 ∷ 12 ∷ 14 ∷ []

-- as a number of lanes and bytes
place_at : (i : ℕ) → i < 32 → get_or places i 0 ≡ 2 * (4 * (i / 16) + i % 4) + 0
place_at i lt = eqb→eq _ _ (holds_at (λ i. eqb (get_or places i 0) (2 * (4 * (i / 16) + i % 4) + 0)) 32 tt i lt)

-- the bytes of eight numbers
abbrev bytes_of : List ℕ → List ℕ
bytes_of xs = digits_l 256 16 (number_l 65536 xs)

-- a number that is at most 32 is its lowest byte
pub row_byte : (xs : List ℕ) → length xs ≡ 8 → Each1 (Fits w16) xs → ((r : ℕ) → r < 8 → get_or xs r 0 ≤ 32) → (i : ℕ) → i < 32
    → get_or (map (λ k. get_or (bytes_of xs) k 0) places) i 0 ≡ get_or xs (4 * (i / 16) + i % 4) 0
row_byte xs long fits most i lt =
    let r : ℕ = 4 * (i / 16) + i % 4 in
    let small = most r (omega arith) in
    get_or-map (λ k. get_or (bytes_of xs) k 0) places i 0 0 lt
    ∙ ap (λ k. get_or (bytes_of xs) k 0) (place_at i lt)
    ∙ get_or_narrower 65536 2 256 16 xs r 0 refl (below_from_Fits w16 xs fits) (omega arith) (omega arith)
    ∙ byte (get_or xs r 0) small
  where
    byte : (x : ℕ) → x ≤ 32 → x / 256 ^ 0 % 256 ≡ x
    byte x le = omega arith

-- the columns of a tile before those of a byte
pub before_at : (i : ℕ) → i < 32 → get_or BEFORE i 0 ≡ 8 * (i / 4 % 4)
before_at i lt = eqb→eq _ _ (holds_at (λ i. eqb (get_or BEFORE i 0) (8 * (i / 4 % 4))) 32 tt i lt)

-- ---- the bits of a byte from a number on

-- numbers up to 8 are places of the table
pub places_within : (ns : List ℕ) → length ns ≡ 32 → ((i : ℕ) → i < 32 → get_or ns i 0 ≤ 8) → SwzOk w8 16 32 0 ns
places_within ns long most =
    SwzOk-from_below w8 16 2 32 0 ns refl (omega arith) (Each1-from_get_or (λ n. n < 16) ns 0 (λ i lt. let le = most i (omega arith) in omega (arith, le)))

-- the table has what is to be read, in each half
from_at : (b n : ℕ) → b < 2 → n < 9 → get_or FROM (16 * b + n) 0 ≡ 2 ^ 8 - 2 ^ n
from_at b n lb ln =
    eqb→eq _ _ (holds_at (λ n. eqb (get_or FROM (16 * b + n) 0) (2 ^ 8 - 2 ^ n)) 9 (holds_at (λ b. for_each (λ n. eqb (get_or FROM (16 * b + n) 0) (2 ^ 8 - 2 ^ n)) 9) 2 tt b lb) n ln)

-- what is read
pub bits_from_at : (ns : List ℕ) → length ns ≡ 32 → ((i : ℕ) → i < 32 → get_or ns i 0 ≤ 8) → (i : ℕ) → i < 32 → get_or (swz_l w8 16 FROM 0 ns) i 0 ≡ 2 ^ 8 - 2 ^ get_or ns i 0
bits_from_at ns long most i lt =
    let le = most i lt in
    get_or-swz_l_below w8 16 FROM 0 ns i (omega arith) (omega (arith, le)) ∙ from_at ((0 + i) / 16) (get_or ns i 0) (omega arith) (omega (arith, le))

-- the columns before an end, of a tile and then of a subtile
pub of_subtile : (e c m : ℕ) → m < 4 → min (min (e - 32 * c) 32 - 8 * m) 8 ≡ min (e - 8 * (4 * c + m)) 8
of_subtile e c m lt = omega arith

-- ---- the bits from a first on that aren't from an end on

-- as it is computed
abbrev pub row_byte_of : ℕ → ℕ → ℕ
row_byte_of a b = bit_and (2 ^ 8 - 2 ^ a) (2 ^ 8 - 1 - (2 ^ 8 - 2 ^ b))

-- and the tests of its eight columns
byte_is : (a b : ℕ) → a < 9 → b < 9 → row_byte_of a b ≡ mask_l (map (λ c. nat_le a c && nat_lt c b) columns)
byte_is a b la lb =
    eqb→eq _ _ (holds_at (λ b. eqb (row_byte_of a b) (mask_l (map (λ c. nat_le a c && nat_lt c b) columns))) 9
    (holds_at (λ a. for_each (λ b. eqb (row_byte_of a b) (mask_l (map (λ c. nat_le a c && nat_lt c b) columns))) 9) 9 tt a la) b lb)

-- tests that agree at eight columns
same_columns : (f g : ℕ → Bool) → ((c : ℕ) → c < 8 → f c ≡ g c) → mask_l (map f columns) ≡ mask_l (map g columns)
same_columns f g h =
    let a = h 0 (omega arith) in let b = h 1 (omega arith) in let c = h 2 (omega arith) in let d = h 3 (omega arith) in
    let i = h 4 (omega arith) in let j = h 5 (omega arith) in let k = h 6 (omega arith) in let l = h 7 (omega arith) in
    cc

-- a column of eight lies between the ends cut to eight just where it lies between the ends
within : (f e x c : ℕ) → c < 8 → (nat_le (min (f - x) 8) c && nat_lt c (min (e - x) 8)) ≡ (nat_le f (x + c) && nat_lt (x + c) e)
within f e x c lt = ap₂ (λ p q. p && q) (at_first f x c lt) (at_end e x c lt)
  where
    at_first : (f x c : ℕ) → c < 8 → nat_le (min (f - x) 8) c ≡ nat_le f (x + c)
    at_first f x c lt = grind (arith, nat_tests)

    at_end : (e x c : ℕ) → c < 8 → nat_lt c (min (e - x) 8) ≡ nat_lt (x + c) e
    at_end e x c lt = grind (arith, nat_tests)

-- the byte of a row, by its first and its end
row_bits : (f e x : ℕ) → row_byte_of (min (f - x) 8) (min (e - x) 8) ≡ mask_l (map (λ c. nat_le f (x + c) && nat_lt (x + c) e) columns)
row_bits f e x =
    byte_is (min (f - x) 8) (min (e - x) 8) (omega arith) (omega arith)
    ∙ same_columns (λ c. nat_le (min (f - x) 8) c && nat_lt c (min (e - x) 8)) (λ c. nat_le f (x + c) && nat_lt (x + c) e) (within f e x)

-- ---- eight masks, each of four bytes

-- the bytes from the firsts on that aren't from the ends on
abbrev bytes_in : List ℕ → List ℕ → List ℕ
bytes_in firsts ends = zip2 bit_and firsts (map (λ b. 2 ^ 8 - 1 - b) ends)

-- the byte of a row from an end of each row on
abbrev AreFrom : List ℕ → ℕ → List ℕ → Type 0
AreFrom ends column bytes = (i : ℕ) → i < 32 → get_or bytes i 0 ≡ 2 ^ 8 - 2 ^ min (get_or ends (4 * (i / 16) + i % 4) 0 - 8 * (4 * column + i / 4 % 4)) 8

-- which of eight columns are in the span of a row
abbrev columns_in : Spans → ℕ → ℕ → ℕ → ℕ
columns_in s column r m = mask_l (map (λ c. in_span s r (8 * (4 * column + m) + c)) columns)

-- each byte tells those of its row
byte_at : (s : Spans) (column : ℕ) (firsts ends : List ℕ) → length firsts ≡ 32 → length ends ≡ 32 → AreFrom s.first column firsts → AreFrom s.end column ends
    → (i : ℕ) → i < 32 → get_or (bytes_in firsts ends) i 0 ≡ columns_in s column (4 * (i / 16) + i % 4) (i / 4 % 4)
byte_at s column firsts ends hf he from_first from_end i lt =
    let inverted : length (map (λ b. 2 ^ 8 - 1 - b) ends) ≡ 32 = length-map ends (λ b. 2 ^ 8 - 1 - b) ∙ he in
    get_or-zip2 bit_and firsts (map (λ b. 2 ^ 8 - 1 - b) ends) i 0 0 0 (omega arith) (omega arith)
    ∙ ap₂ bit_and (from_first i lt) (get_or-map (λ b. 2 ^ 8 - 1 - b) ends i 0 0 (omega arith) ∙ ap (λ b. 2 ^ 8 - 1 - b) (from_end i lt))
    ∙ row_bits (get_or s.first (4 * (i / 16) + i % 4) 0) (get_or s.end (4 * (i / 16) + i % 4) 0) (8 * (4 * column + i / 4 % 4))

-- the number of four bytes
of_four : (xs : List ℕ) → length xs ≡ 4 → number_l 256 xs ≡ (get_or xs 0 0 + get_or xs 1 0 * 256) + (get_or xs 2 0 + get_or xs 3 0 * 256) * 65536
of_four [] e = absurd (omega arith)
of_four (a ∷ []) e = absurd (omega arith)
of_four (a ∷ b ∷ []) e = absurd (omega arith)
of_four (a ∷ b ∷ c ∷ []) e = absurd (omega arith)
of_four (a ∷ b ∷ c ∷ d ∷ []) e = omega arith
of_four (a ∷ b ∷ c ∷ d ∷ x ∷ xs) e = absurd (omega arith)

-- whether sample k of subtile j is in the spans
abbrev sample_test : Spans → ℕ → ℕ → ℕ → Bool
sample_test s column j k = in_span s (4 * (j / 4) + k / 8) (8 * (4 * column + j % 4) + k % 8)

-- the byte of row q of subtile j
row_at : (s : Spans) (column : ℕ) (bs : List ℕ) → length bs ≡ 32 → ((i : ℕ) → i < 32 → get_or bs i 0 ≡ columns_in s column (4 * (i / 16) + i % 4) (i / 4 % 4)) → (j q : ℕ) → j < 8 → q < 4
    → get_or (chunk (4 * j) 4 bs) q 0 ≡ row_of (sample_test s column j) q
row_at s column bs long at j q lj lq =
    get_or-chunk (4 * j) 4 bs q 0 lq
    ∙ at (4 * j + q) (omega arith)
    ∙ ap₂ (columns_in s column) (row_is j q lq) (subtile_is j q lq)
    ∙ row_of_test (λ r c. in_span s (4 * (j / 4) + r) (8 * (4 * column + j % 4) + c)) q
  where
    row_is : (j q : ℕ) → q < 4 → 4 * ((4 * j + q) / 16) + (4 * j + q) % 4 ≡ 4 * (j / 4) + q
    row_is j q lq = omega arith

    subtile_is : (j q : ℕ) → q < 4 → (4 * j + q) / 4 % 4 ≡ j % 4
    subtile_is j q lq = omega arith

-- the mask of subtile j
pub mask_at : (s : Spans) (column : ℕ) (firsts ends : List ℕ) → length firsts ≡ 32 → length ends ≡ 32 → AreFrom s.first column firsts → AreFrom s.end column ends
    → (j : ℕ) → j < 8 → get_or (digits_l 4294967296 8 (number_l 256 (bytes_in firsts ends))) j 0 ≡ mask_l (spanned s column j)
mask_at s column firsts ends hf he from_first from_end j lt =
    let bs : List ℕ = bytes_in firsts ends in
    let inverted : length (map (λ b. 2 ^ 8 - 1 - b) ends) ≡ 32 = length-map ends (λ b. 2 ^ 8 - 1 - b) ∙ he in
    let long : length bs ≡ 32 = length-zip2 bit_and firsts (map (λ b. 2 ^ 8 - 1 - b) ends) (hf ∙ sym inverted) ∙ hf in
    let at = byte_at s column firsts ends hf he from_first from_end in
    let small = Each1-from_get_or (λ b. b < 256) bs 0 (λ i l. subst (λ b. b < 256) (sym (at i (omega (arith, long)))) (mask_l-lt (map (λ c. in_span s (4 * (i / 16) + i % 4) (8 * (4 * column + i / 4 % 4) + c)) columns))) in
    let row = row_at s column bs long at j in
    let r0 = row 0 lt (omega arith) in let r1 = row 1 lt (omega arith) in let r2 = row 2 lt (omega arith) in let r3 = row 3 lt (omega arith) in
    get_or_wider 256 4 4294967296 8 bs j refl small lt
    ∙ of_four (chunk (4 * j) 4 bs) (length-chunk (4 * j) 4 bs (omega (arith, long)))
    ∙ joined _ _ _ _ _ _ _ _ r0 r1 r2 r3
    ∙ sym (mask_of_rows (sample_test s column j))
  where
    joined : (a b c d e f g h : ℕ) → a ≡ e → b ≡ f → c ≡ g → d ≡ h → (a + b * 256) + (c + d * 256) * 65536 ≡ (e + f * 256) + (g + h * 256) * 65536
    joined a b c d e f g h p q r s = rw (p, q, r, s) refl
