-- Numbers and entries as bytes, and back.
use Rattle.std.proofs.Common.{◌≡◌, ℕ, ℤ, pos, negsuc, suc, zero, ◌+◌, ◌*◌, ◌^◌, ◌<◌, ◌≤◌, ◌++◌, ◌∷◌, List, [], length, get_or, take, drop, map, arith, refl, sym, ap, ◌∙◌, All, w16, w32, inl, inr}
use Rattle.std.proofs.lemmas.Bool.{cases_lt}
use Rattle.std.specs.List.{flat_map, range_with_len}
use Rattle.std.specs.Int.{from_le_bytes, cast_signed, cast_unsigned}
use Rattle.std.proofs.Math.Seq.{take-add}
use Rattle.std.proofs.lemmas.Int.{ints, to_z-of_z, of_z-to_z}
use Rattle.std.proofs.lemmas.Nat.{le_bytes_2, le_bytes_4, from_le_bytes-to_le_bytes_2, from_le_bytes-to_le_bytes_4}
use Rattle.std.proofs.lemmas.List.{length-drop, length-take, drop-drop, get_or_past, take_at, drop_at, take_all}
use Rattle.std.proofs.lemmas.List.FromFn.{fill_by_all}
use Rattle.std.proofs.lemmas.List.Elements.{All-take, All-drop}
use mir.Val.{SFits}
use Rattle.cull_base.specs.declared.scene_types.Tri.{Tri}
use Rattle.scene_reader.specs.Layout.{InLimits, IsRow, IsTri, short_bytes, word_bytes, row_bytes, tri_bytes}
use Rattle.scene_reader.specs.Fault.{short_at, word_at, signed_at, words_in, row_of, tri_of}
use Rattle.cull_base.proofs.Takes.{IsByte}

-- ---- bytes of a list, also past its end
pub byte_at : (bytes : List ℕ) → All IsByte bytes → (i : ℕ) → get_or bytes i 0 < 256
byte_at bytes fits i = elim (cases_lt i (length bytes)) [
  | inl lt ↦ fits i 0 lt
  | inr le ↦ rw (get_or_past bytes i 0 le) (omega arith)
]

pub part_fits : (place n : ℕ) (bytes : List ℕ) → All IsByte bytes → All IsByte (take n (drop place bytes))
part_fits place n bytes fits = All-take IsByte n (drop place bytes) (All-drop IsByte place bytes fits)

part_length : (place n : ℕ) (bytes : List ℕ) → place + n ≤ length bytes → length (take n (drop place bytes)) ≡ n
part_length place n bytes h = omega (arith, length-take n (drop place bytes), length-drop place bytes)

-- ---- from bytes to a number, and back to the bytes

pub word_back : (place : ℕ) (bytes : List ℕ) → place + 4 ≤ length bytes → All IsByte bytes → word_bytes (word_at place bytes) ≡ take 4 (drop place bytes)
word_back place bytes h fits = le_bytes_4 (take 4 (drop place bytes)) _ (part_length place 4 bytes h) (byte_at (take 4 (drop place bytes)) (part_fits place 4 bytes fits)) refl

pub short_back : (place : ℕ) (bytes : List ℕ) → place + 2 ≤ length bytes → All IsByte bytes → short_bytes (short_at place bytes) ≡ take 2 (drop place bytes)
short_back place bytes h fits = le_bytes_2 (take 2 (drop place bytes)) _ (part_length place 2 bytes h) (byte_at (take 2 (drop place bytes)) (part_fits place 2 bytes fits)) refl

word_fits : (place : ℕ) (bytes : List ℕ) → All IsByte bytes → word_at place bytes < 2 ^ 32
word_fits place bytes fits = let f = byte_at (take 4 (drop place bytes)) (part_fits place 4 bytes fits) in omega (arith, f 0, f 1, f 2, f 3)

signed_back : (place : ℕ) (bytes : List ℕ) → place + 4 ≤ length bytes → All IsByte bytes → word_bytes (cast_unsigned w32 (signed_at place bytes)) ≡ take 4 (drop place bytes)
signed_back place bytes h fits = ap word_bytes (of_z-to_z w32 (word_at place bytes) (word_fits place bytes fits)) ∙ word_back place bytes h fits

-- n numbers from number k on
back_from : {X : Type 0} (enc : X → List ℕ) (f : ℕ → X) (n k : ℕ) (bytes : List ℕ) → ((j : ℕ) → j < k + n → enc (f j) ≡ take 4 (drop (4 * j) bytes))
    → flat_map enc (map f (range_with_len k n)) ≡ take (4 * n) (drop (4 * k) bytes)
back_from enc f zero k bytes each = refl
back_from enc f (suc n) k bytes each =
    let rest = back_from enc f n (k + 1) bytes (λ j lt. each j (omega arith)) in
    let head = each k (omega arith) in
    let skip : drop (4 * (k + 1)) bytes ≡ drop 4 (drop (4 * k) bytes) = ap (λ (m : ℕ). drop m bytes) (omega arith) ∙ sym (drop-drop 4 (4 * k) bytes) in
    let four : 4 * suc n ≡ 4 + 4 * n = omega arith in
    rw (head, rest, skip, four) (sym (take-add 4 (4 * n) (drop (4 * k) bytes)))

pub row_back : (n : ℕ) (bytes : List ℕ) → length bytes ≡ 4 * n → All IsByte bytes → row_bytes (row_of n bytes) ≡ bytes
unfolding row_of
row_back n bytes len fits =
    back_from (λ z. word_bytes (cast_unsigned w32 z)) (λ k. signed_at (4 * k) bytes) n 0 bytes (λ j lt. signed_back (4 * j) bytes (omega (arith, len)) fits)
    ∙ take_all (4 * n) bytes (omega (arith, len))

pub tri_back : (bytes : List ℕ) → length bytes ≡ 12 → All IsByte bytes → tri_bytes (tri_of bytes) ≡ bytes
unfolding words_in
tri_back bytes len fits =
    back_from word_bytes (λ k. word_at (4 * k) bytes) 3 0 bytes (λ j lt. word_back (4 * j) bytes (omega (arith, len, lt)) fits)
    ∙ take_all 12 bytes (omega (arith, len))

-- ---- from a number to bytes, and back to the number

pub short_again : (n : ℕ) → n < 2 ^ 16 → from_le_bytes w16 (short_bytes n) ≡ n
short_again n lt = from_le_bytes-to_le_bytes_2 n lt

pub word_again : (n : ℕ) → n < 2 ^ 32 → from_le_bytes w32 (word_bytes n) ≡ n
word_again n lt = from_le_bytes-to_le_bytes_4 n lt

limits_fit : (z : ℤ) → InLimits z → SFits w32 z
limits_fit (pos n) h = record { sfits = omega (arith, ints, h) }
limits_fit (negsuc n) h = record { sfits = omega (arith, ints, h) }

unsigned_fits : (z : ℤ) → InLimits z → cast_unsigned w32 z < 2 ^ 32
unsigned_fits (pos n) h = omega (arith, ints, h)
unsigned_fits (negsuc n) h = omega (arith, ints, h)

signed_again : (z : ℤ) → InLimits z → cast_signed w32 (from_le_bytes w32 (word_bytes (cast_unsigned w32 z))) ≡ z
signed_again z h = ap (cast_signed w32) (word_again (cast_unsigned w32 z) (unsigned_fits z h)) ∙ to_z-of_z w32 z (limits_fit z h)

-- the entry number k of entries of one size
pub part_flat : {X : Type 0} (enc : X → List ℕ) (size : ℕ) → ((x : X) → length (enc x) ≡ size) → (xs : List X) (k : ℕ) (d : X) → k < length xs → take size (drop (size * k) (flat_map enc xs)) ≡ enc (get_or xs k d)
part_flat enc size len [] k d lt = absurd (omega (arith, lt))
part_flat enc size len (x ∷ xs) zero d lt =
    let none : size * zero ≡ 0 = omega arith in
    rw none (take_at (enc x) (flat_map enc xs) size (len x))
part_flat enc size len (x ∷ xs) (suc k) d lt =
    let more : size * suc k ≡ size + size * k = omega arith in
    let skip : drop (size + size * k) (enc x ++ flat_map enc xs) ≡ drop (size * k) (flat_map enc xs) = sym (drop-drop (size * k) size (enc x ++ flat_map enc xs)) ∙ ap (drop (size * k)) (drop_at (enc x) (flat_map enc xs) size (len x)) in
    rw (more, skip) (part_flat enc size len xs k d (omega arith))

pub row_again : (n : ℕ) (row : List ℤ) → IsRow n row → row_of n (row_bytes row) ≡ row
unfolding row_of
row_again n row h = sym (fill_by_all (λ k. signed_at (4 * k) (row_bytes row)) row n (pos 0) h.0 (λ k lt.
    let inside : k < length row = omega (arith, h.0, lt) in
    sym (ap (λ (b : List ℕ). cast_signed w32 (from_le_bytes w32 b)) (part_flat (λ z. word_bytes (cast_unsigned w32 z)) 4 (λ z. refl) row k (pos 0) inside) ∙ signed_again (get_or row k (pos 0)) (h.1 k (pos 0) inside))))

pub tri_again : (vertices : ℕ) (t : Tri) → vertices ≤ 262144 → IsTri vertices t → tri_of (tri_bytes t) ≡ t
unfolding words_in
tri_again vertices t few h = ap (λ (ws : List ℕ). record { 0 = ws }) (sym (fill_by_all (λ k. word_at (4 * k) (tri_bytes t)) t.0 3 0 h.0 (λ k lt.
    let inside : k < length t.0 = omega (arith, h.0, lt) in
    sym (ap (from_le_bytes w32) (part_flat word_bytes 4 (λ n. refl) t.0 k 0 inside) ∙ word_again (get_or t.0 k 0) (omega (arith, h.1 k 0 inside, few))))))
