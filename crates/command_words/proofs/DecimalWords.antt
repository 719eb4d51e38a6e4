-- A number in decimal, as a word: it is no flag, and an option takes it whose range it is in.
use Rattle.std.proofs.Common.{◌≡◌, ◌∙◌, ◌<◌, ◌≤◌, ◌^◌, ◌==◌, ℕ, pos, true, false, refl, ap, arith, List, [], ◌∷◌, length, None, slice_index}
use Rattle.std.specs.Fmt.{decimal}
use Rattle.std.specs.Int.{IsInRange, w64}
use Rattle.std.specs.Prelude.{FitsSigned}
use Rattle.std.specs.Str.{bytes_eq}
use Rattle.std.specs.Str.Parse.{IsNumeral, digits_value, starts_with_minus, without_leading_plus}
use Rattle.std.proofs.lemmas.Bool.{ne_eqb}
use Rattle.std.proofs.lemmas.Fmt.{decimal_is_IsNumeral}
use Rattle.std.proofs.lemmas.Int.{ints}
use Rattle.std.proofs.lemmas.Str.Parse.{digit_at}
use Rattle.clap.specs.Lexer.{strip_byte}
use Rattle.clap.specs.ValueTests.{accepts}
use Rattle.clap.specs.declared.builder.value_parser.ValueParser.TheVariants.{Signed}
use Rattle.clap.proofs.ValueTestLemmas.{Accepts-accepts}

-- the word begins with none of the bytes that tell flags and signs
pub record IsBare (word : List ℕ) : Type 0 where
  pub hyphen : strip_byte 45 word ≡ None
  pub hyphens : bytes_eq word (45 ∷ 45 ∷ []) ≡ false
  pub minus : starts_with_minus word ≡ false
  pub plus : without_leading_plus word ≡ word

bare : (word : List ℕ) → 0 < length word → IsInRange 48 57 (slice_index word 0) → IsBare word
bare [] some first = absurd (omega arith)
bare (d ∷ ds) some first =
    let hyphen : (d == 45) ≡ false = ne_eqb d 45 (omega arith) in
    let plus : (d == 43) ≡ false = ne_eqb d 43 (omega arith) in
    record {
      hyphen = rw hyphen refl;
      hyphens = rw hyphen refl;
      minus = hyphen;
      plus = rw plus refl;
    }

pub bare_number : (n : ℕ) → n < 2 ^ 64 → IsBare (decimal n)
bare_number n small =
    let is : IsNumeral 10 (decimal n) = (decimal_is_IsNumeral n small).0 in
    bare (decimal n) is.0 (digit_at (decimal n) 0 is.1 is.0)

pub number_read : (n : ℕ) → n < 2 ^ 64 → digits_value 10 (without_leading_plus (decimal n)) ≡ n
number_read n small = ap (digits_value 10) (bare_number n small).plus ∙ (decimal_is_IsNumeral n small).1

pub number_accepted : (least most n : ℕ) → most < 2 ^ 63 → least ≤ n → n ≤ most → accepts false (Signed (pos least) (pos most)) (decimal n) ≡ true
number_accepted least most n small above below =
    let fits : n < 2 ^ 64 = omega arith in
    let word = bare_number n fits in
    let is : IsNumeral 10 (decimal n) = (decimal_is_IsNumeral n fits).0 in
    let value : digits_value 10 (decimal n) ≡ n = (decimal_is_IsNumeral n fits).1 in
    let signed : FitsSigned w64 (pos n) = record { sfits = omega arith } in
    Accepts-accepts false (Signed (pos least) (pos most)) (decimal n)
    (rw (word.minus, word.plus, value) (is, signed, omega (arith, ints), omega (arith, ints)))
