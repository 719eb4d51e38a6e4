-- An option's number, as its text is read, and the flag.
use Rattle.std.proofs.Common.{◌≡◌, ◌∙◌, ◌≤◌, ◌==◌, ℕ, Bool, true, false, cond, pos, refl, sym, ap, subst, inl, inr, arith, List, [], ◌∷◌, codes, drop, Option, Some, None, Result, Ok, ◌⊎◌, is_some}
use Rattle.std.specs.Prelude.{find, IfSome}
use Rattle.std.specs.Option.{IsSome, unwrap_or}
use Rattle.std.specs.Str.{bytes_eq}
use Rattle.std.specs.Str.Parse.{IsNumeral, ParsesUnsigned, digits_value, without_leading_plus}
use Rattle.std.proofs.lemmas.Bool.{ne_eqb}
use Rattle.std.proofs.lemmas.Int.{ints}
use Rattle.std.proofs.lemmas.Str.Parse.{digit_from_value}
use Rattle.clap.specs.Words.{IsSignedIn, ReadsOne, Row, Text, one_of, one_text, rows_of, without_minus}
use Rattle.clap.specs.declared.parser.matches.Found.{Found}
use Rattle.clap.proofs.CallerReads.{signed_reads}
use Rattle.clap.proofs.WalkLemmas.{one_text-rows}
use Rattle.command_words.specs.Table.{AnOption}
use Rattle.command_words.specs.Words.{HasValue, HaveValues, IsFlag, IsNumbered, flag_said, number_said}

no_plus : (ds : List ℕ) → IsNumeral 10 ds → without_leading_plus ds ≡ ds
no_plus [] h = refl
no_plus (d ∷ ds) h =
    let plus : (d == 43) ≡ false = ne_eqb _ _ (λ e. omega (arith, digit_from_value d h.1.0)) in
    ap (λ (b : Bool). drop (cond b 1 0) (d ∷ ds)) plus

value_within : (t : Text) (least most : ℕ) → IsSignedIn (pos least) (pos most) t
    → (least ≤ digits_value 10 (without_leading_plus (without_minus t))) × (digits_value 10 (without_leading_plus (without_minus t)) ≤ most)
value_within [] least most h = absurd (omega (arith, h.0.0))
value_within (x ∷ xs) least most h = go (x == 45) refl
  where
    go : (b : Bool) → (x == 45) ≡ b
        → (least ≤ digits_value 10 (without_leading_plus (without_minus (x ∷ xs)))) × (digits_value 10 (without_leading_plus (without_minus (x ∷ xs))) ≤ most)
    go true minus =
        let low_ok = rw minus at h.2 in
        let numeral : IsNumeral 10 xs = rw minus at h.0 in
        rw (minus, no_plus xs numeral) (omega (arith, ints), omega (arith, ints))
    go false minus =
        let low_ok = rw minus at h.2 in
        let high_ok = rw minus at h.3 in
        rw minus (omega (arith, ints), omega (arith, ints))

-- the number, of an option that has one
abbrev number_at : List Row → Text → ℕ
number_at rows name = unwrap_or (number_said (one_of name rows)) 0

-- of all options of a row one that is found by its name has its value
pub value_of : (options : List AnOption) (o : AnOption) (rows : List Row) → find (λ x. bytes_eq x.name o.name) options ≡ Some o → HaveValues options rows → HasValue rows o
value_of [] o rows is has = cc
value_of (x ∷ rest) o rows is has = go (bytes_eq x.name o.name) is (λ later. value_of rest o rows later has.1)
  where
    go : (b : Bool) → cond b (Some x) (find (λ y. bytes_eq y.name o.name) rest) ≡ Some o → (find (λ y. bytes_eq y.name o.name) rest ≡ Some o → HasValue rows o) → HasValue rows o
    go true e rec = subst (HasValue rows) (ap (λ (p : Option AnOption). unwrap_or p x) e) has.0
    go false e rec = rec e

-- the number is in the range
pub read_within : (rows : List Row) (name : Text) (least most n : ℕ) → n ≡ number_at rows name → IsNumbered rows name least most → (least ≤ n) × (n ≤ most)
read_within rows name least most n read is =
    subst (λ m. (least ≤ m) × (m ≤ most)) (sym (read ∙ ap (λ o. unwrap_or (number_said o) 0) is.is)) (value_within is.text least most is.within)

-- the number of an option that may have none
pub said_within : (rows : List Row) (name : Text) (least most : ℕ) (r : Option ℕ) → r ≡ number_said (one_of name rows) → IsNumbered rows name least most ⊎ (one_of name rows ≡ None)
    → IfSome r (λ n. (least ≤ n) × (n ≤ most))
said_within rows name least most r read has =
    let P : Option Text → Type 0 = λ t. IfSome (number_said t) (λ n. (least ≤ n) × (n ≤ most)) in
    let said : P (one_of name rows) = elim has [
      | inl is ↦ subst P (sym is.is) (value_within is.text least most is.within)
      | inr none ↦ subst P (sym none) tt
    ] in
    subst (λ (o : Option ℕ). IfSome o (λ n. (least ≤ n) × (n ≤ most))) (sym read) said

-- and so in a wider one
pub wider : (rows : List Row) (name : Text) (least most upper : ℕ) → IsNumbered rows name least most → most ≤ upper → IsNumbered rows name 0 upper
wider rows name least most upper is below =
    let low = is.within.2 in
    let high = is.within.3 in
    record { text = is.text; is = is.is; within = (is.within.0, is.within.1, omega (arith, ints), omega (arith, ints)) }

module _ {E : Type 0} (G : List ℕ → Result ℕ E → Type 0) (parses : (u : List ℕ) (x : Result ℕ E) → G u x → ParsesUnsigned 32 10 u x) (f : Found) (name : Text) (r : Option ℕ)
    (reads : (t : List ℕ) → one_text f name ≡ Some t → ReadsOne G t r) where
  -- the number is read
  number_read : IsNumbered (rows_of f) name 0 4294967295 → r ≡ number_said (one_of name (rows_of f))
  number_read is =
      let here : ReadsOne G (without_minus is.text) r = reads (without_minus is.text) (one_text-rows f name ∙ is.is) in
      let got = signed_reads E G 32 0 4294967295 is.text r here parses (omega arith) is.within in
      got.1 ∙ ap Some (sym (value got.0 (subst (ReadsOne G (without_minus is.text)) got.1 here))) ∙ ap number_said (sym is.is)
    where
      value : (n : ℕ) → ReadsOne G (without_minus is.text) (Some n) → digits_value 10 (without_leading_plus (without_minus is.text)) ≡ n
      value n here = sym (parses (without_minus is.text) (Ok n) here).1

  -- an option's number is what the getter says, if it has one
  pub number_got : (one_text f name ≡ None → r ≡ None) → IsNumbered (rows_of f) name 0 4294967295 ⊎ (one_of name (rows_of f) ≡ None) → r ≡ number_said (one_of name (rows_of f))
  number_got none may = elim may [
    | inl is ↦ number_read is
    | inr missing ↦ none (one_text-rows f name ∙ missing) ∙ ap number_said (sym missing)
  ]

-- an option that has a number has one
pub number_some : (rows : List Row) (name : Text) (least most : ℕ) (r : Option ℕ) → r ≡ number_said (one_of name rows) → IsNumbered rows name least most → IsSome r
number_some rows name least most r read is = subst (λ (o : Option ℕ). IsSome o) (sym (read ∙ ap number_said is.is)) refl

-- the flag is what the getter says, where its text is one of the two
pub flag_read : (f : Found) (name : Text) (r : Bool) → IsFlag name (rows_of f) → (one_text f name ≡ Some (codes "true") → r ≡ true) → (one_text f name ≡ Some (codes "false") → r ≡ false)
    → r ≡ is_some (flag_said (one_of name (rows_of f)))
flag_read f name r has if_true if_false = elim has [
  | inl is ↦ if_true (one_text-rows f name ∙ is) ∙ sym (ap (λ (o : Option Text). is_some (flag_said o)) is)
  | inr is ↦ if_false (one_text-rows f name ∙ is) ∙ sym (ap (λ (o : Option Text). is_some (flag_said o)) is)
]
