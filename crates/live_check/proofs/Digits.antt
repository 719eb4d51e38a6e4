-- Numbers in decimal: where their text ends, the text tells the number.
use Rattle.std.proofs.Common.{◌≡◌, ℕ, ◌+◌, ◌/◌, ◌%◌, ◌^◌, ◌<◌, ◌≤◌, List, [], ◌∷◌, ◌++◌, length, arith, refl, sym, subst}
use Rattle.std.specs.Fmt.{decimal}
use Rattle.std.specs.List.{AllByRecursion}
use Rattle.std.proofs.Math.Nat.{mod-lt}
use Rattle.std.proofs.lemmas.Fmt.{decimal_by_steps, decimal_injective}
use Rattle.std.proofs.lemmas.List.{length-append}
use Rattle.live_check.specs.Logs.{IsBare}
use Rattle.live_check.specs.Waiting.{IsBehindNumber, IsDigit}
use Rattle.live_check.proofs.Lines.{cons_same, head_same, tail_same}

abbrev pub AreDigits : List ℕ → Type 0
AreDigits ds = AllByRecursion IsDigit ds

digits_append : (ds es : List ℕ) → AreDigits ds → AreDigits es → AreDigits (ds ++ es)
digits_append [] es p q = q
digits_append (d ∷ ds) es p q = (p.0, digits_append ds es p.1 q)

abbrev IsText : ℕ → List ℕ → Type 0
IsText n ds = AreDigits ds × (0 < length ds)

decimal_text : (n : ℕ) → n < 2 ^ 64 → IsText n (decimal n)
decimal_text n small = decimal_by_steps IsText one more n small
  where
    one : (n : ℕ) → n < 10 → IsText n ((48 + n) ∷ [])
    one n lt = (((omega arith, omega (arith, lt)), tt), omega arith)

    more : (n : ℕ) (ds : List ℕ) → 10 ≤ n → IsText (n / 10) ds → IsText n (ds ++ ((48 + n % 10) ∷ []))
    more n ds le text =
        let lt : n % 10 < 10 = mod-lt n (omega arith) in
        (digits_append ds ((48 + n % 10) ∷ []) text.0 ((omega arith, omega (arith, lt)), tt), omega (arith, length-append ds ((48 + n % 10) ∷ []), text.1))

pub decimal_digits : (n : ℕ) → n < 2 ^ 64 → AreDigits (decimal n)
decimal_digits n small = (decimal_text n small).0

pub decimal_some : (n : ℕ) → n < 2 ^ 64 → 0 < length (decimal n)
decimal_some n small = (decimal_text n small).1

-- digits are no newlines
pub digits_bare : (ds : List ℕ) → AreDigits ds → IsBare ds
digits_bare [] p = tt
digits_bare (d ∷ ds) p = ((λ e. omega (arith, e, p.0.0)), digits_bare ds p.1)

pub decimal_bare : (n : ℕ) → n < 2 ^ 64 → IsBare (decimal n)
decimal_bare n small = digits_bare (decimal n) (decimal_digits n small)

-- digits before what is none
pub digits_same : (ds es r q : List ℕ) → AreDigits ds → AreDigits es → IsBehindNumber r → IsBehindNumber q → ds ++ r ≡ es ++ q → (ds ≡ es) × (r ≡ q)
digits_same [] [] r q p s br bq e = (refl, e)
digits_same [] (x ∷ es) r q p s br bq e = absurd ((subst IsBehindNumber e br) s.0)
digits_same (d ∷ ds) [] r q p s br bq e = absurd ((subst IsBehindNumber (sym e) bq) p.0)
digits_same (d ∷ ds) (x ∷ es) r q p s br bq e =
    let rest = digits_same ds es r q p.1 s.1 br bq (tail_same d x (ds ++ r) (es ++ q) e) in
    (cons_same d x ds es (head_same d x (ds ++ r) (es ++ q) e) rest.0, rest.1)

pub decimal_same : (n m : ℕ) (r q : List ℕ) → n < 2 ^ 64 → m < 2 ^ 64 → IsBehindNumber r → IsBehindNumber q → decimal n ++ r ≡ decimal m ++ q → (n ≡ m) × (r ≡ q)
decimal_same n m r q sn sm br bq e =
    let same = digits_same (decimal n) (decimal m) r q (decimal_digits n sn) (decimal_digits m sm) br bq e in
    (decimal_injective n m sn sm same.0, same.1)
