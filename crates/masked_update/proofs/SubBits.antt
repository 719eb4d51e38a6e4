-- The subtiles of a span, as bits.
use Rattle.std.proofs.Common.{◌≡◌, ℕ, ◌+◌, ◌-◌, ◌*◌, ◌/◌, ◌%◌, ◌<◌, ◌≤◌, ◌^◌, ◌&&◌, Bool, true, false, cond, nat_lt, arith, refl, ap, ◌∙◌, sym, bit_and, min}
use Rattle.std.specs.Int.{bit_at}
use Rattle.std.proofs.lemmas.Bool.Decides.{nat_tests}
use Rattle.std.proofs.lemmas.Nat.Bits.{bit_at_and, bit_at_cat_low, bit_at_cat_high}
use Rattle.cull_base.specs.Span.{is_between}
use Rattle.cull_base.proofs.EightLanes.{ones_at}
use Rattle.masked_update.specs.Grid.{is_in_rows}

-- four bits, and the same four above them
twice_at : (a j : ℕ) → a < 16 → j < 8 → bit_at (a * 17) j ≡ bit_at a (j % 4)
twice_at a j small lt = ap (λ n. bit_at n j) split ∙ by (nat_lt j 4) refl
  where
    split : a * 17 ≡ a * 2 ^ 4 + a
    split = omega arith

    by : (b : Bool) → nat_lt j 4 ≡ b → bit_at (a * 2 ^ 4 + a) j ≡ bit_at a (j % 4)
    by true e = let low : j < 4 = grind (arith, nat_tests) in let same : j % 4 ≡ j = omega arith in bit_at_cat_low a 4 a j low ∙ ap (bit_at a) (sym same)
    by false e = let high : 4 ≤ j = grind (arith, nat_tests) in let same : j % 4 ≡ j - 4 = omega arith in bit_at_cat_high a 4 a j (omega arith) high ∙ ap (bit_at a) (sym same)

-- a number in fours
fours : (first end j : ℕ) → is_between (4 * first) (4 * end) j ≡ is_between first end (j / 4)
fours first end j = grind (arith, nat_tests)

of_both : (a b : Bool) → min (cond a 1 0) (cond b 1 0) ≡ cond (b && a) 1 0
of_both true true = refl
of_both true false = refl
of_both false true = refl
of_both false false = refl

pub sub_bits : (first_column end_column first_row end_row columns rows j : ℕ) → columns ≡ 2 ^ end_column - 2 ^ first_column → rows ≡ 2 ^ (4 * end_row) - 2 ^ (4 * first_row) → columns < 16 → j < 8
    → bit_at (bit_and (columns * 17) rows) j ≡ cond (is_in_rows 4 first_row end_row first_column end_column j) 1 0
sub_bits fc ec fr er columns rows j is_columns is_rows small lt =
    bit_at_and (columns * 17) rows j
    ∙ ap (λ n. min n (bit_at rows j)) (twice_at columns j small lt ∙ ap (λ n. bit_at n (j % 4)) is_columns ∙ ones_at fc ec (j % 4))
    ∙ ap (min (cond (is_between fc ec (j % 4)) 1 0)) (ap (λ n. bit_at n j) is_rows ∙ ones_at (4 * fr) (4 * er) j ∙ ap (λ b. cond b 1 0) (fours fr er j))
    ∙ of_both (is_between fc ec (j % 4)) (is_between fr er (j / 4))
