-- What one use of an option adds to the matches, and that it has no fault.
use Rattle.std.proofs.Common.{◌≡◌, ◌∙◌, ◌<◌, ◌^◌, ◌||◌, ℕ, Bool, true, false, cond, pos, refl, ap, List, [], ◌∷◌, ◌++◌, Some, None, codes, Option, true≢false}
use Rattle.std.specs.Fmt.{decimal}
use Rattle.std.specs.Str.{bytes_eq}
use Rattle.clap.specs.Walk.{Row, Text, at_row, has_row, more_values, used}
use Rattle.clap.specs.Faults.{use_fault}
use Rattle.clap.specs.ValueTests.{accepts}
use Rattle.clap.specs.declared.builder.value_parser.Reading.{Reading}
use Rattle.clap.specs.declared.builder.value_parser.Reading.TheVariants.{AsWritten, WithoutMinus}
use Rattle.clap.specs.declared.builder.value_parser.ValueParser.TheVariants.{Signed}
use Rattle.clap.specs.declared.parser.matches.ValueSource.{ValueSource}
use Rattle.clap.specs.declared.parser.matches.ValueSource.TheVariants.{CommandLine}
use Rattle.command_words.specs.Table.{Taken}
use Rattle.command_words.specs.Words.{IsIn, Use}
use Rattle.command_words.specs.declared.rows.Takes.TheVariants.{Number, Nothing}
use Rattle.command_words.proofs.DecimalWords.{number_accepted}
use Rattle.command_words.proofs.OptionRules.{ready_by}

-- the values behind an option's name
abbrev pub given_by : Taken → ℕ → List Text
given_by (Number least most default) n = decimal n ∷ []
given_by Nothing n = []

-- the value that its row has
abbrev pub kept_by : Taken → ℕ → Text
kept_by (Number least most default) n = decimal n
kept_by Nothing n = codes "true"

abbrev pub reading_by : Taken → Reading
reading_by (Number least most default) = WithoutMinus
reading_by Nothing = AsWritten

abbrev pub row_by : Text → Taken → Text → ValueSource → Row
row_by name takes text source = record { id = name; values = text ∷ []; count = None; source = Some source; reading = reading_by takes }

abbrev pub given_for : Use → List Text
given_for u = given_by u.option.takes u.number

abbrev pub row_for : Use → Row
row_for u = row_by u.option.name u.option.takes (kept_by u.option.takes u.number) CommandLine

pub neither : (a b : Bool) → (a || b) ≡ false → (a ≡ false) × (b ≡ false)
neither true b e = absurd (true≢false e)
neither false b e = (refl, e)

-- where no row has the id, the missing ones come at the end
pub at_row-missing : (id : Text) (change : Row → List Row) (missing rows : List Row) → has_row id rows ≡ false → at_row id change missing rows ≡ rows ++ missing
at_row-missing id change missing [] none = refl
at_row-missing id change missing (r ∷ rows) none =
    let parts = neither (bytes_eq r.id id) (has_row id rows) none in
    ap (λ b. cond b (change r ++ rows) (r ∷ at_row id change missing rows)) parts.0 ∙ ap (λ rs. r ∷ rs) (at_row-missing id change missing rows parts.1)

pub append_nil : (rows : List Row) → rows ++ [] ≡ rows
append_nil [] = refl
append_nil (r ∷ rows) = ap (λ rs. r ∷ rs) (append_nil rows)

-- a new row comes to the end
set_new : (name : Text) (values : List Text) (r : Row) (rows : List Row) → has_row name rows ≡ false
    → at_row name (more_values CommandLine values) (r ∷ []) (at_row name (λ _. []) [] rows) ≡ rows ++ r ∷ []
set_new name values r rows none =
    ap (at_row name (more_values CommandLine values) (r ∷ [])) (at_row-missing name (λ _. []) [] rows none ∙ append_nil rows)
    ∙ at_row-missing name (more_values CommandLine values) (r ∷ []) rows none

-- a number of an option that wasn't used before
pub number_new : (name : Text) (least most : ℕ) (default : Option Text) (text : Text) (rows : List Row) → has_row name rows ≡ false
    → used (ready_by name (Number least most default)) (text ∷ []) rows ≡ rows ++ row_by name (Number least most default) text CommandLine ∷ []
number_new name least most default text rows none = set_new name (text ∷ []) (row_by name (Number least most default) text CommandLine) rows none

-- the first use of a flag
pub flag_new : (name : Text) (rows : List Row) → has_row name rows ≡ false → used (ready_by name Nothing) [] rows ≡ rows ++ row_by name Nothing (codes "true") CommandLine ∷ []
flag_new name rows none = set_new name (codes "true" ∷ []) (row_by name Nothing (codes "true") CommandLine) rows none

-- the use of an option that wasn't used before
pub new_by : (name : Text) (takes : Taken) (n : ℕ) (rows : List Row) → has_row name rows ≡ false
    → used (ready_by name takes) (given_by takes n) rows ≡ rows ++ row_by name takes (kept_by takes n) CommandLine ∷ []
new_by name (Number least most default) n rows none = number_new name least most default (decimal n) rows none
new_by name Nothing n rows none = flag_new name rows none

-- the numbers of the option are small
abbrev pub IsSmall : Taken → Type 0
IsSmall (Number least most default) = most < 2 ^ 63
IsSmall Nothing = Unit {0}

-- the use fails nowhere
pub passes_by : (name : Text) (takes : Taken) (n : ℕ) (rows : List Row) → IsSmall takes → IsIn takes n → has_row name rows ≡ false → use_fault false (ready_by name takes) (given_by takes n) rows ≡ []
passes_by name (Number least most default) n rows small within none =
    let taken : accepts false (Signed (pos least) (pos most)) (decimal n) ≡ true = number_accepted least most n small within.0 within.1 in
    rw (none, taken) refl
passes_by name Nothing n rows small within none = rw none refl
