-- The matches at the end of plain words: each option has the number that its use states, or its default.
use Rattle.std.proofs.Common.{◌≡◌, ◌∙◌, ◌<◌, ◌^◌, ◌&&◌, ◌||◌, ℕ, Bool, true, false, cond, not, pos, refl, sym, ap, subst, inl, inr, List, [], ◌∷◌, ◌++◌, map, Option, Some, None, codes, append-nil, true≢false, option_map, arith}
use Rattle.std.specs.Fmt.{decimal}
use Rattle.std.specs.List.{AllByRecursion, find, fold, list_any}
use Rattle.std.specs.Option.{option_map_or, unwrap_or}
use Rattle.std.specs.Prelude.{option_and_then}
use Rattle.std.specs.Str.{bytes_eq}
use Rattle.std.specs.Str.Parse.{digits_value, without_leading_plus}
use Rattle.std.proofs.lemmas.Slice.Eq.{bytes_eq-Decides}
use Rattle.clap.specs.Lexer.{without_minus}
use Rattle.clap.specs.Walk.{Row, Text, at_row, has_row, more_values, row_text, with_default}
use Rattle.clap.specs.Faults.{default_fault, defaults_fault, given_default_fault}
use Rattle.clap.specs.Kinds.{Kinds, or_else}
use Rattle.clap.specs.Takes.{is_given}
use Rattle.clap.specs.ValueTests.{accepts}
use Rattle.clap.specs.declared.builder.value_parser.ValueParser.TheVariants.{Signed}
use Rattle.clap.specs.declared.parser.matches.ValueSource.TheVariants.{CommandLine, DefaultValue}
use Rattle.command_words.specs.Table.{AnOption, Taken}
use Rattle.command_words.specs.Words.{IsIn, Use, default_by, stated, value_by, value_in}
use Rattle.command_words.specs.declared.rows.Takes.TheVariants.{Number, Nothing}
use Rattle.command_words.proofs.DecimalWords.{bare_number, number_read}
use Rattle.command_words.proofs.OptionRules.{IsOf, apart_from, are_apart, differs_back, ready, ready_by, ready_help, rules_for, same_option, same_text}
use Rattle.command_words.proofs.UseRows.{IsSmall, at_row-missing, kept_by, row_by, row_for}
use Rattle.command_words.proofs.UseWalk.{AreFine, HasDefault, IsFine, IsUse}
use Rattle.clap.proofs.WalkLemmas.{both}

-- ---- no default is refused

no_kinds : (b : Bool) (kinds : Kinds) → kinds ≡ [] → cond b [] kinds ≡ []
no_kinds true kinds none = refl
no_kinds false kinds none = none

or_true : (b : Bool) → (b || true) ≡ true
or_true true = refl
or_true false = refl

default_passes : (name : Text) (takes : Taken) (rows : List Row) → HasDefault takes → default_fault rows (ready_by name takes) ≡ []
default_passes name (Number least most (Some text)) rows has =
    let taken : accepts false (Signed (pos least) (pos most)) text ≡ true = has.0 in
    let none : given_default_fault (ready_by name (Number least most (Some text))) (text ∷ []) ≡ [] = rw taken refl in
    no_kinds (has_row name rows || false) _ none
default_passes name (Number least most None) rows has = ap (λ b. cond b [] (given_default_fault (ready_by name (Number least most None)) [])) (or_true (has_row name rows))
default_passes name Nothing rows has = no_kinds (has_row name rows || false) (given_default_fault (ready_by name Nothing) (codes "false" ∷ [])) refl

pub defaults_pass : (options : List AnOption) (rows : List Row) → ((o : AnOption) → IsOf o options → IsFine o) → defaults_fault rows (rules_for options) ≡ []
unfolding defaults_fault
defaults_pass [] rows fine = ap (λ b. or_else (cond b [] (given_default_fault ready_help [])) []) (or_true (has_row ready_help.id rows))
defaults_pass (x ∷ rest) rows fine =
    ap (λ k. or_else k (defaults_fault (with_default rows (ready x)) (rules_for rest))) (default_passes x.name x.takes rows (fine x (inl refl)).default)
    ∙ defaults_pass rest (with_default rows (ready x)) (λ o of. fine o (inr of))

pub none_required : (options : List AnOption) (rows : List Row) → list_any (λ a. a.required && not (is_given a.id rows)) (rules_for options) ≡ false
none_required [] rows = refl
none_required (x ∷ rest) rows = none_required rest rows

-- ---- what an option has among the rows

abbrev found_row : Text → List Row → Option Row
found_row id = find (λ r. bytes_eq r.id id)

pub has_row-more : (id : Text) (rows more : List Row) → has_row id (rows ++ more) ≡ (has_row id rows || has_row id more)
has_row-more id [] more = refl
has_row-more id (r ∷ rows) more = go (bytes_eq r.id id) (has_row-more id rows more)
  where
    go : (b : Bool) → has_row id (rows ++ more) ≡ (has_row id rows || has_row id more) → (b || has_row id (rows ++ more)) ≡ ((b || has_row id rows) || has_row id more)
    go true e = refl
    go false e = e

found_later : (id : Text) (rows more : List Row) → has_row id rows ≡ false → found_row id (rows ++ more) ≡ found_row id more
found_later id [] more none = refl
found_later id (r ∷ rows) more none = go (bytes_eq r.id id) none (λ later. found_later id rows more later)
  where
    go : (b : Bool) → (b || has_row id rows) ≡ false → (has_row id rows ≡ false → found_row id (rows ++ more) ≡ found_row id more)
        → cond b (Some r) (found_row id (rows ++ more)) ≡ found_row id more
    go true e rest = absurd (true≢false e)
    go false e rest = rest e

-- rows without the id behind the others change nothing for it
behind_rows : (id : Text) (rows others : List Row) → has_row id others ≡ false → found_row id (rows ++ others) ≡ found_row id rows
behind_rows id [] others none = ap (found_row id) (sym (append-nil others)) ∙ found_later id others [] none
behind_rows id (r ∷ rows) others none = ap (λ (o : Option Row). cond (bytes_eq r.id id) (Some r) o) (behind_rows id rows others none)

-- ---- the defaults come in

-- the row of the default, if there is one
abbrev pub default_row : Text → Taken → Option Row
default_row name (Number least most default) = option_map (λ text. row_by name (Number least most default) text DefaultValue) default
default_row name Nothing = Some (row_by name Nothing (codes "false") DefaultValue)

abbrev default_rows : Text → Taken → List Row
default_rows name takes = option_map_or (λ r. r ∷ []) (default_row name takes) []

-- the rule adds its default's row where it has none
added : (name : Text) (values : List Text) (d : Row) (rows : List Row) → cond (has_row name rows) rows (at_row name (more_values DefaultValue values) (d ∷ []) rows) ≡ cond (has_row name rows) rows (rows ++ d ∷ [])
added name values d rows = go (has_row name rows) refl
  where
    go : (b : Bool) → has_row name rows ≡ b → cond b rows (at_row name (more_values DefaultValue values) (d ∷ []) rows) ≡ cond b rows (rows ++ d ∷ [])
    go true some = refl
    go false none = at_row-missing name (more_values DefaultValue values) (d ∷ []) rows none

adds : (name : Text) (takes : Taken) (rows : List Row) → with_default rows (ready_by name takes) ≡ cond (has_row name rows) rows (rows ++ default_rows name takes)
adds name (Number least most (Some text)) rows = added name (text ∷ []) (row_by name (Number least most (Some text)) text DefaultValue) rows
adds name (Number least most None) rows = go (has_row name rows)
  where
    go : (b : Bool) → cond b rows rows ≡ cond b rows (rows ++ [])
    go true = refl
    go false = sym (append-nil rows)
adds name Nothing rows = added name (codes "false" ∷ []) (row_by name Nothing (codes "false") DefaultValue) rows

-- the default's row is of the option
default_named : (name id : Text) (takes : Taken) → bytes_eq name id ≡ false → has_row id (default_rows name takes) ≡ false
default_named name id (Number least most (Some text)) differs = ap (λ b. b || false) differs
default_named name id (Number least most None) differs = refl
default_named name id Nothing differs = ap (λ b. b || false) differs

default_found : (name : Text) (takes : Taken) → found_row name (default_rows name takes) ≡ default_row name takes
default_found name (Number least most (Some text)) = ap (λ b. cond b (Some (row_by name (Number least most (Some text)) text DefaultValue)) None) (same_text name)
default_found name (Number least most None) = refl
default_found name Nothing = ap (λ b. cond b (Some (row_by name Nothing (codes "false") DefaultValue)) None) (same_text name)

-- nothing changes for another id
beside_default : (name : Text) (takes : Taken) (id : Text) (rows : List Row) → bytes_eq name id ≡ false → found_row id (with_default rows (ready_by name takes)) ≡ found_row id rows
beside_default name takes id rows differs = ap (found_row id) (adds name takes rows) ∙ go (has_row name rows)
  where
    go : (b : Bool) → found_row id (cond b rows (rows ++ default_rows name takes)) ≡ found_row id rows
    go true = refl
    go false = behind_rows id rows (default_rows name takes) (default_named name id takes differs)

has_beside : (name : Text) (takes : Taken) (id : Text) (rows : List Row) → bytes_eq name id ≡ false → has_row id (with_default rows (ready_by name takes)) ≡ has_row id rows
has_beside name takes id rows differs = ap (has_row id) (adds name takes rows) ∙ go (has_row name rows)
  where
    or_no : (b : Bool) → (b || false) ≡ b
    or_no true = refl
    or_no false = refl

    go : (b : Bool) → has_row id (cond b rows (rows ++ default_rows name takes)) ≡ has_row id rows
    go true = refl
    go false = has_row-more id rows (default_rows name takes) ∙ ap (λ b. has_row id rows || b) (default_named name id takes differs) ∙ or_no (has_row id rows)

-- its own row is there: the one that it had, or its default's
own_default : (name : Text) (takes : Taken) (rows : List Row) → found_row name (with_default rows (ready_by name takes)) ≡ cond (has_row name rows) (found_row name rows) (default_row name takes)
own_default name takes rows = ap (found_row name) (adds name takes rows) ∙ go (has_row name rows) refl
  where
    go : (b : Bool) → has_row name rows ≡ b → found_row name (cond b rows (rows ++ default_rows name takes)) ≡ cond b (found_row name rows) (default_row name takes)
    go true e = refl
    go false e = found_later name rows (default_rows name takes) e ∙ default_found name takes

help_stays : (rows : List Row) → with_default rows ready_help ≡ rows
help_stays rows = go (has_row ready_help.id rows)
  where
    go : (b : Bool) → cond b rows rows ≡ rows
    go true = refl
    go false = refl

-- the options of other names change nothing
others_stay : (x : AnOption) (options : List AnOption) (rows : List Row) → ((o : AnOption) → IsOf o options → bytes_eq x.name o.name ≡ false) → found_row x.name (fold with_default rows (rules_for options)) ≡ found_row x.name rows
others_stay x [] rows differ = ap (found_row x.name) (help_stays rows)
others_stay x (y ∷ rest) rows differ =
    others_stay x rest (with_default rows (ready y)) (λ o of. differ o (inr of)) ∙ beside_default y.name y.takes x.name rows (differs_back x.name y.name (differ y (inl refl)))

-- the row that is found at the end: the one that was there, or the default's
abbrev IsLast : AnOption → List AnOption → List Row → Type 0
IsLast o options rows = found_row o.name (fold with_default rows (rules_for options)) ≡ cond (has_row o.name rows) (found_row o.name rows) (default_row o.name o.takes)

pub found_last : (options : List AnOption) (o : AnOption) (rows : List Row) → are_apart options ≡ true → IsOf o options → IsLast o options rows
found_last [] o rows apart of = absurd of
found_last (x ∷ rest) o rows apart of =
    let parts = both _ _ apart in
    elim of [
      | inl e ↦ subst (λ (z : AnOption). IsLast z (x ∷ rest) rows) e
          (others_stay x rest (with_default rows (ready x)) (λ y of. apart_from x rest y parts.0 of) ∙ own_default x.name x.takes rows)
      | inr later ↦
          let differs = apart_from x rest o parts.0 later in
          found_last rest o (with_default rows (ready x)) parts.1 later
          ∙ ap (λ b. cond b (found_row o.name (with_default rows (ready x))) (default_row o.name o.takes)) (has_beside x.name x.takes o.name rows differs)
          ∙ ap (λ (r : Option Row). cond (has_row o.name rows) r (default_row o.name o.takes)) (beside_default x.name x.takes o.name rows differs)
    ]

-- ---- the numbers

abbrev read : Text → ℕ
read text = digits_value 10 (without_leading_plus text)

number_is : (n : ℕ) → n < 2 ^ 64 → read (without_minus (decimal n)) ≡ n
number_is n small = ap (λ (o : Option Text). read (unwrap_or o (decimal n))) (bare_number n small).hyphen ∙ number_read n small

use_value : (name : Text) (takes : Taken) (n : ℕ) → IsSmall takes → IsIn takes n → value_by takes (row_text (row_by name takes (kept_by takes n) CommandLine)) ≡ Some n
use_value name (Number least most default) n small within = let upper = within.1 in ap Some (number_is n (omega arith))
use_value name Nothing n small within = ap Some (sym within)

default_value : (name : Text) (takes : Taken) → HasDefault takes → value_by takes (option_and_then row_text (default_row name takes)) ≡ default_by takes
default_value name (Number least most (Some text)) has = ap Some has.1
default_value name (Number least most None) has = refl
default_value name Nothing has = refl

-- the value of an option among rows, or behind them its default's
abbrev value_of_row : AnOption → Option Row → Option ℕ
value_of_row o r = value_by o.takes (option_and_then row_text r)

module _ (name : Text) (options : List AnOption) (fine : AreFine options) (o : AnOption) (of : IsOf o options) where
  -- the number that an option has where these uses made the rows
  used_value : (uses : List Use) → AllByRecursion (IsUse name options fine) uses
      → value_of_row o (cond (has_row o.name (map row_for uses)) (found_row o.name (map row_for uses)) (default_row o.name o.takes)) ≡ stated uses o
  used_value [] are = default_value o.name o.takes (fine.each o of).default
  used_value (u ∷ rest) are = go (bytes_eq u.option.name o.name) refl (used_value rest are.1)
    where
      of_use : u.option ≡ o → value_of_row o (Some (row_for u)) ≡ Some u.number
      of_use e = subst (λ (x : AnOption). value_of_row x (Some (row_for u)) ≡ Some u.number) e (use_value u.option.name u.option.takes u.number (fine.each u.option are.0.of).small are.0.within)

      go : (b : Bool) → bytes_eq u.option.name o.name ≡ b
          → value_of_row o (cond (has_row o.name (map row_for rest)) (found_row o.name (map row_for rest)) (default_row o.name o.takes)) ≡ stated rest o
          → value_of_row o (cond (b || has_row o.name (map row_for rest)) (cond b (Some (row_for u)) (found_row o.name (map row_for rest))) (default_row o.name o.takes))
          ≡ option_map_or (λ (v : Use). Some v.number) (cond b (Some u) (find (λ v. bytes_eq v.option.name o.name) rest)) (default_by o.takes)
      go true e rec = of_use (same_option options u.option o fine.apart are.0.of of ((bytes_eq-Decides u.option.name o.name).0 e))
      go false e rec = rec

  pub value_last : (uses : List Use) → AllByRecursion (IsUse name options fine) uses → value_in (fold with_default (map row_for uses) (rules_for options)) o ≡ stated uses o
  value_last uses are = ap (value_of_row o) (found_last options o (map row_for uses) fine.apart of) ∙ used_value uses are
