-- What words ask for, by what `clap` makes of them.
use Rattle.std.proofs.Common.{◌≡◌, ◌∙◌, ◌<◌, ◌≤◌, ◌+◌, ℕ, map, Bool, true, false, cond, refl, sym, ap, subst, inl, inr, zero, suc, arith, List, [], ◌∷◌, length, option_map, Option, Some, None, Result, IfOk, IfErr, drop, get_or}
use Rattle.std.specs.Prelude.{Box, Contains, IfSome, find, option_and_then}
use Rattle.std.specs.Borrow.{Bor}
use Rattle.std.specs.Box.{box_value}
use Rattle.std.specs.Option.{ok_or, unwrap_or}
use Rattle.std.specs.Str.{bytes_eq}
use Rattle.clap.specs.Walk.{is_empty}
use Rattle.clap.specs.Words.{Row, Text, fault_of, subcommand_name_of, subcommand_of, subcommand_rows, subcommand_rows_of}
use Rattle.clap.specs.declared.parser.matches.ArgMatches.{ArgMatches}
use Rattle.clap.specs.declared.parser.matches.ArgMatches.TheViews.{out-ArgMatches, out-SubCommand}
use Rattle.clap.specs.declared.parser.matches.SubCommand.{SubCommand}
use Rattle.command_words.specs.App.{the_app}
use Rattle.command_words.specs.Table.{ACommand, AnOption, commands, row_named, row_of}
use Rattle.command_words.specs.Words.{ArePlain, AreWords, HaveValues, IsEntered, asked_by, asked_in, command_of, options_by, own_values, stated, value_in}
use Rattle.command_words.specs.declared.table.Command.{Command}
use Rattle.command_words.specs.declared.table.CommandKind.{CommandKind}
use Rattle.command_words.specs.declared.rows.CommandRow.{CommandRow}
use Rattle.command_words.specs.declared.rows.OptionRow.{OptionRow}
use Rattle.command_words.specs.declared.words.Refusal.{Refusal}
use Rattle.command_words.specs.declared.words.Refusal.TheVariants as refusals
use Rattle.command_words.proofs.OptionRules.{IsOf, tail_of}
use Rattle.command_words.proofs.PlainWords.{agree_at, taken}
use Rattle.command_words.proofs.TakenWords.{entered_values}

pub asked : (words : List Text) (sub : Option (Text × List Row)) → fault_of the_app words ≡ [] → subcommand_of the_app words ≡ sub
    → command_of words ≡ option_and_then (λ p. asked_in p.0 p.1) sub
unfolding command_of
asked words sub none enters =
    ap (λ k. cond (is_empty k) (option_and_then (λ p. asked_in p.0 p.1) (subcommand_of the_app words)) None) none
    ∙ ap (option_and_then (λ (p : Text × List Row). asked_in p.0 p.1)) enters

pub none_asked : (words : List Text) → is_empty (fault_of the_app words) ≡ false → command_of words ≡ None
unfolding command_of
none_asked words fails = ap (λ b. cond b (option_and_then (λ p. asked_in p.0 p.1) (subcommand_of the_app words)) None) fails

-- ---- plain words ask for what they say

-- what a command asks for is that of the values of its own options
found_same : (values others : AnOption → Option ℕ) (p : AnOption → Bool) (options : List AnOption) → ((o : AnOption) → IsOf o options → values o ≡ others o) → option_and_then values (find p options) ≡ option_and_then others (find p options)
found_same values others p [] same = refl
found_same values others p (x ∷ rest) same = go (p x) (found_same values others p rest (λ o of. same o (inr of)))
  where
    go : (b : Bool) → option_and_then values (find p rest) ≡ option_and_then others (find p rest) → option_and_then values (cond b (Some x) (find p rest)) ≡ option_and_then others (cond b (Some x) (find p rest))
    go true later = same x (inl refl)
    go false later = later

own_same : (row : ACommand) (values others : AnOption → Option ℕ) → ((o : AnOption) → IsOf o row.options → values o ≡ others o) → own_values row.options values ≡ own_values row.options others
own_same row values others same = λ i o. found_same values others (λ x. bytes_eq x.name o.name) row.options same i

-- a row of the table has the options of its kind, and is found by its name
record IsOwn (row : ACommand) : Type 0 where
  options : options_by row.kind ≡ row.options
  named : row_named row.name ≡ Some row

all_options : map (λ (row : ACommand). options_by row.kind) commands ≡ map (λ (row : ACommand). row.options) commands
all_options = refl

all_named : map (λ (row : ACommand). row_named row.name) commands ≡ map (λ (row : ACommand). Some row) commands
all_named = refl

is_own : (row : ACommand) → Contains commands row → IsOwn row
is_own row c = record {
  options = agree_at (λ (r : ACommand). options_by r.kind) (λ (r : ACommand). r.options) commands row c.0 all_options c.1 c.2;
  named = agree_at (λ (r : ACommand). row_named r.name) (λ (r : ACommand). Some r) commands row c.0 all_named c.1 c.2;
}

pub plain_asked : (words : List Text) (c : Command) → ArePlain words c → command_of words ≡ Some c
plain_asked words c plain =
    let row = plain.0 in
    let p = plain.2 in
    let t = taken row plain.1 p.program p.uses p.are_uses in
    let own = is_own row plain.1 in
    ap command_of p.spelled ∙ asked _ _ t.no_fault t.entered ∙ ap (option_map (λ (r : ACommand). asked_by r.kind (own_values r.options (value_in t.rows)))) own.named
    ∙ ap Some (ap (asked_by row.kind) (own_same row (value_in t.rows) (stated p.uses) t.values) ∙ p.asked)

-- ---- the search for a row by its name

abbrev ARow : Type 0
ARow = CommandRow (Bor Text) (Bor (List (OptionRow (Bor Text))))

-- the row of this name among those from the k-th on
abbrev pub row_from : Text → List ARow → ℕ → Option ACommand
row_from name items k = find (λ row. bytes_eq row.name name) (drop k (map row_of items))

passed : (name : Text) (items : List ARow) (k : ℕ) (d : ARow) → k < length items → bytes_eq (get_or items k d).name.now name ≡ false → row_from name items k ≡ row_from name items (suc k)
passed name [] k d lt misses = absurd (omega arith)
passed name (x ∷ rest) zero d lt misses = ap (λ b. cond b (Some (row_of x)) (row_from name rest 0)) misses
passed name (x ∷ rest) (suc k) d lt misses = passed name rest k d (omega arith) misses

pub row_passed : (name : Text) (items : List ARow) (k : ℕ) (d : ARow) → k < length items → bytes_eq (get_or items k d).name.now name ≡ false → row_from name items k ≡ row_from name items (k + 1)
row_passed name items k d lt misses = let on : suc k ≡ k + 1 = omega arith in passed name items k d lt misses ∙ ap (row_from name items) on

pub row_met : (name : Text) (items : List ARow) (k : ℕ) (d : ARow) → k < length items → bytes_eq (get_or items k d).name.now name ≡ true → row_from name items k ≡ Some (row_of (get_or items k d))
row_met name [] k d lt hits = absurd (omega arith)
row_met name (x ∷ rest) zero d lt hits = ap (λ b. cond b (Some (row_of x)) (row_from name rest 0)) hits
row_met name (x ∷ rest) (suc k) d lt hits = row_met name rest k d (omega arith) hits

pub no_row : (name : Text) (items : List ARow) (k : ℕ) → length items ≤ k → row_from name items k ≡ None
no_row name [] zero le = refl
no_row name [] (suc k) le = refl
no_row name (x ∷ rest) zero le = absurd (omega arith)
no_row name (x ∷ rest) (suc k) le = no_row name rest k (omega arith)

-- functions that agree on all rows agree on one that was found
found_alike : {Y : Type 0} (f g : ACommand → Y) (p : ACommand → Bool) (rows : List ACommand) (row : ACommand) → map f rows ≡ map g rows → find p rows ≡ Some row → f row ≡ g row
found_alike {Y} f g p [] row same e = cc
found_alike {Y} f g p (x ∷ rest) row same e = go (p x) e (λ later. found_alike f g p rest row (ap (λ (l : List Y). tail_of l) same) later)
  where
    go : (b : Bool) → cond b (Some x) (find p rest) ≡ Some row → (find p rest ≡ Some row → f row ≡ g row) → f row ≡ g row
    go true e rec = subst (λ (r : ACommand). f r ≡ g r) (ap (λ o. unwrap_or o x) e) (ap (λ (l : List Y). get_or l 0 (f x)) same)
    go false e rec = rec e

own_options : (name : Text) (row : ACommand) → row_named name ≡ Some row → options_by row.kind ≡ row.options
own_options name row is = found_alike (λ (r : ACommand). options_by r.kind) (λ (r : ACommand). r.options) (λ r. bytes_eq r.name name) commands row all_options is

-- the options of the command that was found have their values
pub kind_has : (name : Text) (rows : List Row) (kind : CommandKind) → Some kind ≡ option_map (λ row. row.kind) (row_named name) → IsEntered name rows → HaveValues (options_by kind) rows
kind_has name rows kind found entered = go (row_named name) refl found entered
  where
    go : (o : Option ACommand) → row_named name ≡ o → Some kind ≡ option_map (λ row. row.kind) o → IfSome o (λ row. HaveValues row.options rows) → HaveValues (options_by kind) rows
    go None is same has = cc
    go (Some row) is same has =
        let own = own_options name row is in
        let of_kind : row.kind ≡ kind = sym (ap (λ o. unwrap_or o kind) same) in
        subst (λ (k : CommandKind). HaveValues (options_by k) rows) of_kind (subst (λ (os : List AnOption). HaveValues os rows) (sym own) has)

-- and it asks for what it asks for by its kind
pub kind_asks : (name : Text) (rows : List Row) (kind : Option CommandKind) → kind ≡ option_map (λ row. row.kind) (row_named name)
    → option_map (λ k. asked_by k (own_values (options_by k) (value_in rows))) kind ≡ asked_in name rows
kind_asks name rows kind is = ap (option_map (λ (k : CommandKind). asked_by k (own_values (options_by k) (value_in rows)))) is ∙ go (row_named name) refl
  where
    go : (o : Option ACommand) → row_named name ≡ o
        → option_map (λ k. asked_by k (own_values (options_by k) (value_in rows))) (option_map (λ row. row.kind) o) ≡ option_map (λ row. asked_by row.kind (own_values row.options (value_in rows))) o
    go None e = refl
    go (Some row) e = ap (λ (os : List AnOption). Some (asked_by row.kind (own_values os (value_in rows)))) (own_options name row e)

-- ---- by what the matches say

first_name : {Z : Type 0} (sub : Option (Box SubCommand Z)) (name : Text) (rows : List Row)
    → option_map (λ b. (out-SubCommand (box_value b)).name.now) sub ≡ Some name → option_map (λ p. p.1) (subcommand_rows sub) ≡ Some rows → subcommand_rows sub ≡ Some (name, rows)
first_name None name rows is_name is_rows = cc
first_name (Some b) name rows is_name is_rows =
    let n = ap (λ o. unwrap_or o name) is_name in
    let r = ap (λ o. unwrap_or o rows) is_rows in
    λ i. Some (n i, r i)

-- the command that was entered, and its matches
pub command_entered : (m : ArgMatches) (name : Text) (rows : List Row) → Some name ≡ subcommand_name_of m
    → Some rows ≡ option_map (λ p. p.1) (subcommand_rows (out-ArgMatches m).subcommand) → subcommand_rows_of m ≡ Some (name, rows)
command_entered m name rows is_name is_rows = first_name (out-ArgMatches m).subcommand name rows (sym is_name) (sym is_rows)

no_rows : {Z : Type 0} (sub : Option (Box SubCommand Z)) → None ≡ option_map (λ b. (out-SubCommand (box_value b)).name.now) sub → subcommand_rows sub ≡ None
no_rows None none = refl
no_rows (Some b) none = cc

pub no_command : (m : ArgMatches) → None ≡ subcommand_name_of m → subcommand_rows_of m ≡ None
no_command m none = no_rows (out-ArgMatches m).subcommand none

pub is_entered : (words : List Text) (name : Text) (rows : List Row) → fault_of the_app words ≡ [] → subcommand_of the_app words ≡ Some (name, rows) → IsEntered name rows
is_entered words name rows none enters = subst (λ (o : Option (Text × List Row)). IfSome o (λ p. IsEntered p.0 p.1)) enters (entered_values words none)

pub answers_some : (asks is : Option Command) (r : Result Command Refusal) → asks ≡ is → r ≡ ok_or is (refusals.Words None) → IfOk r (λ x. asks ≡ Some x)
answers_some asks None r same given = subst (λ (q : Result Command Refusal). IfOk q (λ x. asks ≡ Some x)) (sym given) tt
answers_some asks (Some x) r same given = subst (λ (q : Result Command Refusal). IfOk q (λ y. asks ≡ Some y)) (sym given) same

pub answers_none : (asks is : Option Command) (r : Result Command Refusal) → asks ≡ is → r ≡ ok_or is (refusals.Words None) → IfErr r (λ e. AreWords e → asks ≡ None)
answers_none asks None r same given = subst (λ (q : Result Command Refusal). IfErr q (λ e. AreWords e → asks ≡ None)) (sym given) (λ _. same)
answers_none asks (Some x) r same given = subst (λ (q : Result Command Refusal). IfErr q (λ e. AreWords e → asks ≡ None)) (sym given) tt
