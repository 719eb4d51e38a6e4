-- What the builders' steps make of the command.
use Rattle.std.proofs.Common.{◌≡◌, ◌∙◌, ◌+◌, ◌<◌, ◌≤◌, ◌++◌, ℕ, refl, fold, map, take, get_or, ◌||◌, ◌⊎◌, ⊎_elim, length, arith, inl, inr, true, false, sym, ap, ap₂, List, [], ◌∷◌, Result, Ok, Err, IfOk, IfErr}
use Rattle.std.proofs.lemmas.Bool.{ne_eqb}
use Rattle.std.proofs.lemmas.List.{take_all, take_more}
use Rattle.std.specs.Borrow.{Bor}
use Rattle.command_words.specs.App.{rule_for, shape_for}
use Rattle.command_words.specs.Table.{option_of, row_of}
use Rattle.command_words.specs.declared.rows.CommandRow.{CommandRow}
use Rattle.command_words.specs.declared.rows.OptionRow.{OptionRow}
use Rattle.clap.specs.Simple.{new_shape}
use Rattle.clap.specs.Words.{AddsArg, AddsSubcommand, App, FailsBy, HasKind, HasMatchesOf, Kinds, Rule, Shape, Text, app_of, fault_of, is_simple, kind_of, rule_of, subcommand_of, subcommand_rows_of, with_rule, with_subcommand}
use Rattle.clap.specs.Walk.{is_empty}
use Rattle.clap.specs.declared.error.Error.{Error}
use Rattle.clap.specs.declared.error.kind.ErrorKind.TheVariants.{OutOfMemory}
use Rattle.clap.specs.declared.builder.arg.Arg.{Arg}
use Rattle.clap.specs.declared.builder.command.Command.{Command}
use Rattle.clap.specs.declared.parser.matches.ArgMatches.{ArgMatches}
use Rattle.clap.specs.declared.builder.command.Command.TheViews.{out-Command}

pub arg_added : (old new : Command) (a : Arg) (app : App) (r : Rule) → AddsArg old a new → a.global ≡ false → rule_of a ≡ r → app_of old ≡ app → app_of new ≡ with_rule app r
arg_added old new a app r adds local rule is = adds.shape local ∙ ap₂ with_rule is rule

-- a command with the first of these options
abbrev pub with_first : Text → List (OptionRow (Bor Text)) → ℕ → App
with_first name options k = record { top = record (new_shape name) { rules = map rule_for (map option_of (take k options)) }; subs = [] }

two_maps : (xs : List (OptionRow (Bor Text))) (y : OptionRow (Bor Text)) → map rule_for (map option_of (xs ++ y ∷ [])) ≡ map rule_for (map option_of xs) ++ rule_for (option_of y) ∷ []
two_maps [] y = refl
two_maps (x ∷ xs) y = ap (λ rs. rule_for (option_of x) ∷ rs) (two_maps xs y)

-- and with one option more
pub option_added : (old new : Command) (a : Arg) (name : Text) (options : List (OptionRow (Bor Text))) (k : ℕ) (d : OptionRow (Bor Text)) → k < length options → AddsArg old a new → a.global ≡ false
    → rule_of a ≡ rule_for (option_of (get_or options k d)) → app_of old ≡ with_first name options k → app_of new ≡ with_first name options (k + 1)
option_added old new a name options k d lt adds local rule is =
    arg_added old new a (with_first name options k) (rule_for (option_of (get_or options k d))) adds local rule is
    ∙ ap (λ rs. record { top = record (new_shape name) { rules = rs }; subs = [] })
    (sym (ap (λ os. map rule_for (map option_of os)) (take_more options k d lt) ∙ two_maps (take k options) (get_or options k d)))

pub all_options : (c : Command) (name : Text) (options : List (OptionRow (Bor Text))) (k : ℕ) → length options ≤ k → app_of c ≡ with_first name options k
    → app_of c ≡ record { top = record (new_shape name) { rules = map rule_for (map option_of options) }; subs = [] }
all_options c name options k le is = is ∙ ap (λ os. record { top = record (new_shape name) { rules = map rule_for (map option_of os) }; subs = [] }) (take_all k options le)

abbrev ARow : Type 0
ARow = CommandRow (Bor Text) (Bor (List (OptionRow (Bor Text))))

-- a program with the first of these commands
abbrev pub with_commands : App → List ARow → App
with_commands first rows = fold (λ app row. with_subcommand app (shape_for row)) first (map row_of rows)

one_command : (first : App) (rows : List ARow) (row : ARow) → with_commands first (rows ++ row ∷ []) ≡ with_subcommand (with_commands first rows) (shape_for (row_of row))
one_command first [] row = refl
one_command first (x ∷ rest) row = one_command (with_subcommand first (shape_for (row_of x))) rest row

pub arg_local : (old new : Command) (a : Arg) → AddsArg old a new → a.global ≡ false → (out-Command old).has_globals ≡ false → (out-Command new).has_globals ≡ false
arg_local old new a adds local is = adds.globals ∙ ap₂ (λ x y. x || y) is local

pub subcommand_added : (old sub new : Command) (app : App) (s : Shape) → AddsSubcommand old sub new → (out-Command sub).has_globals ≡ false
    → app_of sub ≡ record { top = s; subs = [] } → app_of old ≡ app → app_of new ≡ with_subcommand app s
subcommand_added old sub new app s adds local shape is = adds.shape local ∙ ap₂ with_subcommand is (ap (λ (a : App). a.top) shape)

-- and with one command more
pub command_added : (old sub new : Command) (first : App) (rows : List ARow) (k : ℕ) (d : ARow) → k < length rows → AddsSubcommand old sub new → (out-Command sub).has_globals ≡ false
    → app_of sub ≡ record { top = shape_for (row_of (get_or rows k d)); subs = [] } → app_of old ≡ with_commands first (take k rows) → app_of new ≡ with_commands first (take (k + 1) rows)
command_added old sub new first rows k d lt adds local shape is =
    subcommand_added old sub new (with_commands first (take k rows)) (shape_for (row_of (get_or rows k d))) adds local shape is
    ∙ sym (ap (with_commands first) (take_more rows k d lt) ∙ one_command first (take k rows) (get_or rows k d))

pub all_commands : (c : Command) (first : App) (rows : List ARow) (k : ℕ) → length rows ≤ k → app_of c ≡ with_commands first (take k rows) → app_of c ≡ with_commands first rows
all_commands c first rows k le is = is ∙ ap (with_commands first) (take_all k rows le)

-- words that are taken have no fault
pub passed : {T : Type 0} (r : Result T Error) (kinds : Kinds) → FailsBy kinds r → IfOk r (λ _. kinds ≡ [])
passed (Ok x) kinds fails = fails
passed (Err e) kinds fails = tt

-- and enter the command that they name
pub matched : (r : Result ArgMatches Error) (app : App) (words : List Text) → is_simple app ≡ true → IfOk r (HasMatchesOf app words) → IfOk r (λ m. subcommand_rows_of m ≡ subcommand_of app words)
matched (Ok m) app words simple has = (has simple).1
matched (Err e) app words simple has = tt

-- an error is for want of memory, or the words have a fault
pub refused : {T : Type 0} (r : Result T Error) (app : App) (words : List Text) → FailsBy (fault_of app words) r → IfErr r (λ e. (kind_of e ≡ OutOfMemory) ⊎ (is_empty (fault_of app words) ≡ false))
refused (Ok x) app words fails = tt
refused (Err e) app words fails = go (fault_of app words) fails
  where
    go : (kinds : Kinds) → HasKind kinds e → (kind_of e ≡ OutOfMemory) ⊎ (is_empty kinds ≡ false)
    go [] has = ⊎_elim (λ memory. inl memory) (λ none. absurd none) has
    go (k ∷ ks) has = inr (ne_eqb (length (k ∷ ks)) 0 (omega arith))
