-- Plain words are never refused, and ask for what they say.
use Rattle.std.proofs.Common.{◌≡◌, ◌∙◌, ◌<◌, ◌^◌, ◌==◌, ◌&&◌, ◌||◌, ℕ, Bool, true, false, not, zero, suc, refl, sym, ap, subst, inl, inr, arith, List, [], ◌∷◌, ◌++◌, map, length, is_some, option_map, Option, Some, None, nat_lt, pos, slice_index_or}
use Rattle.std.specs.List.{All, AllByRecursion, find, flat_map, fold, list_all}
use Rattle.std.specs.Option.{option_map_or}
use Rattle.std.specs.Prelude.{Contains}
use Rattle.std.specs.Str.{bytes_eq}
use Rattle.std.specs.Str.Parse.{digits_value, without_leading_plus}
use Rattle.std.proofs.lemmas.Bool.{eqb-false, eqb-true, ltb-true}
use Rattle.std.proofs.lemmas.Slice.Eq.{bytes_eq-Decides}
use Rattle.clap.specs.Lexer.{has_byte, without_minus}
use Rattle.clap.specs.Simple.{App, Shape, built, entered, label_of, rows_at, names_of, subcommand_of}
use Rattle.clap.specs.Walk.{Held, Names, Row, Rule, Text, Walk, answers_to, finished, has_row, nothing_held, rows_after, settled, walk, walk_from, walked, with_default}
use Rattle.clap.specs.Faults.{check_fault, defaults_fault, entered_fault, fault_of, level_fault, settle_fault, turn_fault, walk_fault}
use Rattle.clap.specs.Kinds.{Kinds, or_else, check_kinds}
use Rattle.clap.specs.ValueTests.{accepts}
use Rattle.clap.specs.declared.builder.value_parser.ValueParser.TheVariants.{Signed}
use Rattle.clap.proofs.CutLemmas.{Lacks}
use Rattle.clap.proofs.FaultLemmas.{stopped_fault}
use Rattle.clap.proofs.WalkLemmas.{both, walk_stopped}
use Rattle.command_words.specs.App.{the_app}
use Rattle.command_words.specs.Table.{ACommand, AnOption, Taken, commands}
use Rattle.command_words.specs.Words.{AreApart, AreUses, Use, stated, value_in, words_of_use}
use Rattle.command_words.specs.declared.rows.Takes.TheVariants.{Number, Nothing}
use Rattle.command_words.proofs.OptionRules.{are_apart, is_no, IsOf, of_contained, rules_for, same_option, tail_of}
use Rattle.command_words.proofs.UseRows.{IsSmall, neither, row_for}
use Rattle.command_words.proofs.UseWalk.{AreFine, AreNew, HasDefault, IsFine, IsUse, Passes, all_pass, between, leaf, settled_is, settles}
use Rattle.command_words.proofs.UseDefaults.{defaults_pass, has_row-more, none_required, value_last}

-- ---- the uses of plain words are new ones

module _ (name : Text) (options : List AnOption) (fine : AreFine options) where
  differs : (u v : Use) → IsUse name options fine u → IsUse name options fine v → (u.option ≡ v.option → ⊥) → bytes_eq u.option.name v.option.name ≡ false
  differs u v is_u is_v apart = go (bytes_eq u.option.name v.option.name) refl
    where
      go : (b : Bool) → bytes_eq u.option.name v.option.name ≡ b → bytes_eq u.option.name v.option.name ≡ false
      go false e = e
      go true e = absurd (apart (same_option options u.option v.option fine.apart is_u.of is_v.of ((bytes_eq-Decides u.option.name v.option.name).0 e)))

  each_new : (rows : List Row) (uses : List Use) → All (IsUse name options fine) uses → AreApart uses → All (λ u. has_row u.option.name rows ≡ false) uses → AreNew name options fine rows uses
  each_new rows [] are apart none = tt
  each_new rows (u ∷ rest) are apart none = (
    are 0 u (omega arith),
    none 0 u (omega arith),
    each_new (rows ++ row_for u ∷ []) rest (λ k d lt. are (suc k) d (omega arith)) apart.1
        (λ k d lt.
        let v = slice_index_or rest k d in
        let before : has_row v.option.name rows ≡ false = none (suc k) d (omega arith) in
        let here : bytes_eq u.option.name v.option.name ≡ false = differs u v (are 0 u (omega arith)) (are (suc k) d (omega arith)) (apart.0 k d lt) in
        has_row-more v.option.name rows (row_for u ∷ []) ∙ ap (λ b. b || has_row v.option.name (row_for u ∷ [])) before ∙ ap (λ b. b || false) here),
  )

  each_use : (uses : List Use) → All (IsUse name options fine) uses → AllByRecursion (IsUse name options fine) uses
  each_use [] are = tt
  each_use (u ∷ rest) are = (are 0 u (omega arith), each_use rest (λ k d lt. are (suc k) d (omega arith)))

  abbrev s : Shape
  s = leaf name options

  abbrev c : List Rule
  c = rules_for options

  -- a walk that passes ends with its rows, and the command fails nowhere behind it
  rows_at_end : (words : List Text) (rows : List Row) → Passes name options fine (between [] None) words rows → (settled c (walk c [] nothing_held words).held).rows ≡ rows
  rows_at_end words rows p = ap (λ (w : Walk). (settled c w.held).rows) p.end ∙ ap (λ (h : Held). h.rows) (settled_is name options fine p.before p.last p.waits) ∙ p.rows_are

  level_passes : (words : List Text) (rows : List Row) → Passes name options fine (between [] None) words rows → level_fault s [] nothing_held words false [] ≡ []
  level_passes words rows p =
      let end : Held = (walk c [] nothing_held words).held in
      let no_settle : settle_fault c false end ≡ [] = ap (λ (w : Walk). settle_fault c false w.held) p.end ∙ settles name options fine p.before p.last p.waits in
      ap (λ k. or_else k (or_else [] (or_else (settle_fault c false end) (or_else (defaults_fault (settled c end).rows c) (check_fault s (finished c end) false))))) p.no_fault
      ∙ ap (λ k. or_else k (or_else (defaults_fault (settled c end).rows c) (check_fault s (finished c end) false))) no_settle
      ∙ ap (λ k. or_else k (check_fault s (finished c end) false)) (defaults_pass options (settled c end).rows fine.each)
      ∙ ap (λ b. check_kinds false false b) (none_required options (finished c end))

  -- words of uses fail nowhere, and give each option its value
  pub record IsRead (uses : List Use) : Type 0 where
    pub no_fault : level_fault s [] nothing_held (flat_map words_of_use uses) false [] ≡ []
    pub values : (o : AnOption) → IsOf o options → value_in (rows_after c [] (flat_map words_of_use uses)) o ≡ stated uses o

  pub is_read : (uses : List Use) → AreUses options uses → IsRead uses
  is_read uses are =
      let each : All (IsUse name options fine) uses =
      λ k d lt. record { of = of_contained options (slice_index_or uses k d).option (are.known k d lt); within = are.in_range k d lt } in
      let p = all_pass name options fine uses (each_new [] uses each are.apart (λ k d lt. refl)) in
      record {
        no_fault = level_passes (flat_map words_of_use uses) (map row_for uses) p;
        values = λ o of. ap (λ rs. value_in (fold with_default rs c) o) (rows_at_end (flat_map words_of_use uses) (map row_for uses) p) ∙ value_last name options fine o of uses (each_use uses each);
      }

-- ---- the options of the commands

abbrev is_default : ℕ → ℕ → Option Text → Bool
is_default least most None = true
is_default least most (Some text) =
    accepts false (Signed (pos least) (pos most)) text && (digits_value 10 (without_leading_plus (without_minus text)) == digits_value 10 text)

abbrev are_small : Taken → Bool
are_small (Number least most default) = nat_lt most (2 ^ 63) && is_default least most default
are_small Nothing = true

abbrev is_fine : AnOption → Bool
is_fine o = nat_lt 0 (length o.name) && (not (has_byte 61 o.name) && are_small o.takes)

lacks_from : (c : ℕ) (xs : List ℕ) → has_byte c xs ≡ false → Lacks c xs
lacks_from c [] none i lt = absurd (omega arith)
lacks_from c (x ∷ xs) none zero lt = eqb-false x c (neither (x == c) (has_byte c xs) none).0
lacks_from c (x ∷ xs) none (suc i) lt = lacks_from c xs (neither (x == c) (has_byte c xs) none).1 i (omega arith)

small_numbers : (takes : Taken) → are_small takes ≡ true → IsSmall takes × HasDefault takes
small_numbers (Number least most None) e = let p = both (nat_lt most (2 ^ 63)) _ e in (ltb-true _ _ p.0, tt)
small_numbers (Number least most (Some text)) e =
    let p = both (nat_lt most (2 ^ 63)) _ e in
    let q = both (accepts false (Signed (pos least) (pos most)) text) _ p.1 in
    (ltb-true _ _ p.0, (q.0, eqb-true _ _ q.1))
small_numbers Nothing e = (tt, tt)

fine_option : (o : AnOption) → is_fine o ≡ true → IsFine o
fine_option o e =
    let p = both (nat_lt 0 (length o.name)) _ e in
    let q = both (not (has_byte 61 o.name)) _ p.1 in
    let n = small_numbers o.takes q.1 in
    record {
      some = ltb-true _ _ p.0;
      lacks = lacks_from 61 o.name (is_no _ q.0);
      small = n.0;
      default = n.1;
    }

fine_options : (options : List AnOption) → list_all is_fine options ≡ true → (o : AnOption) → IsOf o options → IsFine o
fine_options [] e o of = absurd of
fine_options (x ∷ rest) e o of =
    let parts = both (is_fine x) _ e in
    elim of [ inl is ↦ subst IsFine is (fine_option x parts.0) | inr later ↦ fine_options rest parts.1 o later ]

abbrev are_fine : ACommand → Bool
are_fine row = are_apart row.options && list_all is_fine row.options

fine_from : (row : ACommand) → are_fine row ≡ true → AreFine row.options
fine_from row e = let p = both (are_apart row.options) _ e in record { apart = p.0; each = fine_options row.options p.1 }

-- ---- the program

abbrev pub program_built : App
program_built = built the_app

abbrev pub top : Shape
top = program_built.top

abbrev pub names : Names
names = names_of program_built

abbrev pub leaf_of : ACommand → Shape
leaf_of row = leaf row.name row.options

-- what may fail after the program's own walk, beside the command that was entered
abbrev pub fault_behind : Walk → Kinds
fault_behind w = or_else (settle_fault top.rules top.args_override_self w.held)
    (or_else (defaults_fault (settled top.rules w.held).rows top.rules)
    (check_fault top (finished top.rules w.held) (is_some (entered program_built w.stopped))))

abbrev pub start : Walk
start = walk_from nothing_held

abbrev fault_of_end : Walk → Kinds
fault_of_end w = or_else (entered_fault program_built w.stopped) (fault_behind w)

abbrev stopped_at : Text → List Text → Walk
stopped_at name rest = record start { stopped = Some (name, rest) }

-- a word that names a command
record IsCommand (row : ACommand) : Type 0 where
  walks : walked top.rules names start row.name ≡ stopped_at row.name []
  passes : turn_fault top names start row.name ≡ []
  found : find (λ s. answers_to row.name (label_of s)) program_built.subs ≡ Some (leaf_of row)
  fine : AreFine row.options

-- each row of the table is found by its name, and its options are fine: two lists that are worked out, however many rows there are
all_walk : map (λ (row : ACommand). walked top.rules names start row.name) commands ≡ map (λ (row : ACommand). stopped_at row.name []) commands
unfolding walked
all_walk = refl

all_quiet : map (λ (row : ACommand). turn_fault top names start row.name) commands ≡ map (λ (row : ACommand). []) commands
unfolding walked
all_quiet = refl

all_found : map (λ (row : ACommand). find (λ s. answers_to row.name (label_of s)) program_built.subs) commands ≡ map (λ (row : ACommand). Some (leaf_of row)) commands
unfolding walked
all_found = refl

all_fine : map are_fine commands ≡ map (λ (row : ACommand). true) commands
all_fine = refl

-- functions that agree on a list agree on each of it
pub agree_at : {Y : Type 0} (f g : ACommand → Y) (rows : List ACommand) (row : ACommand) (k : ℕ) → map f rows ≡ map g rows → k < length rows → slice_index_or rows k row ≡ row → f row ≡ g row
agree_at {Y} f g [] row k same lt is = absurd (omega arith)
agree_at {Y} f g (x ∷ rest) row zero same lt is = subst (λ (r : ACommand). f r ≡ g r) is (ap (λ (l : List Y). slice_index_or l 0 (f x)) same)
agree_at {Y} f g (x ∷ rest) row (suc k) same lt is = agree_at f g rest row k (ap (λ (l : List Y). tail_of l) same) (omega arith) is

is_command : (row : ACommand) → Contains commands row → IsCommand row
is_command row c = record {
  walks = agree_at (λ (r : ACommand). walked top.rules names start r.name) (λ (r : ACommand). stopped_at r.name []) commands row c.0 all_walk c.1 c.2;
  passes = agree_at (λ (r : ACommand). turn_fault top names start r.name) (λ (r : ACommand). []) commands row c.0 all_quiet c.1 c.2;
  found = agree_at (λ (r : ACommand). find (λ s. answers_to r.name (label_of s)) program_built.subs) (λ (r : ACommand). Some (leaf_of r)) commands row c.0 all_found c.1 c.2;
  fine = fine_from row (agree_at are_fine (λ (r : ACommand). true) commands row c.0 all_fine c.1 c.2);
}

fine_all : (rows : List ACommand) → map are_fine rows ≡ map (λ (row : ACommand). true) rows → AllByRecursion (λ row. AreFine row.options) rows
fine_all [] same = tt
fine_all (x ∷ rest) same = (fine_from x (ap (λ (l : List Bool). slice_index_or l 0 true) same), fine_all rest (ap (λ (l : List Bool). tail_of l) same))

pub commands_fine : AllByRecursion (λ row. AreFine row.options) commands
commands_fine = fine_all commands all_fine

module _ (row : ACommand) (is : IsCommand row) (program : Text) (rest : List Text) where
  walk_is : walk top.rules names nothing_held (row.name ∷ rest) ≡ stopped_at row.name rest
  walk_is = ap (λ (w : Walk). fold (walked top.rules names) w rest) is.walks ∙ sym (walk_stopped top.rules names start row.name [] rest)

  no_walk_fault : walk_fault top names start (row.name ∷ rest) ≡ []
  unfolding walk_fault
  no_walk_fault =
      ap (λ k. or_else k (walk_fault top names (walked top.rules names start row.name) rest)) is.passes
      ∙ ap (λ (w : Walk). walk_fault top names w rest) is.walks ∙ stopped_fault top names start (row.name, []) rest

  top_defaults : defaults_fault [] top.rules ≡ []
  unfolding defaults_fault
  top_defaults = refl

  -- the program has the faults of the command
  fault_is : fault_of the_app (program ∷ row.name ∷ rest) ≡ level_fault (leaf_of row) [] nothing_held rest false []
  fault_is =
      ap (λ k. or_else k (fault_of_end (walk top.rules names nothing_held (row.name ∷ rest)))) no_walk_fault
      ∙ ap fault_of_end walk_is
      ∙ ap (λ (o : Option Shape). or_else (option_map_or (λ t. level_fault t [] nothing_held rest false []) o [])
      (or_else (defaults_fault [] top.rules) (check_fault top [] (is_some (option_map (λ t. rows_at t rest) o))))) is.found
      ∙ ap (λ k. or_else (level_fault (leaf_of row) [] nothing_held rest false []) (or_else k [])) top_defaults
      ∙ or_nothing (level_fault (leaf_of row) [] nothing_held rest false [])
    where
      or_nothing : (kinds : Kinds) → or_else kinds [] ≡ kinds
      or_nothing [] = refl
      or_nothing (k ∷ ks) = refl

  -- and enters it with the words behind its name
  entered_is : subcommand_of the_app (program ∷ row.name ∷ rest) ≡ Some (row.name, rows_after (rules_for row.options) [] rest)
  entered_is =
      ap (λ (w : Walk). entered program_built w.stopped) walk_is
      ∙ ap (option_map (λ t. rows_at t rest)) is.found

-- the program takes the words, and each option of their command has the value that the uses state
pub record AreTaken (words : List Text) (row : ACommand) (uses : List Use) : Type 0 where
  pub rows : List Row
  pub no_fault : fault_of the_app words ≡ []
  pub entered : subcommand_of the_app words ≡ Some (row.name, rows)
  pub values : (o : AnOption) → IsOf o row.options → value_in rows o ≡ stated uses o

pub taken : (row : ACommand) → Contains commands row → (program : Text) (uses : List Use) → AreUses row.options uses → AreTaken (program ∷ row.name ∷ flat_map words_of_use uses) row uses
taken row listed program uses are =
    let is = is_command row listed in
    let read = is_read row.name row.options is.fine uses are in
    let words : List Text = flat_map words_of_use uses in
    record {
      rows = rows_after (rules_for row.options) [] words;
      no_fault = fault_is row is program words ∙ read.no_fault;
      entered = entered_is row is program words;
      values = read.values;
    }
