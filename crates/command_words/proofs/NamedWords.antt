-- Words that `clap` doesn't refuse name a command of the table.
use Rattle.std.proofs.Common.{◌≡◌, ◌∙◌, ◌||◌, ◌&&◌, ℕ, Bool, true, false, cond, refl, sym, ap, subst, arith, List, [], ◌∷◌, length, codes, is_some, option_map, Option, Some, None, true≢false}
use Rattle.std.specs.List.{find, fold}
use Rattle.std.specs.Prelude.{IfSome}
use Rattle.std.specs.Str.{bytes_eq}
use Rattle.std.proofs.lemmas.Bool.{ne_eqb}
use Rattle.std.proofs.lemmas.Slice.Eq.{bytes_eq-Decides}
use Rattle.clap.specs.Lexer.{long_of, short_of}
use Rattle.clap.specs.Simple.{argument_words, entered, rows_at, subcommand_of}
use Rattle.clap.specs.Walk.{Held, Outcome, Row, Rule, Step, Text, Waiting, Walk, after_flag, after_step, arg_by_index, done, finished, idle, is_empty, long_or_other, next, nothing_held, option, plain, plain_word, positional, refused, settled, short_or_plain, subcommand, subcommand_met, subcommand_or_other, to_positional, trailing, value, waits, walk, walked, walked_from, word_met}
use Rattle.clap.specs.Faults.{check_fault, defaults_fault, entered_fault, fault_of, other_fault, settle_fault, step_fault, turn_fault, walk_fault, word_fault}
use Rattle.clap.specs.Kinds.{Kinds, or_else}
use Rattle.clap.specs.declared.error.kind.ErrorKind.TheVariants.{DisplayHelp, InvalidSubcommand, MissingSubcommand}
use Rattle.command_words.specs.App.{the_app}
use Rattle.command_words.specs.Law.{NamedOrRefused}
use Rattle.command_words.specs.Table.{ACommand, commands, row_named}
use Rattle.command_words.specs.Words.{IsRefused, command_of}
use Rattle.command_words.proofs.AskedWords.{asked, none_asked}
use Rattle.command_words.proofs.OptionRules.{differs_back}
use Rattle.command_words.proofs.PlainWords.{fault_behind, leaf_of, names, program_built, start, top}
use Rattle.command_words.proofs.TakenWords.{answering, help_leaf, none_first}

some_map : {X Y : Type 0} (f : X → Y) (o : Option X) → is_some (option_map f o) ≡ is_some o
some_map f None = refl
some_map f (Some x) = refl

-- ---- words that are taken don't stop the walk at `help`

abbrev IsOther : Text → Type 0
IsOther name = bytes_eq name (codes "help") ≡ false

abbrev EntersOther : Step → Type 0
EntersOther (next waiting) = Unit {0}
EntersOther (trailing position) = Unit {0}
EntersOther (subcommand name) = IsOther name
EntersOther value = Unit {0}

abbrev StopsOther : Option (Text × List Text) → Type 0
StopsOther stop = IfSome stop (λ p. IsOther p.0)

plain_enters : (c : List Rule) (w : Waiting) (word : Text) (h : Held) → EntersOther (plain_word c w word h).1
plain_enters c idle word h = tt
plain_enters c positional word h = tt
plain_enters c (option id) word h = tt

flag_enters : (c : List Rule) (w : Waiting) (word : Text) (h : Held) (o : Outcome) → EntersOther (after_flag c w word h o).1
flag_enters c w word h done = tt
flag_enters c w word h (waits id) = tt
flag_enters c w word h plain = plain_enters c w word h
flag_enters c w word h refused = plain_enters c w word h

other_enters : (c : List Rule) (w : Waiting) (word : Text) (h : Held) → EntersOther (long_or_other c w word (long_of word) h).1
other_enters c w word h = long (long_of word)
  where
    short : (o : Option Text) → EntersOther (short_or_plain c w word o h).1
    short None = plain_enters c w word h
    short (Some flags) = flag_enters c w word _ _

    long : (o : Option (Text × Option Text)) → EntersOther (long_or_other c w word o h).1
    long None = short (short_of word)
    long (Some p) = flag_enters c w word _ _

not_help : (b : Bool) → cond (b && true) (DisplayHelp ∷ InvalidSubcommand ∷ []) [] ≡ [] → b ≡ false
not_help true e = cc
not_help false e = refl

met_enters : (is_trailing : Bool) (w : Waiting) (position : ℕ) (word : Text) (h : Held) → word_fault top names is_trailing w word h ≡ [] → EntersOther (word_met top.rules names is_trailing w position word h).1
met_enters true w position word h e = tt
met_enters false w position word h e = go (subcommand_met names w word) e
  where
    dashes : (b : Bool) → EntersOther (cond b (h, trailing position) (long_or_other top.rules w word (long_of word) h)).1
    dashes true = tt
    dashes false = other_enters top.rules w word h

    go : (o : Option Text) → other_fault top o word h ≡ [] → EntersOther (subcommand_or_other top.rules o w position word h).1
    go None e = dashes (bytes_eq word (45 ∷ 45 ∷ []))
    go (Some name) e = not_help (bytes_eq name (codes "help")) e

step_stops : (word : Text) (w : Walk) (h : Held) (t : Step) → StopsOther w.stopped → EntersOther t → StopsOther (after_step top.rules word w h t).stopped
step_stops word w h (next waiting) stops enters = stops
step_stops word w h (trailing position) stops enters = stops
step_stops word w h (subcommand name) stops enters = enters
step_stops word w h value stops enters = go (arg_by_index top.rules w.position)
  where
    go : (o : Option Rule) → StopsOther (to_positional top.rules o word w h).stopped
    go None = stops
    go (Some a) = tt

walked_stops : (w : Walk) (word : Text) → turn_fault top names w word ≡ [] → StopsOther w.stopped → StopsOther (walked top.rules names w word).stopped
unfolding walked
walked_stops w word e before = go w.stopped e before
  where
    go : (o : Option (Text × List Text)) → turn_fault top names (record w { stopped = o }) word ≡ [] → StopsOther o → StopsOther (walked_from top.rules names o w word).stopped
    go (Some p) e stops = stops
    go None e stops =
        let met : Held × Step = word_met top.rules names w.is_trailing w.waiting w.position word w.held in
        let parts = none_first (word_fault top names w.is_trailing w.waiting word w.held) (step_fault top w.position met.0 met.1) e in
        step_stops word w met.0 met.1 before (met_enters w.is_trailing w.waiting w.position word w.held parts.0)

words_stop : (words : List Text) (w : Walk) → walk_fault top names w words ≡ [] → StopsOther w.stopped → StopsOther (fold (walked top.rules names) w words).stopped
unfolding walk_fault
words_stop [] w e stops = stops
words_stop (word ∷ rest) w e stops =
    let parts = none_first (turn_fault top names w word) (walk_fault top names (walked top.rules names w word) rest) e in
    words_stop rest (walked top.rules names w word) parts.1 (walked_stops w word parts.0 stops)

-- ---- what answers to a word is a command of the table, or `help`

row_answers : (word : Text) (rows : List ACommand) → IsOther word → is_some (answering word rows) ≡ true → is_some (find (λ row. bytes_eq row.name word) rows) ≡ true
row_answers word [] other some = go (bytes_eq help_leaf.name word) (differs_back word (codes "help") other) some
  where
    go : (b : Bool) → b ≡ false → is_some (cond (b || false) (Some help_leaf) None) ≡ true → false ≡ true
    go true is some = sym is
    go false is some = some
row_answers word (x ∷ rest) other some = go (bytes_eq x.name word) some (λ later. row_answers word rest other later)
  where
    go : (b : Bool) → is_some (cond (b || false) (Some (leaf_of x)) (answering word rest)) ≡ true
        → (is_some (answering word rest) ≡ true → is_some (find (λ row. bytes_eq row.name word) rest) ≡ true) → is_some (cond b (Some x) (find (λ row. bytes_eq row.name word) rest)) ≡ true
    go true some rec = refl
    go false some rec = rec some

name_answers : (word : Text) (words : List Text) (rows : List ACommand) → IfSome (option_map (λ t. rows_at t words) (answering word rows)) (λ p. bytes_eq p.0 word ≡ true)
name_answers word words [] = go (bytes_eq help_leaf.name word) refl
  where
    go : (b : Bool) → bytes_eq help_leaf.name word ≡ b → IfSome (option_map (λ t. rows_at t words) (cond (b || false) (Some help_leaf) None)) (λ p. bytes_eq p.0 word ≡ true)
    go true is = is
    go false is = tt
name_answers word words (x ∷ rest) = go (bytes_eq x.name word) refl (name_answers word words rest)
  where
    go : (b : Bool) → bytes_eq x.name word ≡ b → IfSome (option_map (λ t. rows_at t words) (answering word rest)) (λ p. bytes_eq p.0 word ≡ true)
        → IfSome (option_map (λ t. rows_at t words) (cond (b || false) (Some (leaf_of x)) (answering word rest))) (λ p. bytes_eq p.0 word ≡ true)
    go true is rec = is
    go false is rec = rec

-- what was entered is a command of the table
abbrev IsNamed : Option (Text × List Row) → Type 0
IsNamed found = (p : Text × List Row) × (found ≡ Some p) × (is_some (row_named p.0) ≡ true)

found_named : (word : Text) (found : Option (Text × List Row)) → IfSome found (λ p. bytes_eq p.0 word ≡ true) → is_some (row_named word) ≡ true → is_some found ≡ true → IsNamed found
found_named word None is row some = absurd (true≢false (sym some))
found_named word (Some p) is row some = (p, refl, subst (λ (name : Text). is_some (row_named name) ≡ true) (sym ((bytes_eq-Decides p.0 word).0 is)) row)

stop_named : (stop : Option (Text × List Text)) → StopsOther stop → is_some (entered program_built stop) ≡ true → IsNamed (entered program_built stop)
stop_named None stops some = absurd (true≢false (sym some))
stop_named (Some p) stops some =
    let answers : is_some (answering p.0 commands) ≡ true = sym (some_map (λ t. rows_at t p.1) (answering p.0 commands)) ∙ some in
    found_named p.0 (option_map (λ t. rows_at t p.1) (answering p.0 commands)) (name_answers p.0 p.1 commands) (row_answers p.0 commands stops answers) some

-- the program needs a command
has_command : (rows : List Row) (b : Bool) → check_fault top rows b ≡ [] → b ≡ true
has_command rows true e = refl
has_command rows false e = let bad : MissingSubcommand ∷ [] ≡ [] = e in cc

named : (words : List Text) → fault_of the_app words ≡ [] → IsNamed (subcommand_of the_app words)
named words e =
    let arguments : List Text = argument_words program_built words in
    let end : Walk = walk top.rules names nothing_held arguments in
    let has : Bool = is_some (entered program_built end.stopped) in
    let checks : Kinds = check_fault top (finished top.rules end.held) has in
    let defaults : Kinds = defaults_fault (settled top.rules end.held).rows top.rules in
    let walks = none_first (walk_fault top names start arguments) (or_else (entered_fault program_built end.stopped) (fault_behind end)) e in
    let enters = none_first (entered_fault program_built end.stopped) (fault_behind end) walks.1 in
    let settles = none_first (settle_fault top.rules top.args_override_self end.held) (or_else defaults checks) enters.1 in
    let last = none_first defaults checks settles.1 in
    stop_named end.stopped (words_stop arguments start walks.0 tt) (has_command (finished top.rules end.held) has last.1)

command_named : (words : List Text) → fault_of the_app words ≡ [] → is_some (command_of words) ≡ true
command_named words e =
    let enters = named words e in
    ap is_some (asked words (Some enters.0) e enters.1) ∙ some_map _ (row_named enters.0.0) ∙ enters.2

pub refused_alone : (words : List Text) → command_of words ≡ None → IsRefused words
refused_alone words none = go (fault_of the_app words) refl
  where
    go : (kinds : Kinds) → fault_of the_app words ≡ kinds → IsRefused words
    go [] e = absurd (true≢false (sym (command_named words e) ∙ ap is_some none))
    go (k ∷ ks) e = ap is_empty e ∙ ne_eqb (length (k ∷ ks)) 0 (omega arith)

pub named_or_refused : NamedOrRefused
named_or_refused words = (refused_alone words, none_asked words)
