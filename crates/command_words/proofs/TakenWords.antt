-- Whatever words the program takes, each option has its value.
use Rattle.std.proofs.Common.{◌≡◌, ◌∙◌, ◌≤◌, ◌==◌, ◌&&◌, ◌||◌, ◌⊎◌, ℕ, Bool, true, false, cond, pos, zero, suc, refl, sym, ap, subst, inl, inr, arith, List, [], ◌∷◌, ◌++◌, length, codes, is_some, option_map, map, Option, Some, None, true≢false}
use Rattle.std.specs.List.{AllByRecursion, find, fold}
use Rattle.std.specs.Option.{option_map_or}
use Rattle.std.specs.Prelude.{IfSome, option_and_then, slice_get}
use Rattle.std.specs.Str.{bytes_eq, chars}
use Rattle.std.proofs.lemmas.Bool.{ne_eqb}
use Rattle.std.proofs.lemmas.Slice.Eq.{bytes_eq-Decides}
use Rattle.clap.specs.Lexer.{long_of, short_of}
use Rattle.clap.specs.Simple.{Shape, label_of, argument_words, built_leaf, entered, help_shape, inherited, rows_at, subcommand_of, with_leaf_noted}
use Rattle.clap.specs.Walk.{Held, Outcome, Row, Rule, Step, Text, Waiting, Walk, answers_to, after_flag, after_step, arg_by_id, arg_by_index, arg_by_long, arg_by_short, attached_value, bundle, bundle_met, bundle_step, done, finished, flag_met, has_row, idle, long_met, long_or_other, next, nothing_held, option, option_met, option_word, plain, plain_word, positional, reacted, refused, row_text, rows_after, settled, settled_rows, short_met, short_or_plain, subcommand, subcommand_met, subcommand_or_other, takes_values, to_positional, trailing, used, used_by_id, value, waits, walk, walk_from, walked, walked_from, with_default, word_met}
use Rattle.clap.specs.Faults.{bundle_fault, bundle_step_fault, check_fault, defaults_fault, entered_fault, fault_of, flag_word_fault, flags_fault, level_fault, long_fault, option_fault, other_fault, react_fault, repeat_fault, set_fault, settle_fault, short_fault, step_fault, turn_fault, use_fault, values_fault, walk_fault, word_fault}
use Rattle.clap.specs.Kinds.{Kinds, or_else, range_kinds}
use Rattle.clap.specs.ValueTests.{accepts}
use Rattle.clap.specs.declared.builder.value_parser.Reading.TheVariants.{WithoutMinus}
use Rattle.clap.specs.declared.builder.value_parser.ValueParser.TheVariants.{Signed}
use Rattle.clap.specs.declared.parser.matches.ValueSource.TheVariants.{CommandLine, DefaultValue}
use Rattle.clap.specs.declared.error.kind.ErrorKind.{ErrorKind}
use Rattle.clap.specs.declared.error.kind.ErrorKind.TheVariants.{ArgumentConflict, DisplayHelp, TooManyValues, ValueValidation}
use Rattle.command_words.specs.App.{the_app}
use Rattle.command_words.specs.Table.{ACommand, AnOption, Taken, commands}
use Rattle.command_words.specs.Words.{HasValue, HasValueBy, HaveValues, IsEntered, IsNumbered}
use Rattle.command_words.specs.declared.rows.Takes.TheVariants.{Number, Nothing}
use Rattle.command_words.proofs.UseDefaults.{default_row, found_last}
use Rattle.command_words.proofs.PlainWords.{commands_fine, fault_behind, leaf_of, names, program_built, start, top}
use Rattle.clap.specs.Values.{read_as}
use Rattle.clap.proofs.ValueTestLemmas.{accepts-Accepts}
use Rattle.command_words.proofs.OptionRules.{IsOf, ready, ready_by, ready_help, rules_for, same_option}
use Rattle.command_words.proofs.UseRows.{flag_new, number_new, row_by}
use Rattle.command_words.proofs.UseWalk.{AreFine, HasDefault, leaf}

each_of : (P : AnOption → Type 0) (options : List AnOption) → ((o : AnOption) → IsOf o options → P o) → AllByRecursion P options
each_of P [] each = tt
each_of P (x ∷ rest) each = (each x (inl refl), each_of P rest (λ o of. each o (inr of)))

pub none_first : (a b : Kinds) → or_else a b ≡ [] → (a ≡ []) × (b ≡ [])
none_first [] b e = (refl, e)
none_first (k ∷ ks) b e = cc

not_repeated : (b : Bool) (k : ErrorKind) → cond (b && true) (k ∷ []) [] ≡ [] → b ≡ false
not_repeated true k e = cc
not_repeated false k e = refl

accepted : (b : Bool) (k : ErrorKind) → or_else (cond b [] (k ∷ [])) [] ≡ [] → b ≡ true
accepted true k e = refl
accepted false k e = cc

two_values : (n : ℕ) → 2 ≤ n → range_kinds 1 1 n ≡ [] → ⊥
two_values n many e =
    let some : (n == 0) ≡ false = ne_eqb n 0 (omega arith) in
    let more : (1 == n) ≡ false = ne_eqb 1 n (omega arith) in
    let bad = rw (some, more) at e in
    cc

some_values : (n : ℕ) → 1 ≤ n → range_kinds 0 0 n ≡ [] → ⊥
some_values n many e =
    let more : (0 == n) ≡ false = ne_eqb 0 n (omega arith) in
    let bad = rw more at e in
    cc

-- one value, which an option with numbers of this range takes
pub record IsNumberOf (least most : ℕ) (r : Row) : Type 0 where
  pub text : Text
  pub values : r.values ≡ text ∷ []
  pub reading : r.reading ≡ WithoutMinus
  pub taken : accepts false (Signed (pos least) (pos most)) text ≡ true

-- a value that the option takes; or that a flag is given
abbrev IsValueBy : Taken → Row → Type 0
IsValueBy (Number least most default) r = IsNumberOf least most r
IsValueBy Nothing r = row_text r ≡ Some (codes "true")

-- the one use of an option, that fails nowhere, adds its row at the end
abbrev AddsValue : Text → Taken → List Text → List Row → Type 0
AddsValue name takes values rows = (r : Row) × (used (ready_by name takes) values rows ≡ rows ++ r ∷ []) × (r.id ≡ name) × IsValueBy takes r

adds_value : (name : Text) (takes : Taken) (values : List Text) (rows : List Row) → use_fault false (ready_by name takes) values rows ≡ [] → AddsValue name takes values rows
adds_value name (Number least most default) [] rows e = cc
adds_value name (Number least most default) (v ∷ w ∷ more) rows e =
    absurd (two_values (length (v ∷ w ∷ more)) (omega arith) (none_first (range_kinds 1 1 (length (v ∷ w ∷ more))) (set_fault false (ready_by name (Number least most default)) (v ∷ w ∷ more) rows) e).0)
adds_value name (Number least most default) (v ∷ []) rows e =
    let parts = none_first (repeat_fault false name rows) (values_fault (ready_by name (Number least most default)) (v ∷ [])) e in
    let none : has_row name rows ≡ false = not_repeated (has_row name rows) ArgumentConflict parts.0 in
    let ok : accepts false (Signed (pos least) (pos most)) v ≡ true = accepted (accepts false (Signed (pos least) (pos most)) v) ValueValidation parts.1 in
    (row_by name (Number least most default) v CommandLine, number_new name least most default v rows none, refl, record { text = v; values = refl; reading = refl; taken = ok })
adds_value name Nothing (v ∷ more) rows e = absurd (some_values (length (v ∷ more)) (omega arith) (none_first (range_kinds 0 0 (length (v ∷ more))) (set_fault false (ready_by name Nothing) (v ∷ more) rows) e).0)
adds_value name Nothing [] rows e =
    let parts = none_first (repeat_fault false name rows) (values_fault (ready_by name Nothing) (codes "true" ∷ [])) e in
    let none : has_row name rows ≡ false = not_repeated (has_row name rows) ArgumentConflict parts.0 in
    (row_by name Nothing (codes "true") CommandLine, flag_new name rows none, refl, refl)

help_fails : (values : List Text) (rows : List Row) → use_fault false ready_help values rows ≡ [] → ⊥
help_fails values rows e =
    let parts = none_first (range_kinds 0 0 (length values)) (DisplayHelp ∷ []) e in
    cc

module _ (name : Text) (options : List AnOption) (fine : AreFine options) where
  abbrev s : Shape
  s = leaf name options

  abbrev c : List Rule
  c = rules_for options

  -- the row of an option has a value that it takes
  abbrev IsGood : Row → Type 0
  IsGood r = (o : AnOption) → IsOf o options → bytes_eq r.id o.name ≡ true → IsValueBy o.takes r

  abbrev AreGood : List Row → Type 0
  AreGood = AllByRecursion IsGood

  good_more : (rows : List Row) (r : Row) → AreGood rows → IsGood r → AreGood (rows ++ r ∷ [])
  good_more [] r good new = (new, tt)
  good_more (x ∷ rows) r good new = (good.0, good_more rows r good.1 new)

  -- ---- one use

  abbrev IsOurs : Rule → Type 0
  IsOurs a = ((o : AnOption) × IsOf o options × (a ≡ ready o)) ⊎ (a ≡ ready_help)

  option_good : (o : AnOption) (values : List Text) (rows : List Row) → IsOf o options → use_fault false (ready o) values rows ≡ [] → AreGood rows → AreGood (used (ready o) values rows)
  option_good o values rows of e good =
      let adds = adds_value o.name o.takes values rows e in
      subst AreGood (sym adds.1) (good_more rows adds.0 good
      (λ other is_one same.
      let one : o ≡ other = same_option options o other fine.apart of is_one (sym adds.2 ∙ (bytes_eq-Decides adds.0.id other.name).0 same) in
      subst (λ (z : AnOption). IsValueBy z.takes adds.0) one adds.3))

  used_good : (a : Rule) (values : List Text) (rows : List Row) → IsOurs a → use_fault false a values rows ≡ [] → AreGood rows → AreGood (used a values rows)
  used_good a values rows ours e good = elim ours [
    | inl found ↦
        subst (λ (z : Rule). AreGood (used z values rows)) (sym found.2) (option_good found.0 values rows found.1 (ap (λ (z : Rule). use_fault false z values rows) (sym found.2) ∙ e) good)
    | inr help ↦ absurd (help_fails values rows (ap (λ (z : Rule). use_fault false z values rows) (sym help) ∙ e))
  ]

  -- what a search among the rules finds is one of them
  ours : (p : Rule → Bool) (some : List AnOption) → ((o : AnOption) → IsOf o some → IsOf o options) → IfSome (find p (rules_for some)) IsOurs
  ours p [] within = go (p ready_help)
    where
      go : (b : Bool) → IfSome (cond b (Some ready_help) None) IsOurs
      go true = inr refl
      go false = tt
  ours p (x ∷ rest) within = go (p (ready x)) (ours p rest (λ o of. within o (inr of)))
    where
      go : (b : Bool) → IfSome (find p (rules_for rest)) IsOurs → IfSome (cond b (Some (ready x)) (find p (rules_for rest))) IsOurs
      go true rec = inl (x, within x (inl refl), refl)
      go false rec = rec

  found_ours : (p : Rule → Bool) → IfSome (find p c) IsOurs
  found_ours p = ours p options (λ o of. of)

  -- ---- one word

  settled_by : (o : Option Rule) (values : List Text) (rows : List Row) → IfSome o IsOurs → option_map_or (λ a. use_fault false a values rows) o [] ≡ [] → AreGood rows → AreGood (used_by_id o values rows)
  settled_by None values rows is e good = good
  settled_by (Some a) values rows is e good = used_good a values rows is e good

  settled_good : (h : Held) → settle_fault c false h ≡ [] → AreGood h.rows → AreGood (settled c h).rows
  settled_good h = go h.pending
    where
      go : (p : Option (Text × List Text)) → option_map_or (λ q. option_map_or (λ a. use_fault false a q.1 h.rows) (arg_by_id c q.0) []) p [] ≡ [] → AreGood h.rows → AreGood (settled_rows c p h.rows)
      go None e good = good
      go (Some q) e good = settled_by (arg_by_id c q.0) q.1 h.rows (found_ours _) e good

  reacted_good : (a : Rule) (values : List Text) (h : Held) → IsOurs a → react_fault c false a values h ≡ [] → AreGood h.rows → AreGood (reacted c a values h).rows
  reacted_good a values h is e good =
      let parts = none_first (settle_fault c false h) (use_fault false a values (settled c h).rows) e in
      used_good a values (settled c h).rows is parts.1 (settled_good h parts.0 good)

  option_met_good : (a : Rule) (v : Option Text) (h : Held) → IsOurs a → option_fault c false a v h ≡ [] → AreGood h.rows → AreGood (option_met c a v h).0.rows
  option_met_good a None h is e good = settled_good h e good
  option_met_good a (Some v) h is e good = reacted_good a (v ∷ []) h is e good

  long_good : (o : Option Rule) (v : Option Text) (h : Held) → IfSome o IsOurs → long_fault c false o v h ≡ [] → AreGood h.rows → AreGood (long_met c o v h).0.rows
  long_good None v h is e good = good
  long_good (Some a) v h is e good = go (takes_values a) v e
    where
      go : (b : Bool) (v : Option Text) → cond b (option_fault c false a v h) (cond (is_some v) (TooManyValues ∷ []) (react_fault c false a [] h)) ≡ [] → AreGood (cond b (option_met c a v h) (flag_met c a v h)).0.rows
      go true v e = option_met_good a v h is e good
      go false None e = reacted_good a [] h is e good
      go false (Some v) e = good

  short_good : (o : Option Rule) (rest : Text) (h : Held) (step : Held → Held × Outcome) (then_fault : Held → Kinds)
      → ((after : Held) → then_fault after ≡ [] → AreGood after.rows → AreGood (step after).0.rows)
      → IfSome o IsOurs → short_fault c false o rest h then_fault ≡ [] → AreGood h.rows → AreGood (short_met c o rest h step).0.rows
  short_good None rest h step then_fault rec is e good = good
  short_good (Some a) rest h step then_fault rec is e good = go (takes_values a) e
    where
      go : (b : Bool) → cond b (option_fault c false a (attached_value rest) h) (or_else (react_fault c false a [] h) (then_fault (reacted c a [] h))) ≡ []
          → AreGood (cond b (option_met c a (attached_value rest) h) (step (reacted c a [] h))).0.rows
      go true e = option_met_good a (attached_value rest) h is e good
      go false e =
          let parts = none_first (react_fault c false a [] h) (then_fault (reacted c a [] h)) e in
          rec (reacted c a [] h) parts.1 (reacted_good a [] h is parts.0 good)

  bundle_good : (k : ℕ) (flags : Text) (skip : ℕ) (so_far : Outcome) (h : Held) → flags_fault c false k flags skip h ≡ [] → AreGood h.rows → AreGood (bundle_met c k flags skip so_far h).0.rows
  unfolding flags_fault bundle_met
  bundle_good zero flags skip so_far h e good = good
  bundle_good (suc k) flags skip so_far h e good = go (slice_get (chars flags) 0) skip e (λ rest skip so_far after. bundle_good k rest skip so_far after)
    where
      go : (o : Option ℕ) (skip : ℕ) → bundle_step_fault c false o flags skip h (flags_fault c false k) ≡ []
          → ((rest : Text) (skip : ℕ) (so_far : Outcome) (after : Held) → flags_fault c false k rest skip after ≡ [] → AreGood after.rows → AreGood (bundle_met c k rest skip so_far after).0.rows)
          → AreGood (bundle_step c o flags skip so_far h (bundle_met c k)).0.rows
      go None skip e rec = good
      go (Some x) (suc skip) e rec = rec _ skip so_far h e good
      go (Some x) zero e rec = short_good (arg_by_short c x) _ h _ _ (λ after. rec _ 0 done after) (found_ours _) e good

  -- a word that is no flag adds no row by itself
  plain_rows : (w : Waiting) (word : Text) (h : Held) → (plain_word c w word h).0.rows ≡ h.rows
  plain_rows idle word h = refl
  plain_rows positional word h = refl
  plain_rows (option id) word h = go (arg_by_id c id)
    where
      go : (o : Option Rule) → (option_word o id word h).0.rows ≡ h.rows
      go None = refl
      go (Some a) = refl

  flag_rows : (w : Waiting) (word : Text) (h : Held) (o : Outcome) → (after_flag c w word h o).0.rows ≡ h.rows
  flag_rows w word h done = refl
  flag_rows w word h (waits id) = refl
  flag_rows w word h plain = plain_rows w word h
  flag_rows w word h refused = plain_rows w word h

  other_good : (w : Waiting) (word : Text) (h : Held) → flag_word_fault c false (long_of word) word h ≡ [] → AreGood h.rows → AreGood (long_or_other c w word (long_of word) h).0.rows
  other_good w word h = long (long_of word)
    where
      short : (o : Option Text) → option_map_or (λ flags. bundle_fault c false flags h) o [] ≡ [] → AreGood h.rows → AreGood (short_or_plain c w word o h).0.rows
      short None e good = subst AreGood (sym (plain_rows w word h)) good
      short (Some flags) e good =
          subst AreGood (sym (flag_rows w word (bundle c flags h).0 (bundle c flags h).1)) (bundle_good (length flags) flags h.skip plain (record h { skip = 0 }) e good)

      long : (o : Option (Text × Option Text)) → flag_word_fault c false o word h ≡ [] → AreGood h.rows → AreGood (long_or_other c w word o h).0.rows
      long None e good = short (short_of word) e good
      long (Some p) e good =
          subst AreGood (sym (flag_rows w word (long_met c (arg_by_long c p.0) p.1 h).0 (long_met c (arg_by_long c p.0) p.1 h).1))
          (long_good (arg_by_long c p.0) p.1 h (found_ours _) e good)

  no_name : (w : Waiting) (word : Text) → subcommand_met [] w word ≡ None
  no_name idle word = refl
  no_name (option id) word = refl
  no_name positional word = refl

  met_good : (is_trailing : Bool) (w : Waiting) (position : ℕ) (word : Text) (h : Held) → word_fault s [] is_trailing w word h ≡ [] → AreGood h.rows → AreGood (word_met c [] is_trailing w position word h).0.rows
  met_good true w position word h e good = good
  met_good false w position word h e good =
      subst (λ o. AreGood (subcommand_or_other c o w position word h).0.rows) (sym (no_name w word))
      (go (bytes_eq word (45 ∷ 45 ∷ [])) (ap (λ o. other_fault s o word h) (sym (no_name w word)) ∙ e))
    where
      go : (b : Bool) → cond b [] (flag_word_fault c false (long_of word) word h) ≡ [] → AreGood (cond b (h, trailing position) (long_or_other c w word (long_of word) h)).0.rows
      go true e = good
      go false e = other_good w word h e good

  -- no option has a position
  no_place : (some : List AnOption) (i : ℕ) → arg_by_index (rules_for some) i ≡ None
  no_place [] i = refl
  no_place (x ∷ rest) i = no_place rest i

  step_good : (word : Text) (w : Walk) (h : Held) (t : Step) → AreGood h.rows → AreGood (after_step c word w h t).held.rows
  step_good word w h (next waiting) good = good
  step_good word w h (trailing position) good = good
  step_good word w h (subcommand met) good = good
  step_good word w h value good = subst (λ o. AreGood (to_positional c o word w h).held.rows) (sym (no_place options w.position)) good

  walked_good : (w : Walk) (word : Text) → turn_fault s [] w word ≡ [] → AreGood w.held.rows → AreGood (walked c [] w word).held.rows
  unfolding walked
  walked_good w word = go w.stopped
    where
      go : (o : Option (Text × List Text)) → turn_fault s [] (record w { stopped = o }) word ≡ [] → AreGood w.held.rows → AreGood (walked_from c [] o w word).held.rows
      go (Some p) e good = good
      go None e good =
          let met : Held × Step = word_met c [] w.is_trailing w.waiting w.position word w.held in
          let parts = none_first (word_fault s [] w.is_trailing w.waiting word w.held) (step_fault s w.position met.0 met.1) e in
          step_good word w met.0 met.1 (met_good w.is_trailing w.waiting w.position word w.held parts.0 good)

  words_good : (words : List Text) (w : Walk) → walk_fault s [] w words ≡ [] → AreGood w.held.rows → AreGood (fold (walked c []) w words).held.rows
  unfolding walk_fault
  words_good [] w e good = good
  words_good (word ∷ rest) w e good =
      let parts = none_first (turn_fault s [] w word) (walk_fault s [] (walked c [] w word) rest) e in
      words_good rest (walked c [] w word) parts.1 (walked_good w word parts.0 good)

  -- ---- a whole command

  -- a search among good rows finds a good one
  abbrev FindsGood : Text → Option Row → Type 0
  FindsGood id found = (r : Row) × (found ≡ Some r) × (bytes_eq r.id id ≡ true) × IsGood r

  found_good : (id : Text) (rows : List Row) → AreGood rows → has_row id rows ≡ true → FindsGood id (find (λ x. bytes_eq x.id id) rows)
  found_good id [] good some = absurd (true≢false (sym some))
  found_good id (r ∷ rows) good some = go (bytes_eq r.id id) refl some (λ later. found_good id rows good.1 later)
    where
      go : (b : Bool) → bytes_eq r.id id ≡ b → (b || has_row id rows) ≡ true → (has_row id rows ≡ true → FindsGood id (find (λ x. bytes_eq x.id id) rows))
          → FindsGood id (cond b (Some r) (find (λ x. bytes_eq x.id id) rows))
      go true is e rec = (r, refl, is, good.0)
      go false is e rec = rec e

  -- the last row of an option gives it a value
  abbrev IsRow : List Row → Text → Option Row → Type 0
  IsRow rows name r = find (λ x. bytes_eq x.id name) rows ≡ r

  of_number : (rows : List Row) (name : Text) (least most : ℕ) (r : Row) → IsRow rows name (Some r) → IsNumberOf least most r → IsNumbered rows name least most
  of_number rows name least most r is one = record {
    text = one.text;
    is = ap (option_and_then row_text) is ∙ ap (λ vs. option_map (read_as r.reading) (slice_get vs 0)) one.values ∙ ap (λ how. Some (read_as how one.text)) one.reading;
    within = accepts-Accepts false (Signed (pos least) (pos most)) one.text one.taken;
  }

  of_row : (rows : List Row) (name : Text) (takes : Taken) (r : Row) → IsRow rows name (Some r) → IsValueBy takes r → HasValueBy takes name rows
  of_row rows name (Number least most (Some text)) r is one = of_number rows name least most r is one
  of_row rows name (Number least most None) r is one = inl (of_number rows name least most r is one)
  of_row rows name Nothing r is one = inl (ap (option_and_then row_text) is ∙ one)

  of_default : (rows : List Row) (name : Text) (takes : Taken) → HasDefault takes → IsRow rows name (default_row name takes) → HasValueBy takes name rows
  of_default rows name (Number least most (Some text)) has is =
      of_number rows name least most (row_by name (Number least most (Some text)) text DefaultValue) is (record { text = text; values = refl; reading = refl; taken = has.0 })
  of_default rows name (Number least most None) has is = inr (ap (option_and_then row_text) is)
  of_default rows name Nothing has is = inr (ap (option_and_then row_text) is)

  has_value : (o : AnOption) (rows : List Row) → IsOf o options → AreGood rows → HasValue (fold with_default rows c) o
  has_value o rows of good = go (has_row o.name rows) refl
    where
      last : find (λ x. bytes_eq x.id o.name) (fold with_default rows c) ≡ cond (has_row o.name rows) (find (λ x. bytes_eq x.id o.name) rows) (default_row o.name o.takes)
      last = found_last options o rows fine.apart of

      by : (b : Bool) → has_row o.name rows ≡ b → find (λ x. bytes_eq x.id o.name) (fold with_default rows c) ≡ cond b (find (λ x. bytes_eq x.id o.name) rows) (default_row o.name o.takes)
      by b e = last ∙ ap (λ b. cond b (find (λ x. bytes_eq x.id o.name) rows) (default_row o.name o.takes)) e

      go : (b : Bool) → has_row o.name rows ≡ b → HasValue (fold with_default rows c) o
      go true e =
          let found = found_good o.name rows good e in
          of_row (fold with_default rows c) o.name o.takes found.0 (by true e ∙ found.1) (found.3 o of found.2)
      go false e = of_default (fold with_default rows c) o.name o.takes (fine.each o of).default (by false e)

  level_good : (words : List Text) → level_fault s [] nothing_held words false [] ≡ [] → AreGood (settled c (walk c [] nothing_held words).held).rows
  level_good words e =
      let end : Held = (walk c [] nothing_held words).held in
      let first = none_first (walk_fault s [] (walk_from nothing_held) words) (or_else (settle_fault c false end) (or_else (defaults_fault (settled c end).rows c) (check_fault s (finished c end) false))) e in
      let second = none_first (settle_fault c false end) (or_else (defaults_fault (settled c end).rows c) (check_fault s (finished c end) false)) first.1 in
      settled_good end second.0 (words_good words (walk_from nothing_held) first.0 tt)

  -- words that the command takes give each option its value
  pub level_given : (words : List Text) → level_fault s [] nothing_held words false [] ≡ [] → HaveValues options (rows_after c [] words)
  level_given words e =
      let end : Held = (walk c [] nothing_held words).held in
      let good = level_good words e in
      each_of _ options (λ o of. has_value o (settled c end).rows of good)

-- ---- the program

abbrev pub help_leaf : Shape
help_leaf = built_leaf (inherited (with_leaf_noted the_app.top) help_shape)

-- the commands once they are built, and help behind them
abbrev pub shapes : List ACommand → List Shape
shapes rows = map leaf_of rows ++ help_leaf ∷ []

-- the command that answers to a word
abbrev pub answering : Text → List ACommand → Option Shape
answering word rows = find (λ s. answers_to word (label_of s)) (shapes rows)

-- the name that is entered answers to the word, and the row of that name has its values
abbrev EntersRow : Text → List ACommand → Text × List Row → Type 0
EntersRow word rows p = (bytes_eq p.0 word ≡ true) × IfSome (find (λ row. bytes_eq row.name word) rows) (λ row. HaveValues row.options p.1)

enters_row : (word : Text) (words : List Text) (rows : List ACommand) → AllByRecursion (λ row. AreFine row.options) rows
    → option_map_or (λ t. level_fault t [] nothing_held words false []) (answering word rows) [] ≡ [] → IfSome (option_map (λ t. rows_at t words) (answering word rows)) (EntersRow word rows)
enters_row word words [] fine e = go (bytes_eq help_leaf.name word) refl
  where
    go : (b : Bool) → bytes_eq help_leaf.name word ≡ b → IfSome (option_map (λ t. rows_at t words) (cond (b || false) (Some help_leaf) None)) (EntersRow word [])
    go true is = (is, tt)
    go false is = tt
enters_row word words (x ∷ rest) fine e = go (bytes_eq x.name word) refl e (λ later. enters_row word words rest fine.1 later)
  where
    go : (b : Bool) → bytes_eq x.name word ≡ b → option_map_or (λ t. level_fault t [] nothing_held words false []) (cond (b || false) (Some (leaf_of x)) (answering word rest)) [] ≡ []
        → (option_map_or (λ t. level_fault t [] nothing_held words false []) (answering word rest) [] ≡ [] → IfSome (option_map (λ t. rows_at t words) (answering word rest)) (EntersRow word rest))
        → IfSome (option_map (λ t. rows_at t words) (cond (b || false) (Some (leaf_of x)) (answering word rest)))
        (λ p. (bytes_eq p.0 word ≡ true) × IfSome (cond b (Some x) (find (λ row. bytes_eq row.name word) rest)) (λ row. HaveValues row.options p.1))
    go true is e rec = (is, level_given x.name x.options fine.0 words e)
    go false is e rec = rec e

is_entered : (word : Text) (found : Option (Text × List Row)) → IfSome found (EntersRow word commands) → IfSome found (λ p. IsEntered p.0 p.1)
is_entered word None enters = tt
is_entered word (Some p) enters = subst (λ w. IfSome (find (λ row. bytes_eq row.name w) commands) (λ row. HaveValues row.options p.1)) (sym ((bytes_eq-Decides p.0 word).0 enters.0)) enters.1

-- the words that a program takes enter a command whose options have their values
pub entered_values : (words : List Text) → fault_of the_app words ≡ [] → IfSome (subcommand_of the_app words) (λ p. IsEntered p.0 p.1)
entered_values words e =
    let arguments : List Text = argument_words program_built words in
    let end : Walk = walk top.rules names nothing_held arguments in
    let later = none_first (walk_fault top names start arguments) (or_else (entered_fault program_built end.stopped) (fault_behind end)) e in
    go end.stopped (none_first (entered_fault program_built end.stopped) (fault_behind end) later.1).0
  where
    go : (stop : Option (Text × List Text)) → entered_fault program_built stop ≡ [] → IfSome (entered program_built stop) (λ p. IsEntered p.0 p.1)
    go None e = tt
    go (Some p) e = is_entered p.0 (option_map (λ t. rows_at t p.1) (answering p.0 commands)) (enters_row p.0 p.1 commands commands_fine e)
