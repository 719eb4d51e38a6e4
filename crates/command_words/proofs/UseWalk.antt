-- The walk over plain words: what is held between two uses, and that no word is refused.
use Rattle.std.proofs.Common.{◌≡◌, ◌∙◌, ◌<◌, ◌^◌, ℕ, Bool, true, false, cond, refl, sym, ap, subst, arith, List, [], ◌∷◌, ◌++◌, map, length, Option, Some, None, option_map, codes, nat_lt, pos, append_assoc, append-nil}
use Rattle.std.specs.Fmt.{decimal}
use Rattle.std.specs.List.{flat_map, fold}
use Rattle.std.specs.Option.{option_map_or}
use Rattle.std.specs.Prelude.{if◌then◌else◌, option_and_then}
use Rattle.std.specs.Str.{bytes_eq}
use Rattle.std.specs.Str.Parse.{digits_value, without_leading_plus}
use Rattle.clap.specs.Lexer.{long_of, long_of_rest, short_of_rest, strip_byte, without_minus}
use Rattle.clap.specs.Simple.{Shape, new_shape}
use Rattle.clap.specs.Walk.{Held, Row, Rule, Step, Text, Waiting, Walk, after_flag, after_step, has_row, idle, long_met, long_or_other, next, option, option_word, settled, short_or_plain, trailing, used, used_by_id, walked, word_met}
use Rattle.clap.specs.Faults.{bundle_fault, flag_word_fault, long_fault, settle_fault, step_fault, turn_fault, use_fault, walk_fault, word_fault}
use Rattle.clap.specs.Kinds.{or_else}
use Rattle.clap.specs.ValueTests.{accepts}
use Rattle.clap.specs.declared.builder.value_parser.ValueParser.TheVariants.{Signed}
use Rattle.clap.proofs.CutLemmas.{Lacks}
use Rattle.clap.proofs.LexerLemmas.{name_and_value-at, name_and_value-without}
use Rattle.command_words.specs.Table.{AnOption, Taken}
use Rattle.command_words.specs.Words.{IsInRange, Use, words_by, words_of_use}
use Rattle.command_words.specs.declared.rows.Takes.TheVariants.{Number, Nothing}
use Rattle.command_words.proofs.DecimalWords.{bare_number}
use Rattle.command_words.proofs.OptionRules.{IsOf, are_apart, found_id, found_long, ready, rules_for, same_text}
use Rattle.command_words.proofs.UseRows.{IsSmall, flag_new, given_for, new_by, passes_by, row_for}

abbrev pub pending_for : Option Use → Option (Text × List Text)
pending_for = option_map (λ u. (u.option.name, given_for u))

abbrev pub held_for : List Row → Option Use → Held
held_for rows last = record { rows = rows; pending = pending_for last; skip = 0 }

-- the walk between two uses: these rows, and maybe a last use whose value is still held back
abbrev pub between : List Row → Option Use → Walk
between rows last = record { held = held_for rows last; waiting = idle; position = 1; is_trailing = false; stopped = None }

abbrev pub rows_with : List Row → Option Use → List Row
rows_with rows None = rows
rows_with rows (Some u) = rows ++ row_for u ∷ []

-- the text of a default is a number in the range, without leading signs
abbrev pub IsDefault : ℕ → ℕ → Option Text → Type 0
IsDefault least most None = Unit {0}
IsDefault least most (Some text) =
    (accepts false (Signed (pos least) (pos most)) text ≡ true) × (digits_value 10 (without_leading_plus (without_minus text)) ≡ digits_value 10 text)

abbrev pub HasDefault : Taken → Type 0
HasDefault (Number least most default) = IsDefault least most default
HasDefault Nothing = Unit {0}

-- an option whose name can be told from its value, and whose numbers are small
pub record IsFine (o : AnOption) : Type 0 where
  pub some : 0 < length o.name
  pub lacks : Lacks 61 o.name
  pub small : IsSmall o.takes
  pub default : HasDefault o.takes

pub record AreFine (options : List AnOption) : Type 0 where
  pub apart : are_apart options ≡ true
  pub each : (o : AnOption) → IsOf o options → IsFine o

-- a command with these options, once it is built
abbrev pub leaf : Text → List AnOption → Shape
leaf name options = record (new_shape name) { rules = rules_for options; disable_help_subcommand = true; is_built = true }

-- ---- what the words look like

abbrev joined_word : Use → Text
joined_word u = codes "--" ++ u.option.name ++ codes "=" ++ decimal u.number

abbrev name_word : Use → Text
name_word u = codes "--" ++ u.option.name

joined_is : (u : Use) → IsFine u.option → (long_of (joined_word u) ≡ Some (u.option.name, Some (decimal u.number))) × (bytes_eq (joined_word u) (45 ∷ 45 ∷ []) ≡ false)
joined_is u fine = go u.option.name fine.some fine.lacks
  where
    go : (name : Text) → 0 < length name → Lacks 61 name
        → (long_of (codes "--" ++ name ++ codes "=" ++ decimal u.number) ≡ Some (name, Some (decimal u.number)))
        × (bytes_eq (codes "--" ++ name ++ codes "=" ++ decimal u.number) (45 ∷ 45 ∷ []) ≡ false)
    go [] some lacks = absurd (omega arith)
    go (x ∷ xs) some lacks =
        (ap (λ t. long_of (45 ∷ 45 ∷ t)) (append_assoc (x ∷ xs) (61 ∷ []) (decimal u.number)) ∙ ap Some (name_and_value-at (x ∷ xs) (decimal u.number) lacks), refl)

name_is : (u : Use) → IsFine u.option → (long_of (name_word u) ≡ Some (u.option.name, None)) × (bytes_eq (name_word u) (45 ∷ 45 ∷ []) ≡ false)
name_is u fine = go u.option.name fine.some fine.lacks
  where
    go : (name : Text) → 0 < length name → Lacks 61 name → (long_of (codes "--" ++ name) ≡ Some (name, None)) × (bytes_eq (codes "--" ++ name) (45 ∷ 45 ∷ []) ≡ false)
    go [] some lacks = absurd (omega arith)
    go (x ∷ xs) some lacks = (ap Some (name_and_value-without (x ∷ xs) lacks), refl)

-- the use, of an option that takes this
abbrev pub taking : Use → Taken → Use
taking u takes = record u { option = record u.option { takes = takes } }

module _ (name : Text) (options : List AnOption) (fine : AreFine options) where
  abbrev s : Shape
  s = leaf name options

  abbrev c : List Rule
  c = rules_for options

  pub record IsUse (u : Use) : Type 0 where
    pub of : IsOf u.option options
    pub within : IsInRange u

  -- the use that is held back is one of a new option
  abbrev pub IsWaiting : List Row → Option Use → Type 0
  IsWaiting rows None = Unit {0}
  IsWaiting rows (Some u) = IsUse u × (has_row u.option.name rows ≡ false)

  small : (u : Use) → IsUse u → IsSmall u.option.takes
  small u is = (fine.each u.option is.of).small

  use_passes : (u : Use) (rows : List Row) → IsUse u → has_row u.option.name rows ≡ false → use_fault false (ready u.option) (given_for u) rows ≡ []
  use_passes u rows is none = passes_by u.option.name u.option.takes u.number rows (small u is) is.within none

  used_new : (u : Use) (rows : List Row) → has_row u.option.name rows ≡ false → used (ready u.option) (given_for u) rows ≡ rows ++ row_for u ∷ []
  used_new u rows none = new_by u.option.name u.option.takes u.number rows none

  -- the last use is settled
  pub settled_is : (rows : List Row) (last : Option Use) → IsWaiting rows last → settled c (held_for rows last) ≡ held_for (rows_with rows last) None
  settled_is rows None waits = refl
  settled_is rows (Some u) waits =
      ap (λ (o : Option Rule). held_for (used_by_id o (given_for u) rows) None) (found_id options u.option fine.apart waits.0.of)
      ∙ ap (λ rs. held_for rs None) (used_new u rows waits.1)

  pub settles : (rows : List Row) (last : Option Use) → IsWaiting rows last → settle_fault c false (held_for rows last) ≡ []
  settles rows None waits = refl
  settles rows (Some u) waits =
      ap (λ (o : Option Rule). option_map_or (λ a. use_fault false a (given_for u) rows) o []) (found_id options u.option fine.apart waits.0.of)
      ∙ use_passes u rows waits.0 waits.1

  -- ---- a word that names an option

  module _ (u : Use) (is : IsUse u) (word : Text) (v : Option Text) (long : long_of word ≡ Some (u.option.name, v)) (no_end : bytes_eq word (45 ∷ 45 ∷ []) ≡ false) (h : Held) where
    met_long : word_met c [] false idle 1 word h ≡ after_flag c idle word (long_met c (Some (ready u.option)) v h).0 (long_met c (Some (ready u.option)) v h).1
    met_long =
        ap (λ b. cond b (h, trailing 1) (long_or_other c idle word (long_of word) h)) no_end
        ∙ ap (λ o. long_or_other c idle word o h) long
        ∙ ap (λ (o : Option Rule). after_flag c idle word (long_met c o v h).0 (long_met c o v h).1) (found_long options u.option fine.apart is.of)

    fault_long : word_fault s [] false idle word h ≡ long_fault c false (Some (ready u.option)) v h
    fault_long =
        ap (λ b. cond b [] (flag_word_fault c false (long_of word) word h)) no_end
        ∙ ap (λ o. flag_word_fault c false o word h) long
        ∙ ap (λ (o : Option Rule). long_fault c false o v h) (found_long options u.option fine.apart is.of)

  module _ (rows : List Row) (last : Option Use) (waits : IsWaiting rows last) where
    settled_rows_are : (settled c (held_for rows last)).rows ≡ rows_with rows last
    settled_rows_are = ap (λ (h : Held). h.rows) (settled_is rows last waits)

    -- ---- an option with a number

    module _ (any : Use) (least most : ℕ) (default : Option Text) (is : IsUse (taking any (Number least most default))) (new : has_row any.option.name (rows_with rows last) ≡ false) where
      abbrev u : Use
      u = taking any (Number least most default)

      number_fits : u.number < 2 ^ 64
      number_fits = let low = small u is in let upper = is.within.1 in omega arith

      used_is : used (ready u.option) (decimal u.number ∷ []) (settled c (held_for rows last)).rows ≡ rows_with rows last ++ row_for u ∷ []
      used_is = ap (used (ready u.option) (decimal u.number ∷ [])) settled_rows_are ∙ used_new u (rows_with rows last) new

      -- `--name=value`
      joined_walk : walked c [] (between rows last) (joined_word u) ≡ between (rows_with rows last ++ row_for u ∷ []) None
      unfolding walked
      joined_walk =
          let looks = joined_is u (fine.each u.option is.of) in
          ap (λ (m : Held × Step). after_step c (joined_word u) (between rows last) m.0 m.1)
          (met_long u is (joined_word u) (Some (decimal u.number)) looks.0 looks.1 (held_for rows last))
          ∙ ap (λ rs. between rs None) used_is

      joined_passes : turn_fault s [] (between rows last) (joined_word u) ≡ []
      joined_passes =
          let looks = joined_is u (fine.each u.option is.of) in
          ap (λ (m : Held × Step). or_else (word_fault s [] false idle (joined_word u) (held_for rows last)) (step_fault s 1 m.0 m.1))
          (met_long u is (joined_word u) (Some (decimal u.number)) looks.0 looks.1 (held_for rows last))
          ∙ ap (λ k. or_else k []) (fault_long u is (joined_word u) (Some (decimal u.number)) looks.0 looks.1 (held_for rows last))
          ∙ ap (λ k. or_else (or_else k (use_fault false (ready u.option) (decimal u.number ∷ []) (settled c (held_for rows last)).rows)) []) (settles rows last waits)
          ∙ ap (λ rs. or_else (use_fault false (ready u.option) (decimal u.number ∷ []) rs) []) settled_rows_are
          ∙ ap (λ k. or_else k []) (use_passes u (rows_with rows last) is new)

      -- `--name`, whose value is still to come
      abbrev waits_for : Held → Walk
      waits_for h = record { held = record h { pending = Some (u.option.name, []) }; waiting = option u.option.name; position = 1; is_trailing = false; stopped = None }

      abbrev named : Walk
      named = waits_for (held_for (rows_with rows last) None)

      name_walk : walked c [] (between rows last) (name_word u) ≡ named
      unfolding walked
      name_walk =
          let looks = name_is u (fine.each u.option is.of) in
          ap (λ (m : Held × Step). after_step c (name_word u) (between rows last) m.0 m.1)
          (met_long u is (name_word u) None looks.0 looks.1 (held_for rows last))
          ∙ ap waits_for (settled_is rows last waits)

      name_passes : turn_fault s [] (between rows last) (name_word u) ≡ []
      name_passes =
          let looks = name_is u (fine.each u.option is.of) in
          ap (λ (m : Held × Step). or_else (word_fault s [] false idle (name_word u) (held_for rows last)) (step_fault s 1 m.0 m.1))
          (met_long u is (name_word u) None looks.0 looks.1 (held_for rows last))
          ∙ ap (λ k. or_else k []) (fault_long u is (name_word u) None looks.0 looks.1 (held_for rows last))
          ∙ ap (λ k. or_else k []) (settles rows last waits)

      abbrev plain_met : Held × Waiting → Held × Step
      plain_met m = (m.0, next m.1)

      abbrev waiting_while : Bool → Waiting
      waiting_while b = cond b (option u.option.name) idle

      -- the value
      met_value : word_met c [] false named.waiting 1 (decimal u.number) named.held ≡ (held_for (rows_with rows last) (Some u), next idle)
      met_value =
          let word = bare_number u.number number_fits in
          ap (λ b. cond b (named.held, trailing 1) (long_or_other c named.waiting (decimal u.number) (long_of (decimal u.number)) named.held)) word.hyphens
          ∙ ap (λ o. long_or_other c named.waiting (decimal u.number) (option_and_then long_of_rest (option_and_then (strip_byte 45) o)) named.held) word.hyphen
          ∙ ap (λ o. short_or_plain c named.waiting (decimal u.number) (option_and_then short_of_rest o) named.held) word.hyphen
          ∙ ap (λ (o : Option Rule). plain_met (option_word o u.option.name (decimal u.number) named.held)) (found_id options u.option fine.apart is.of)
          ∙ ap (λ b. (held_for (rows_with rows last) (Some u), next (waiting_while (nat_lt (if b then 1 else 0) 1)))) (same_text u.option.name)

      value_walk : walked c [] named (decimal u.number) ≡ between (rows_with rows last) (Some u)
      unfolding walked
      value_walk = ap (λ (m : Held × Step). after_step c (decimal u.number) named m.0 m.1) met_value

      value_passes : turn_fault s [] named (decimal u.number) ≡ []
      value_passes =
          let word = bare_number u.number number_fits in
          ap (λ (m : Held × Step). or_else (word_fault s [] false named.waiting (decimal u.number) named.held) (step_fault s 1 m.0 m.1)) met_value
          ∙ ap (λ b. or_else (cond b [] (flag_word_fault c false (long_of (decimal u.number)) (decimal u.number) named.held)) []) word.hyphens
          ∙ ap (λ o. or_else (flag_word_fault c false (option_and_then long_of_rest (option_and_then (strip_byte 45) o)) (decimal u.number) named.held) []) word.hyphen
          ∙ ap (λ o. or_else (option_map_or (λ flags. bundle_fault c false flags named.held) (option_and_then short_of_rest o) []) []) word.hyphen

    -- ---- a flag

    module _ (any : Use) (is : IsUse (taking any Nothing)) (new : has_row any.option.name (rows_with rows last) ≡ false) where
      abbrev f : Use
      f = taking any Nothing

      flag_used_is : used (ready f.option) [] (settled c (held_for rows last)).rows ≡ rows_with rows last ++ row_for f ∷ []
      flag_used_is = ap (used (ready f.option) []) settled_rows_are ∙ flag_new f.option.name (rows_with rows last) new

      flag_walk : walked c [] (between rows last) (name_word f) ≡ between (rows_with rows last ++ row_for f ∷ []) None
      unfolding walked
      flag_walk =
          let looks = name_is f (fine.each f.option is.of) in
          ap (λ (m : Held × Step). after_step c (name_word f) (between rows last) m.0 m.1)
          (met_long f is (name_word f) None looks.0 looks.1 (held_for rows last))
          ∙ ap (λ rs. between rs None) flag_used_is

      flag_passes : turn_fault s [] (between rows last) (name_word f) ≡ []
      flag_passes =
          let looks = name_is f (fine.each f.option is.of) in
          ap (λ (m : Held × Step). or_else (word_fault s [] false idle (name_word f) (held_for rows last)) (step_fault s 1 m.0 m.1))
          (met_long f is (name_word f) None looks.0 looks.1 (held_for rows last))
          ∙ ap (λ k. or_else k []) (fault_long f is (name_word f) None looks.0 looks.1 (held_for rows last))
          ∙ ap (λ k. or_else (or_else k (use_fault false (ready f.option) [] (settled c (held_for rows last)).rows)) []) (settles rows last waits)
          ∙ ap (λ rs. or_else (use_fault false (ready f.option) [] rs) []) settled_rows_are
          ∙ ap (λ k. or_else k []) (use_passes f (rows_with rows last) is new)

  -- ---- all uses

  -- each use is one of an option that has no row yet
  abbrev pub AreNew : List Row → List Use → Type 0
  AreNew rows [] = Unit {0}
  AreNew rows (u ∷ rest) = IsUse u × (has_row u.option.name rows ≡ false) × AreNew (rows ++ row_for u ∷ []) rest

  -- the walk over the words fails nowhere and ends with these rows, once its last use is settled
  pub record Passes (w : Walk) (words : List Text) (rows : List Row) : Type 0 where
    pub before : List Row
    pub last : Option Use
    pub waits : IsWaiting before last
    pub end : fold (walked c []) w words ≡ between before last
    pub no_fault : walk_fault s [] w words ≡ []
    pub rows_are : rows_with before last ≡ rows

  one_more : (w after : Walk) (word : Text) (words : List Text) (rows : List Row) → walked c [] w word ≡ after → turn_fault s [] w word ≡ [] → Passes after words rows → Passes w (word ∷ words) rows
  unfolding walk_fault
  one_more w after word words rows moves passes p = record {
    before = p.before;
    last = p.last;
    waits = p.waits;
    end = ap (λ (v : Walk). fold (walked c []) v words) moves ∙ p.end;
    no_fault = ap (λ k. or_else k (walk_fault s [] (walked c [] w word) words)) passes ∙ ap (λ (v : Walk). walk_fault s [] v words) moves ∙ p.no_fault;
    rows_are = p.rows_are;
  }

  -- wherever the walk comes with these rows, it goes on over more words to its last rows
  abbrev GoesOn : List Row → List Text → List Row → Type 0
  GoesOn rows more end = (held : List Row) (last : Option Use) → IsWaiting held last → rows_with held last ≡ rows → Passes (between held last) more end

  -- one use passes, where what follows does
  one_use : (rows : List Row) (last : Option Use) (u : Use) (more : List Text) (end : List Row) → IsWaiting rows last → IsUse u → has_row u.option.name (rows_with rows last) ≡ false
      → GoesOn (rows_with rows last ++ row_for u ∷ []) more end → Passes (between rows last) (words_of_use u ++ more) end
  one_use rows last u more end waits is new on = go u.option.takes u.is_joined is on
    where
      go : (takes : Taken) (is_joined : Bool) → IsUse (taking u takes) → GoesOn (rows_with rows last ++ row_for (taking u takes) ∷ []) more end
          → Passes (between rows last) (words_by takes u.option.name u.number is_joined ++ more) end
      go (Number least most default) true is on = one_more _ _ _ _ _ (joined_walk rows last waits u least most default is new) (joined_passes rows last waits u least most default is new)
          (on (rows_with rows last ++ row_for (taking u (Number least most default)) ∷ []) None tt refl)
      go (Number least most default) false is on = one_more _ _ _ _ _ (name_walk rows last waits u least most default is new) (name_passes rows last waits u least most default is new)
          (one_more _ _ _ _ _ (value_walk rows last waits u least most default is new) (value_passes rows last waits u least most default is new)
          (on (rows_with rows last) (Some (taking u (Number least most default))) (is, new) refl))
      go Nothing is_joined is on = one_more _ _ _ _ _ (flag_walk rows last waits u is new) (flag_passes rows last waits u is new)
          (on (rows_with rows last ++ row_for (taking u Nothing) ∷ []) None tt refl)

  uses_pass : (rows : List Row) (last : Option Use) (uses : List Use) → IsWaiting rows last → AreNew (rows_with rows last) uses
      → Passes (between rows last) (flat_map words_of_use uses) (rows_with rows last ++ map row_for uses)
  unfolding walk_fault
  uses_pass rows last [] waits new = record { before = rows; last = last; waits = waits; end = refl; no_fault = refl; rows_are = sym (append-nil (rows_with rows last)) }
  uses_pass rows last (u ∷ rest) waits new =
      one_use rows last u (flat_map words_of_use rest) (rows_with rows last ++ row_for u ∷ map row_for rest) waits new.0 new.1
      (λ held next_last waiting same.
      subst (Passes (between held next_last) (flat_map words_of_use rest))
      (ap (λ rs. rs ++ map row_for rest) same ∙ append_assoc (rows_with rows last) (row_for u ∷ []) (map row_for rest))
      (uses_pass held next_last rest waiting (subst (λ rs. AreNew rs rest) (sym same) new.2)))

  pub all_pass : (uses : List Use) → AreNew [] uses → Passes (between [] None) (flat_map words_of_use uses) (map row_for uses)
  all_pass uses new = uses_pass [] None uses tt new
