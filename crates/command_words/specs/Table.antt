-- The rows of the table in `src/table.rt`, with texts in place of references.
use Rattle.std.specs.Prelude.{List, Option, find, map, option_map}
use Rattle.std.specs.Borrow.{Bor}
use Rattle.std.specs.Str.{bytes_eq}
use Rattle.clap.specs.Words.{Text}
use Rattle.command_words.specs.declared.rows.CommandRow.{CommandRow}
use Rattle.command_words.specs.declared.rows.OptionRow.{OptionRow}
use Rattle.command_words.specs.declared.rows.Takes.{Takes}
use Rattle.command_words.specs.declared.rows.Takes.TheVariants.{Number, Nothing}
use Rattle.command_words.specs.declared.table.TheConstants.{COMMANDS}

-- what stands behind an option's name
abbrev pub Taken : Type 0
Taken = Takes Text

abbrev pub AnOption : Type 0
AnOption = OptionRow Text

abbrev pub ACommand : Type 0
ACommand = CommandRow Text (List AnOption)

-- ---- the rows with their texts, whatever refers to them

abbrev pub taken_with : {T : Type 0} → (T → Text) → Takes T → Taken
taken_with text (Number least most default) = Number least most (option_map text default)
taken_with text Nothing = Nothing

abbrev pub option_with : {T : Type 0} → (T → Text) → OptionRow T → AnOption
option_with text o = record { name = text o.name; takes = taken_with text o.takes; help = text o.help }

abbrev pub row_with : {T O : Type 0} → (T → Text) → (O → List (OptionRow T)) → CommandRow T O → ACommand
row_with text options row = record {
  kind = row.kind;
  name = text row.name;
  about = text row.about;
  more = text row.more;
  options = map (option_with text) (options row.options);
}

abbrev pub option_of : OptionRow (Bor Text) → AnOption
option_of = option_with (λ t. t.now)

abbrev pub row_of : CommandRow (Bor Text) (Bor (List (OptionRow (Bor Text)))) → ACommand
row_of = row_with (λ t. t.now) (λ o. o.now)

-- ---- the table

abbrev pub commands : List ACommand
commands = map (row_with (λ t. t.now) (λ o. o.now)) COMMANDS.now

-- the command of this name among these; none where none has it
abbrev pub row_among : List ACommand → Text → Option ACommand
row_among rows name = find (λ row. bytes_eq row.name name) rows

abbrev pub row_named : Text → Option ACommand
row_named = row_among commands
