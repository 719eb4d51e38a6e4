-- The table of commands in plain words and numbers, and which command lines name a command.
use Rattle.std.specs.Prelude.{ℕ, ◌≡◌, ◌↔◌, List, [], ◌∷◌, ◌++◌, None, Some, codes, map, option_map}
use Rattle.std.specs.Str.Parse.{digits_value}
use Rattle.clap.specs.Words.{Text}
use Rattle.command_words.specs.Table.{ACommand, AnOption, Taken}
use Rattle.command_words.specs.Words.{IsRefused, batch, bins_x, bins_y, command_of, early, frame, group, rounds, seed, steal, triangles, watch, workers}
use Rattle.command_words.specs.declared.rows.Takes.{Takes}
use Rattle.command_words.specs.declared.rows.Takes.TheVariants.{Number, Nothing}
use Rattle.command_words.specs.declared.table.BareCommand.TheVariants.{Upgrade}
use Rattle.command_words.specs.declared.table.CommandKind.{CommandKind}
use Rattle.command_words.specs.declared.table.CommandKind.TheVariants as kinds

-- ---- what a reader needs of the table: an option's name with its range and its default as a number, and a command's kind and name with its options

abbrev pub ToldOption : Type 0
ToldOption = Text × Takes ℕ

abbrev pub ToldCommand : Type 0
ToldCommand = CommandKind × (Text × List ToldOption)

abbrev pub told_taken : Taken → Takes ℕ
told_taken (Number least most default) = Number least most (option_map (digits_value 10) default)
told_taken Nothing = Nothing

abbrev pub told_option : AnOption → ToldOption
told_option o = (o.name, told_taken o.takes)

abbrev pub told_command : ACommand → ToldCommand
told_command row = (row.kind, (row.name, map told_option row.options))

-- ---- the same, written out

-- from the least to the most, and the default
abbrev pub told_number : Text → ℕ → ℕ → ℕ → ToldOption
told_number name least most default = (name, Number least most (Some default))

abbrev pub told_flag : Text → ToldOption
told_flag name = (name, Nothing)

abbrev pub told_cutting : List ToldOption
told_cutting =
    told_number (codes "workers") 1 64 1
    ∷ told_number (codes "bins-x") 1 8 1
    ∷ told_number (codes "bins-y") 1 8 1
    ∷ told_number (codes "batch") 1 4096 64
    ∷ []

abbrev pub told_looks : List ToldOption
told_looks = told_number (codes "rounds") 1 8 1 ∷ told_number (codes "watch") 1 8 1 ∷ []

abbrev pub told_made : List ToldOption
told_made = told_number (codes "seed") 0 4294967295 1 ∷ told_number (codes "triangles") 0 65536 20000 ∷ []

abbrev pub told_frame : List ToldOption
told_frame = told_number (codes "frame") 0 255 0 ∷ []

-- without it there are no groups
abbrev pub told_group : List ToldOption
told_group = (codes "group", Number 1 64 None) ∷ []

abbrev pub told_flags : List ToldOption
told_flags = told_flag (codes "early") ∷ told_flag (codes "steal") ∷ []

abbrev pub told_commands : List ToldCommand
told_commands =
    (kinds.Cull, (codes "cull", told_cutting ++ told_flags ++ told_group))
    ∷ (kinds.Live, (codes "live", told_cutting ++ told_looks ++ told_flags))
    ∷ (kinds.Demo, (codes "demo", told_cutting ++ told_made ++ told_flags))
    ∷ (kinds.Bare Upgrade, (codes "upgrade", []))
    ∷ (kinds.Check, (codes "check", told_looks))
    ∷ (kinds.Picture, (codes "picture", told_cutting ++ told_frame))
    ∷ []

-- ---- the laws

-- the options by their names in the definitions
abbrev pub named_options : List AnOption
named_options = workers ∷ bins_x ∷ bins_y ∷ batch ∷ rounds ∷ watch ∷ seed ∷ triangles ∷ frame ∷ group ∷ early ∷ steal ∷ []

abbrev pub told_options : List ToldOption
told_options = told_cutting ++ told_looks ++ told_made ++ told_frame ++ told_group ++ told_flags

-- a command line names none exactly where `clap` refuses it
abbrev pub NamedOrRefused : Type 0
NamedOrRefused = (words : List Text) → (command_of words ≡ None) ↔ IsRefused words
