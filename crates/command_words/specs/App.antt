-- The command line as `clap` knows it: the program, and the commands of the table with their options.
use Rattle.std.specs.Prelude.{pos, true, List, [], ◌∷◌, Option, Some, None, fold, map, codes}
use Rattle.clap.specs.Words.{App, Rule, Shape, Text, new_app, new_rule, with_subcommand}
use Rattle.clap.specs.Simple.{new_shape, on_top}
use Rattle.clap.specs.declared.builder.action.ArgAction.{ArgAction}
use Rattle.clap.specs.declared.builder.action.ArgAction.TheVariants.{SetTrue}
use Rattle.clap.specs.declared.builder.value_parser.ValueParser.{ValueParser}
use Rattle.clap.specs.declared.builder.value_parser.ValueParser.TheVariants.{Signed}
use Rattle.command_words.specs.Table.{ACommand, AnOption, Taken, commands}
use Rattle.command_words.specs.declared.rows.Takes.TheVariants.{Number, Nothing}

abbrev pub default_texts : Taken → List Text
default_texts (Number least most (Some text)) = text ∷ []
default_texts (Number least most None) = []
default_texts Nothing = []

abbrev pub parser_by : Taken → Option ValueParser
parser_by (Number least most default) = Some (Signed (pos least) (pos most))
parser_by Nothing = None

abbrev pub action_by : Taken → Option ArgAction
action_by (Number least most default) = None
action_by Nothing = Some SetTrue

-- an option: its name stands behind two hyphens, and has a number behind it, or nothing
abbrev pub rule_by : Text → Taken → Rule
rule_by name takes = record (new_rule name) { long = Some name; action = action_by takes; defaults = default_texts takes; parser = parser_by takes }

abbrev pub rule_for : AnOption → Rule
rule_for o = rule_by o.name o.takes

-- a command with its options
abbrev pub shape_for : ACommand → Shape
shape_for row = record (new_shape row.name) { rules = map rule_for row.options }

-- the program: it has a version, and one of its commands must be named
abbrev pub the_app : App
the_app = fold (λ app row. with_subcommand app (shape_for row)) (on_top (λ s. record s { has_version = true; subcommand_required = true }) (new_app (codes "maskcull"))) commands
