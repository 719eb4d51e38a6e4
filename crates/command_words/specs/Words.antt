-- The command words: what they ask for by the table, and which of them are plain.
use Rattle.std.specs.Prelude.{ℕ, pos, Bool, false, ◌≡◌, ◌≤◌, ◌⊎◌, List, [], ◌∷◌, ◌++◌, Option, Some, None, All, Contains, IfSome, find, flat_map, codes, if◌then◌else◌, option_and_then, is_some, option_map, unwrap_or}
use Rattle.std.specs.Fmt.{decimal}
use Rattle.std.specs.List.{AllByRecursion}
use Rattle.std.specs.Option.{option_map_or}
use Rattle.std.specs.Str.{bytes_eq}
use Rattle.std.specs.Str.Parse.{digits_value, without_leading_plus}
use Rattle.clap.specs.Walk.{is_empty}
use Rattle.clap.specs.Words.{IsSignedIn, Row, Text, one_of, without_minus, subcommand_of, fault_of}
use Rattle.binning.specs.Cut.{cut_into}
use Rattle.command_words.specs.App.{the_app}
use Rattle.command_words.specs.Table.{ACommand, AnOption, Taken, commands, option_with, row_named, row_with}
use Rattle.command_words.specs.declared.table.Command.{Command}
use Rattle.command_words.specs.declared.table.Command.TheVariants.{Cull, Live, Demo, Check, Picture, Bare}
use Rattle.command_words.specs.declared.settings.Settings.{Settings}
use Rattle.command_words.specs.declared.table.CommandKind.{CommandKind}
use Rattle.command_words.specs.declared.table.CommandKind.TheVariants as kinds
use Rattle.command_words.specs.declared.table.TheConstants.{BATCH, BINS_X, BINS_Y, CHECK, CULL, DEMO, EARLY, FRAME, GROUP, LIVE, PICTURE, ROUNDS, SEED, STEAL, TRIANGLES, WATCH, WORKERS}
use Rattle.command_words.specs.declared.rows.Takes.TheVariants.{Number, Nothing}
use Rattle.command_words.specs.declared.words.Refusal.{Refusal}
use Rattle.command_words.specs.declared.words.Refusal.TheVariants as refusals

-- ---- the options and the rows, by their names

abbrev pub workers : AnOption
workers = option_with (λ t. t.now) WORKERS

abbrev pub bins_x : AnOption
bins_x = option_with (λ t. t.now) BINS_X

abbrev pub bins_y : AnOption
bins_y = option_with (λ t. t.now) BINS_Y

abbrev pub batch : AnOption
batch = option_with (λ t. t.now) BATCH

abbrev pub rounds : AnOption
rounds = option_with (λ t. t.now) ROUNDS

abbrev pub watch : AnOption
watch = option_with (λ t. t.now) WATCH

abbrev pub seed : AnOption
seed = option_with (λ t. t.now) SEED

abbrev pub triangles : AnOption
triangles = option_with (λ t. t.now) TRIANGLES

abbrev pub frame : AnOption
frame = option_with (λ t. t.now) FRAME

abbrev pub group : AnOption
group = option_with (λ t. t.now) GROUP

abbrev pub early : AnOption
early = option_with (λ t. t.now) EARLY

abbrev pub steal : AnOption
steal = option_with (λ t. t.now) STEAL

-- the options by which frames are cut and shared, and those of a command that may also settle objects early and let
-- workers take bins from others
abbrev pub cutting : List AnOption
cutting = workers ∷ bins_x ∷ bins_y ∷ batch ∷ []

abbrev pub sharing : List AnOption
sharing = workers ∷ bins_x ∷ bins_y ∷ batch ∷ early ∷ steal ∷ []

-- the options of the command of a kind
abbrev pub options_by : CommandKind → List AnOption
options_by kinds.Cull = (row_with (λ t. t.now) (λ o. o.now) CULL).options
options_by kinds.Live = (row_with (λ t. t.now) (λ o. o.now) LIVE).options
options_by kinds.Demo = (row_with (λ t. t.now) (λ o. o.now) DEMO).options
options_by kinds.Check = (row_with (λ t. t.now) (λ o. o.now) CHECK).options
options_by kinds.Picture = (row_with (λ t. t.now) (λ o. o.now) PICTURE).options
options_by (kinds.Bare command) = []

-- ---- the ranges

-- the option may have this number; a flag has none, which is written as 0
abbrev pub IsIn : Taken → ℕ → Type 0
IsIn (Number least most default) n = (least ≤ n) × (n ≤ most)
IsIn Nothing n = n ≡ 0

-- so many workers and such batches can be drawn with
pub record AreInRange (s : Settings) : Type 0 where
  pub some_workers : 1 ≤ s.workers
  pub few_workers : s.workers ≤ 64
  pub some_batch : 1 ≤ s.batch
  pub small_batch : s.batch ≤ 4096

-- such commands can be done: the ranges of the table lie within
abbrev pub IsWithinLimits : Command → Type 0
IsWithinLimits (Cull words) = AreInRange words.settings × IfSome words.group (λ n. (1 ≤ n) × (n ≤ 64))
IsWithinLimits (Live words) = AreInRange words.settings × ((1 ≤ words.rounds) × (words.rounds ≤ 8)) × ((1 ≤ words.watch) × (words.watch ≤ 8))
IsWithinLimits (Demo words) = AreInRange words.settings × (words.triangles ≤ 65536)
IsWithinLimits (Check words) = ((1 ≤ words.rounds) × (words.rounds ≤ 8)) × ((1 ≤ words.watch) × (words.watch ≤ 8))
IsWithinLimits (Picture words) = AreInRange words.settings × (words.frame ≤ 255)
IsWithinLimits (Bare command) = Unit {0}

-- the words are refused, and memory isn't wanted
abbrev pub AreWords : Refusal → Type 0
AreWords refusals.Memory = ⊥
AreWords (refusals.Words text) = Unit {0}

-- ---- what words ask for: of any words that `clap` takes, what it makes of them

-- the number that a text says, if there is one
abbrev pub number_said : Option Text → Option ℕ
number_said = option_map (λ text. digits_value 10 (without_leading_plus text))

-- 0 where the text says that a flag is given
abbrev pub flag_said : Option Text → Option ℕ
flag_said = option_and_then (λ text. if bytes_eq text (codes "true") then Some 0 else None)

abbrev pub value_by : Taken → Option Text → Option ℕ
value_by (Number least most default) = number_said
value_by Nothing = flag_said

-- the value that an option has among the matches
abbrev pub value_in : List Row → AnOption → Option ℕ
value_in rows o = value_by o.takes (one_of o.name rows)

-- the number of an option that has a default
abbrev pub number_of : (AnOption → Option ℕ) → AnOption → ℕ
number_of values o = unwrap_or (values o) 0

-- how frames are cut and shared, where the options have these values, and whether objects are settled early and bins
-- are taken from others
abbrev pub cut_by : (AnOption → Option ℕ) → Bool → Bool → Settings
cut_by values settled stolen = record {
  workers = number_of values workers;
  cut = cut_into (number_of values bins_x) (number_of values bins_y);
  batch = number_of values batch;
  early = settled;
  steal = stolen;
}

-- the same, where these are options too
abbrev pub settings_by : (AnOption → Option ℕ) → Settings
settings_by values = cut_by values (is_some (values early)) (is_some (values steal))

-- what a command asks for, where its options have these values
abbrev pub asked_by : CommandKind → (AnOption → Option ℕ) → Command
asked_by kinds.Cull values = Cull (record { settings = settings_by values; group = values group })
asked_by kinds.Live values = Live (record {
  settings = settings_by values;
  rounds = number_of values rounds;
  watch = number_of values watch;
})
asked_by kinds.Demo values = Demo (record {
  settings = settings_by values;
  seed = number_of values seed;
  triangles = number_of values triangles;
})
asked_by kinds.Check values = Check (record {
  rounds = number_of values rounds;
  watch = number_of values watch;
})
asked_by kinds.Picture values = Picture (record { settings = cut_by values false false; frame = number_of values frame })
asked_by (kinds.Bare command) values = Bare command

-- the values of a command's own options, found by their names
abbrev pub own_values : List AnOption → (AnOption → Option ℕ) → AnOption → Option ℕ
own_values options values o = option_and_then values (find (λ x. bytes_eq x.name o.name) options)

-- what the command of this name asks for by its matches; none where no command has the name
abbrev pub asked_in : Text → List Row → Option Command
asked_in name rows = option_map (λ row. asked_by row.kind (own_values row.options (value_in rows))) (row_named name)

-- `clap` refuses the words
abbrev pub IsRefused : List Text → Type 0
IsRefused words = is_empty (fault_of the_app words) ≡ false

-- what the words ask for; none where `clap` refuses them
unfoldable pub command_of : List Text → Option Command
command_of words =
    if is_empty (fault_of the_app words) then option_and_then (λ p. asked_in p.0 p.1) (subcommand_of the_app words)
    else None

-- ---- what `clap` has seen to

-- the option of this name has a value among the matches, and it is a number in this range
pub record IsNumbered (rows : List Row) (name : Text) (least most : ℕ) : Type 0 where
  pub text : Text
  pub is : one_of name rows ≡ Some (without_minus text)
  pub within : IsSignedIn (pos least) (pos most) text

-- a flag is true or false
abbrev pub IsFlag : Text → List Row → Type 0
IsFlag name rows = (one_of name rows ≡ Some (codes "true")) ⊎ (one_of name rows ≡ Some (codes "false"))

-- a number is in its range, and is missing only where there is no default
abbrev pub HasValueBy : Taken → Text → List Row → Type 0
HasValueBy (Number least most (Some default)) name rows = IsNumbered rows name least most
HasValueBy (Number least most None) name rows = IsNumbered rows name least most ⊎ (one_of name rows ≡ None)
HasValueBy Nothing name rows = IsFlag name rows

abbrev pub HasValue : List Row → AnOption → Type 0
HasValue rows o = HasValueBy o.takes o.name rows

abbrev pub HaveValues : List AnOption → List Row → Type 0
HaveValues options rows = AllByRecursion (HasValue rows) options

-- the options of the command of this name have their values
abbrev pub IsEntered : Text → List Row → Type 0
IsEntered name rows = IfSome (row_named name) (λ row. HaveValues row.options rows)

-- ---- plain words: a command's name, and its options in any order, each at most once

-- an option with its number, as one word or as two; or a flag, with 0
pub record Use : Type 0 where
  pub option : AnOption
  pub number : ℕ
  pub is_joined : Bool

-- `--name=value`, or `--name` and then the value, in decimal without leading zeros; of a flag `--name`
abbrev pub words_by : Taken → Text → ℕ → Bool → List Text
words_by (Number least most default) name n is_joined =
    if is_joined then (codes "--" ++ name ++ codes "=" ++ decimal n) ∷ []
    else (codes "--" ++ name) ∷ decimal n ∷ []
words_by Nothing name n is_joined = (codes "--" ++ name) ∷ []

abbrev pub words_of_use : Use → List Text
words_of_use u = words_by u.option.takes u.option.name u.number u.is_joined

-- the number is one that the option may have
abbrev pub IsInRange : Use → Type 0
IsInRange u = IsIn u.option.takes u.number

-- no option is used twice
abbrev pub AreApart : List Use → Type 0
AreApart [] = Unit {0}
AreApart (u ∷ rest) = All (λ v. u.option ≡ v.option → ⊥) rest × AreApart rest

-- uses of some of these options
pub record AreUses (options : List AnOption) (uses : List Use) : Type 0 where
  pub known : All (λ u. Contains options u.option) uses
  pub in_range : All IsInRange uses
  pub apart : AreApart uses

-- the number that stands where an option isn't given
abbrev pub default_by : Taken → Option ℕ
default_by (Number least most default) = option_map (digits_value 10) default
default_by Nothing = None

-- the number that an option's use states, or its default
abbrev pub stated : List Use → AnOption → Option ℕ
stated uses o = option_map_or (λ u. Some u.number) (find (λ u. bytes_eq u.option.name o.name) uses) (default_by o.takes)

-- the words are the program's name, this command's, and uses of its options; what they ask for
pub record ArePlainFor (row : ACommand) (words : List Text) (c : Command) : Type 0 where
  pub program : Text
  pub uses : List Use
  pub are_uses : AreUses row.options uses
  pub spelled : words ≡ program ∷ row.name ∷ flat_map words_of_use uses
  pub asked : asked_by row.kind (own_values row.options (stated uses)) ≡ c

-- plain words, and what they ask for
abbrev pub ArePlain : List Text → Command → Type 0
ArePlain words c = (row : ACommand) × Contains commands row × ArePlainFor row words c
