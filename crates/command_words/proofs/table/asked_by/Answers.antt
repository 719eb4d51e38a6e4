use Rattle.std.proofs.Common.{◌≡◌, List, arith, refl, rules, subst, Some, inl, inr}
use Rattle.std.specs.Prelude.{find}
use Rattle.std.specs.Str.{bytes_eq}
use Rattle.clap.specs.Words.{Row, found_of, rows_of}
use Rattle.command_words.specs.Table.{AnOption}
use Rattle.command_words.specs.Words.{HasValue, HaveValues, frame, group, options_by, rounds, triangles, watch}
use Rattle.command_words.specs.declared.table.CommandKind.{CommandKind}
use Rattle.command_words.specs.declared.table.CommandKind.TheVariants as kinds
use Rattle.command_words.proofs.OptionNumbers.{read_within, said_within, value_of, wider}
use Rattle.command_words.proofs.table.asked_by.Goals as goal

-- of the one command that it is an option has its value
one_of_row : (kind own : CommandKind) (o : AnOption) (rows : List Row) → kind ≡ own → find (λ x. bytes_eq x.name o.name) (options_by own) ≡ Some o → HaveValues (options_by kind) rows → HasValue rows o
one_of_row kind own o rows is at has = value_of (options_by own) o rows at (subst (λ (k : CommandKind). HaveValues (options_by k) rows) is has)

pub settings_of-requires : goal.settings_of-requires
settings_of-requires c =
    let rows = rows_of (found_of c.args.matches.now) in
    let is : c.args.kind ≡ kinds.Cull = search rules in
    let has : HaveValues (options_by kinds.Cull) rows = subst (λ (k : CommandKind). HaveValues (options_by k) rows) is c.requires in
    (has.0, (has.1.0, (has.1.1.0, (has.1.1.1.0, (has.1.1.1.1.0, (has.1.1.1.1.1.0, tt))))))

pub number_of-requires : goal.number_of-requires
number_of-requires c =
    let has : HasValue (rows_of (found_of c.args.matches.now)) group = one_of_row c.args.kind kinds.Cull group (rows_of (found_of c.args.matches.now)) (search rules) refl c.requires in
    elim has [ inl some ↦ inl (wider _ _ _ _ _ some (omega arith)) | inr none ↦ inr none ]

pub returns-in-Cull-clause-limits : goal.returns-in-Cull-clause-limits
returns-in-Cull-clause-limits c =
    let rows = rows_of (found_of c.args.matches.now) in (
      c.settings_of.ensures.range,
      said_within _ _ _ _ c.number_of.result c.number_of.ensures (one_of_row c.args.kind kinds.Cull group rows (search rules) refl c.requires),
    )

pub number-requires : goal.number-requires
number-requires c = wider _ _ _ _ _ (one_of_row c.args.kind kinds.Live rounds (rows_of (found_of c.args.matches.now)) (search rules) refl c.requires) (omega arith)

pub number-requires-in-Live : goal.number-requires-in-Live
number-requires-in-Live c = wider _ _ _ _ _ (one_of_row c.args.kind kinds.Live watch (rows_of (found_of c.args.matches.now)) (search rules) refl c.requires) (omega arith)

pub returns-in-Live-clause-limits : goal.returns-in-Live-clause-limits
returns-in-Live-clause-limits c =
    let rows = rows_of (found_of c.args.matches.now) in (
      c.settings_of-in-Live.ensures.range,
      read_within _ _ _ _ _ c.number.ensures (one_of_row c.args.kind kinds.Live rounds rows (search rules) refl c.requires),
      read_within _ _ _ _ _ c.number-in-Live.ensures (one_of_row c.args.kind kinds.Live watch rows (search rules) refl c.requires),
    )

pub number-requires-in-Demo-2 : goal.number-requires-in-Demo-2
number-requires-in-Demo-2 c = wider _ _ _ _ _ (one_of_row c.args.kind kinds.Demo triangles (rows_of (found_of c.args.matches.now)) (search rules) refl c.requires) (omega arith)

pub returns-in-Demo-clause-limits : goal.returns-in-Demo-clause-limits
returns-in-Demo-clause-limits c = (
  c.settings_of-in-Demo.ensures.range,
  (read_within _ _ _ _ _ c.number-in-Demo-2.ensures (one_of_row c.args.kind kinds.Demo triangles (rows_of (found_of c.args.matches.now)) (search rules) refl c.requires)).1,
)

pub number-rounds-requires : goal.number-rounds-requires
number-rounds-requires c = wider _ _ _ _ _ (one_of_row c.args.kind kinds.Check rounds (rows_of (found_of c.args.matches.now)) (search rules) refl c.requires) (omega arith)

pub number-watch-requires : goal.number-watch-requires
number-watch-requires c = wider _ _ _ _ _ (one_of_row c.args.kind kinds.Check watch (rows_of (found_of c.args.matches.now)) (search rules) refl c.requires) (omega arith)

pub returns-in-Check-clause-limits : goal.returns-in-Check-clause-limits
returns-in-Check-clause-limits c =
    let rows = rows_of (found_of c.args.matches.now) in (
      read_within _ _ _ _ _ c.number-rounds.ensures (one_of_row c.args.kind kinds.Check rounds rows (search rules) refl c.requires),
      read_within _ _ _ _ _ c.number-watch.ensures (one_of_row c.args.kind kinds.Check watch rows (search rules) refl c.requires),
    )

pub cut_of-requires : goal.cut_of-requires
cut_of-requires c =
    let rows = rows_of (found_of c.args.matches.now) in
    let is : c.args.kind ≡ kinds.Picture = search rules in
    let has : HaveValues (options_by kinds.Picture) rows = subst (λ (k : CommandKind). HaveValues (options_by k) rows) is c.requires in
    (has.0, (has.1.0, (has.1.1.0, (has.1.1.1.0, tt))))

pub number-requires-in-Picture : goal.number-requires-in-Picture
number-requires-in-Picture c = wider _ _ _ _ _ (one_of_row c.args.kind kinds.Picture frame (rows_of (found_of c.args.matches.now)) (search rules) refl c.requires) (omega arith)

pub returns-in-Picture-clause-limits : goal.returns-in-Picture-clause-limits
returns-in-Picture-clause-limits c = (
  c.cut_of.ensures.range,
  (read_within _ _ _ _ _ c.number-in-Picture.ensures (one_of_row c.args.kind kinds.Picture frame (rows_of (found_of c.args.matches.now)) (search rules) refl c.requires)).1,
)
