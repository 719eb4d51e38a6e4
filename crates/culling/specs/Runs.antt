-- What a run leaves of an outcome.
use Rattle.std.specs.Prelude.{ℕ, ◌≡◌, ◌⊎◌, List, [], Some}
use Rattle.cull_base.specs.Stream.{SourceSays, SinkSays, Rose, IsNoted}
use Rattle.command_words.specs.declared.table.Command.{Command}
use Rattle.command_words.specs.declared.words.Refusal.{Refusal}
use Rattle.command_words.specs.declared.words.Refusal.TheVariants as refusals
use Rattle.frame_reports.specs.Leaves.{Leaves}
use Rattle.frame_reports.specs.Notes.{IsNotedFirst, status_text}
use Rattle.frame_reports.specs.OutcomeOf.{OutcomeOf, report_of}
use Rattle.culling.specs.Outcomes.{Ends, IfBytes, ReadsScene}
use Rattle.frame_reports.specs.declared.failure.Status.{Status}
use Rattle.frame_reports.specs.declared.failure.Status.TheVariants as statuses

-- what the input, the report and the notes say at a moment
pub record Streams : Type 0 where
  pub input : SourceSays
  pub report : SinkSays
  pub notes : SinkSays

abbrev pub streams : SourceSays → SinkSays → SinkSays → Streams
streams input report notes = record { input = input; report = report; notes = notes }

-- each fault comes only where its count rose, and of a sink only where the outcome has text for it
pub record HasCause (o : OutcomeOf) (status : Status) (before after : Streams) : Type 0 where
  pub read : status ≡ statuses.ReadFault → Rose before.input.faults after.input.faults
  pub report : status ≡ statuses.ReportFault → (report_of o ≡ [] → ⊥) × Rose before.report.faults after.report.faults
  pub notes : status ≡ statuses.NotesFault → (o.notes ≡ [] → ⊥) × Rose before.notes.faults after.notes.faults

-- The command comes to an outcome, and this is left of it. A sink for which it has no text is as it was. With Done of a command that reads nothing is left in the input.
pub record Comes (c : Command) (status : Status) (before after : Streams) (noted : SinkSays → SinkSays → List ℕ → List ℕ → Type 0) (report_same notes_same : Type 0) : Type 0 where
  pub outcome : OutcomeOf
  pub ends : Ends c before.input outcome
  pub leaves : Leaves outcome status before.report after.report (noted before.notes after.notes)
  pub causes : HasCause outcome status before after
  pub untouched : report_of outcome ≡ [] → report_same
  pub unnoted : outcome.notes ≡ [] → notes_same
  pub taken : status ≡ statuses.Done → ReadsScene c → IfBytes before.input (λ bytes. after.input.left ≡ Some [])

-- no count of faults rose
pub record WithoutFault (before after : Streams) : Type 0 where
  pub input : Rose before.input.faults after.input.faults → ⊥
  pub report : Rose before.report.faults after.report.faults → ⊥
  pub notes : Rose before.notes.faults after.notes.faults → ⊥

-- memory ran out, or the status is that of an outcome, whose input could be read
abbrev pub IsComplete : Command → SourceSays → Status → Type 0
IsComplete c source status =
    (status ≡ statuses.Memory) ⊎ ((o : OutcomeOf) × Ends c source o × (status ≡ o.status) × (o.status ≡ statuses.ReadFault → ⊥))

-- the status of a run whose words ask for nothing
abbrev pub refusal_status : Refusal → Status
refusal_status refusals.Memory = statuses.Memory
refusal_status (refusals.Words text) = statuses.Usage

-- the words ask for nothing: that was noted, or that memory ran out
abbrev pub IsUnasked : Status → SinkSays → SinkSays → Type 0
IsUnasked status before after =
    ((status ≡ statuses.Usage) × IsNotedFirst before after (status_text status)) ⊎ ((status ≡ statuses.Memory) × IsNoted before after (status_text status))
