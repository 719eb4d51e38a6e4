-- What is left of an outcome on the report and on the notes.
use Rattle.std.specs.Prelude.{ℕ, ◌≡◌, ◌⊎◌, ◌+◌, ◌<◌, ◌≤◌, ◌++◌, List, length, take, Result}
use Rattle.cull_base.specs.Stream.{SinkSays, Appends, AppendsPrefix}
use Rattle.frame_reports.specs.NotedLines.{CountsStay}
use Rattle.frame_reports.specs.Notes.{note_by, status_text}
use Rattle.frame_reports.specs.OutcomeOf.{OutcomeOf, joined, notes_at, notes_before, report_before, report_of}
use Rattle.frame_reports.specs.declared.failure.Failure.{Failure}
use Rattle.frame_reports.specs.declared.failure.Status.{Status}
use Rattle.frame_reports.specs.declared.failure.Status.TheVariants as statuses

-- a status that comes in the place of an outcome's: a sink failed, or memory ran out
abbrev pub IsCut : Status → Type 0
IsCut status = (status ≡ statuses.ReportFault) ⊎ (status ≡ statuses.NotesFault) ⊎ (status ≡ statuses.Memory)

-- the whole outcome stands: its report, and its notes with the status's note
pub record LeavesWhole (o : OutcomeOf) (before after : SinkSays) (noted : List ℕ → List ℕ → Type 0) : Type 0 where
  pub reported : Appends before after (report_of o)
  pub noted_is : noted (joined o.notes) o.note

-- A front of the outcome stands, and behind it the status's note. There is a frame, up to which the report may stand. Before it the report is whole, and the notes
-- have all lines; of its own lines they have some only where its report is whole: none after a fault of the report, and not all after one of the notes.
pub record LeavesFront (o : OutcomeOf) (status : Status) (before after : SinkSays) (noted : List ℕ → List ℕ → Type 0) : Type 0 where
  pub frame : ℕ
  pub is_frame : 0 < length o.frames → frame < length o.frames
  pub reported : AppendsPrefix before after (report_before o (frame + 1))
  pub earlier : 0 < frame → (more : List ℕ) × Appends before after (report_before o frame ++ more)
  pub size : ℕ
  pub within : size ≤ length (notes_at o frame)
  pub whole : 0 < size → Appends before after (report_before o (frame + 1))
  pub noted_is : noted (notes_before o frame ++ take size (notes_at o frame)) (status_text status)
  pub of_report : status ≡ statuses.ReportFault → size ≡ 0
  pub of_notes : status ≡ statuses.NotesFault → Appends before after (report_before o (frame + 1)) × (size < length (notes_at o frame))

-- the status is the outcome's, which stands whole; or it comes in the outcome's place, and a front of that stands
abbrev pub Leaves : OutcomeOf → Status → SinkSays → SinkSays → (List ℕ → List ℕ → Type 0) → Type 0
Leaves o status before after noted =
    ((status ≡ o.status) × LeavesWhole o before after noted) ⊎ (IsCut status × LeavesFront o status before after noted)

-- this text was noted, and the status's note is to come
pub record AwaitsNote (result : Result (Unit {0}) Failure) (before after : SinkSays) (text note : List ℕ) : Type 0 where
  pub gained : Appends before after text
  pub note_is : note ≡ note_by result
  pub stay : CountsStay before after
