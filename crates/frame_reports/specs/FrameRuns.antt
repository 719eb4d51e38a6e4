-- What frames leave on the report and on the notes.
use Rattle.std.specs.Prelude.{ℕ, ◌≡◌, ◌⊎◌, ◌≤◌, List, [], map, Result, IfErr}
use Rattle.std.specs.List.{range_with_len}
use Rattle.cull_base.specs.Stream.{SinkSays, Rose}
use Rattle.scene_reader.specs.Layout.{Parts}
use Rattle.cull_report.specs.Live.{Counts}
use Rattle.frame_reports.specs.Frames.{IsRisingBeside, lines_of, noted_of}
use Rattle.frame_reports.specs.Failures.{status_by}
use Rattle.frame_reports.specs.OutcomeOf.{OutcomeOf, report_of}
use Rattle.frame_reports.specs.Leaves.{AwaitsNote, Leaves}
use Rattle.frame_reports.specs.declared.failure.Failure.{Failure}
use Rattle.frame_reports.specs.declared.failure.Failure.TheVariants.{ReportFault, NotesFault, Memory}
use Rattle.frame_reports.specs.declared.failure.Status.TheVariants as statuses
use Rattle.frame_reports.specs.declared.frames.Beside.{Beside}
use Rattle.frame_reports.specs.declared.frames.FrameLines.{FrameLines}

-- a report and notes of frames
abbrev pub texts_told : List ℕ → List (List ℕ) → List (List ℕ) → OutcomeOf
texts_told head frames notes = record { status = statuses.Done; note = []; head = head; frames = frames; notes = notes }

-- so many frames from a first on: their lines, and what is noted of each
abbrev pub frames_told : List ℕ → FrameLines → Beside → Parts → Counts → ℕ → ℕ → OutcomeOf
frames_told head lines beside s counts first count =
    texts_told head (map (lines_of lines s) (range_with_len first count)) (map (λ frame. noted_of beside s (counts frame) frame) (range_with_len first count))

-- memory ran out, or the count of faults of the sink that couldn't be written rose: of the report only where there is text for it
abbrev pub IsFrameFailure : OutcomeOf → Failure → SinkSays → SinkSays → SinkSays → SinkSays → Type 0
IsFrameFailure o f report_before report_after before after =
    (f ≡ Memory)
    ⊎ ((f ≡ ReportFault) × (report_of o ≡ [] → ⊥) × Rose report_before.faults report_after.faults)
    ⊎ ((f ≡ NotesFault) × Rose before.faults after.faults)

-- a call left this of texts, and a failure has its cause
pub record LeavesTexts (o : OutcomeOf) (result : Result (Unit {0}) Failure) (report_before report_after before after : SinkSays) : Type 0 where
  pub leaves : Leaves o (status_by result) report_before report_after (AwaitsNote result before after)
  pub cause : IfErr result (λ f. IsFrameFailure o f report_before report_after before after)
  pub report_stays : report_before.faults ≤ report_after.faults

-- It left this of so many frames from a first on, with a head before them. Where looks are noted the counts of each frame rise.
pub record LeavesFrames (head : List ℕ) (lines : FrameLines) (beside : Beside) (s : Parts) (first count : ℕ) (result : Result (Unit {0}) Failure) (report_before report_after before after : SinkSays) : Type 0 where
  pub counts : Counts
  pub rising : (frame : ℕ) → IsRisingBeside beside s frame (counts frame)
  pub texts : LeavesTexts (frames_told head lines beside s counts first count) result report_before report_after before after
