-- How a run ends, and the causes of its ends.
use Rattle.std.specs.Prelude.{ℕ, Result, Ok, Err}
use Rattle.scene_reader.specs.declared.error.SceneError.{SceneError}
use Rattle.scene_reader.specs.declared.error.SceneError.TheVariants as errors
use Rattle.cull_base.specs.declared.memory.SinkError.{SinkError}
use Rattle.cull_base.specs.declared.memory.SinkError.TheVariants as sink
use Rattle.live_check.specs.declared.answer.LogError.{LogError}
use Rattle.live_check.specs.declared.answer.LogError.TheVariants as logs
use Rattle.frame_reports.specs.declared.failure.Failure.{Failure}
use Rattle.frame_reports.specs.declared.failure.Failure.TheVariants as failures
use Rattle.frame_reports.specs.declared.failure.Status.{Status}
use Rattle.frame_reports.specs.declared.failure.Status.TheVariants as statuses

-- what becomes of a scene that couldn't be read
abbrev pub failure_of : SceneError → Failure
failure_of errors.Read = failures.ReadFault
failure_of errors.Memory = failures.Memory
failure_of e = failures.Scene e

-- what becomes of a report that couldn't be written
abbrev pub sink_failure : SinkError → Failure
sink_failure sink.Failed = failures.ReportFault
sink_failure sink.Memory = failures.Memory

abbrev pub status_of : Failure → Status
status_of (failures.Scene e) = statuses.Scene
status_of failures.ReadFault = statuses.ReadFault
status_of failures.ReportFault = statuses.ReportFault
status_of failures.NotesFault = statuses.NotesFault
status_of failures.Memory = statuses.Memory
status_of failures.Log = statuses.Log
status_of (failures.Frame frame frames) = statuses.Frame

-- what becomes of a log that couldn't be checked
abbrev pub log_failure : LogError → Failure
log_failure logs.Read = failures.ReadFault
log_failure logs.Memory = failures.Memory

-- the status of a command's result
abbrev pub status_by : Result (Unit {0}) Failure → Status
status_by (Ok x) = statuses.Done
status_by (Err f) = status_of f

-- what becomes of lines that couldn't be noted
abbrev pub notes_failure : SinkError → Failure
notes_failure sink.Failed = failures.NotesFault
notes_failure sink.Memory = failures.Memory

-- the process's exit status
abbrev pub code_of : Status → ℕ
code_of statuses.Done = 0
code_of statuses.Usage = 2
code_of statuses.Scene = 3
code_of statuses.ReadFault = 4
code_of statuses.ReportFault = 5
code_of statuses.NotesFault = 6
code_of statuses.Memory = 7
code_of statuses.Log = 9
code_of statuses.Frame = 10
