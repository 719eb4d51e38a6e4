-- What a user has of a run, command by command. Each is a law on what `run` says: in src/laws.rt a function promises it.
use Rattle.std.specs.Prelude.{ℕ, ◌≡◌, ◌⊎◌, ◌+◌, ◌<◌, ◌≤◌, ◌++◌, List, [], length, take, Some, None}
use Rattle.std.specs.List.{flat_map, range_with_len}
use Rattle.cull_base.specs.Stream.{Appends, AppendsPrefix, Rose}
use Rattle.scene_reader.specs.Fault.{IsRefusal}
use Rattle.scene_reader.specs.Layout.{Parts, IsScene, layout, upgraded}
use Rattle.scene_reader.specs.declared.error.SceneError.{SceneError}
use Rattle.cull_report.specs.Hiding.{HidesTruly}
use Rattle.cull_report.specs.Live.{Counts, HidesLive, IsRising, frame_live, live_text}
use Rattle.cull_report.specs.Scene.{frames_text, report_text, scene_header}
use Rattle.group_query.specs.Text.{frame_groups}
use Rattle.live_check.specs.Logs.{AreGoodLines, IsAccepted, IsJudged}
use Rattle.live_check.specs.declared.answer.LogAnswer.{LogAnswer}
use Rattle.live_check.specs.declared.answer.LogAnswer.TheVariants.{Accepted, Refused}
use Rattle.command_words.specs.declared.table.Command.{Command}
use Rattle.command_words.specs.declared.table.BareCommand.TheVariants.{Upgrade}
use Rattle.command_words.specs.declared.table.Command.TheVariants.{Cull, Live, Demo, Check, Picture, Bare}
use Rattle.command_words.specs.declared.table.CheckWords.{CheckWords}
use Rattle.command_words.specs.declared.table.CullWords.{CullWords}
use Rattle.command_words.specs.declared.table.DemoWords.{DemoWords}
use Rattle.command_words.specs.declared.table.LiveWords.{LiveWords}
use Rattle.command_words.specs.declared.table.PictureWords.{PictureWords}
use Rattle.frame_reports.specs.Notes.{IsNotedBehind, missing_text, refusal_text, status_text}
use Rattle.culling.specs.Outcomes.{Ends, HasFault, HasScene, IfBytes, ReadsScene, answer_text, group_notes, input_fault, log_bytes, scene_bytes}
use Rattle.frame_reports.specs.OutcomeOf.{OutcomeOf, joined, report_of}
use Rattle.culling.specs.Picture.{ShowsTruly, frame_picture}
use Rattle.frame_reports.specs.Leaves.{IsCut}
use Rattle.culling.specs.Runs.{Comes, Streams}
use Rattle.culling.specs.Summary.{summary_text}
use Rattle.frame_reports.specs.declared.failure.Status.{Status}
use Rattle.frame_reports.specs.declared.failure.Status.TheVariants as statuses

-- what `run` says of a command, by what its streams say before and after
abbrev pub Ran : Command → Status → Streams → Streams → Type 0
Ran c status before after =
    Comes c status before after IsNotedBehind (after.report ≡ before.report) (status ≡ statuses.Done → after.notes ≡ before.notes)

-- no byte is left in the input, where it tells its bytes
abbrev pub IsTaken : Streams → Streams → Type 0
IsTaken before after = IfBytes before.input (λ bytes. after.input.left ≡ Some [])

-- ---- done: all stands

-- the report of the scene, whose verdicts are true, and of groups the line of each frame; without groups the notes stay
abbrev pub CullIsWhole : Type 0
CullIsWhole = (words : CullWords) (before after : Streams) → Ran (Cull words) statuses.Done before after
    → (s : Parts) × HasScene (Cull words) before.input s × IsTaken before after × Appends before.report after.report (report_text s) × HidesTruly s
    × Appends before.notes after.notes (group_notes s words.group) × (words.group ≡ None → after.notes ≡ before.notes)

-- the same report, and a live text that is true, by counts that rise
abbrev pub LiveIsWhole : Type 0
LiveIsWhole = (words : LiveWords) (before after : Streams) → Ran (Live words) statuses.Done before after
    → (s : Parts) × HasScene (Live words) before.input s × IsTaken before after × Appends before.report after.report (report_text s) × HidesTruly s
    × ((counts : Counts) × IsRising s words.rounds words.watch counts × Appends before.notes after.notes (live_text s words.rounds words.watch counts) × HidesLive s words.rounds words.watch counts)

-- the other commands note nothing
abbrev pub DemoIsWhole : Type 0
DemoIsWhole = (words : DemoWords) (before after : Streams) → Ran (Demo words) statuses.Done before after
    → Appends before.report after.report (summary_text words.seed words.triangles) × (after.notes ≡ before.notes)

abbrev pub UpgradeIsWhole : Type 0
UpgradeIsWhole = (before after : Streams) → Ran (Bare Upgrade) statuses.Done before after
    → (s : Parts) × HasScene (Bare Upgrade) before.input s × IsTaken before after × Appends before.report after.report (layout (upgraded s)) × (after.notes ≡ before.notes)

-- the picture of a frame that is there, and what it shows is drawn
abbrev pub PictureIsWhole : Type 0
PictureIsWhole = (words : PictureWords) (before after : Streams) → Ran (Picture words) statuses.Done before after
    → (s : Parts) × HasScene (Picture words) before.input s × IsTaken before after × (words.frame < length s.cameras)
    × Appends before.report after.report (frame_picture s words.frame) × ShowsTruly s words.frame × (after.notes ≡ before.notes)

-- the log is accepted
abbrev pub CheckAccepts : Type 0
CheckAccepts = (words : CheckWords) (before after : Streams) → Ran (Check words) statuses.Done before after
    → (s : Parts) × HasScene (Check words) before.input s × IfBytes before.input (λ bytes. IsAccepted s words.rounds words.watch (log_bytes bytes)) × IsTaken before after
    × Appends before.report after.report (answer_text Accepted) × (after.notes ≡ before.notes)

-- the status Log is of `check` alone: the log isn't accepted, its good lines are told, and nothing is noted
abbrev pub CheckRefuses : Type 0
CheckRefuses = (c : Command) (before after : Streams) → Ran c statuses.Log before after
    → (words : CheckWords) × (c ≡ Check words)
    × ((s : Parts) × HasScene (Check words) before.input s
    × ((n : ℕ) × IfBytes before.input (λ bytes. (IsAccepted s words.rounds words.watch (log_bytes bytes) → ⊥) × AreGoodLines s words.rounds words.watch (log_bytes bytes) n)
    × Appends before.report after.report (answer_text (Refused n)) × Appends before.notes after.notes []))

-- ---- what an input can end as

-- a status with its note alone: the report stays
pub record LeavesNote (told : Status) (note : List ℕ) (status : Status) (before after : Streams) : Type 0 where
  pub is_told : status ≡ told
  pub report : after.report ≡ before.report
  pub noted : IsNotedBehind before.notes after.notes [] note

-- so where the input couldn't be read, and so where memory ran out
abbrev pub LeavesUnread : Status → Streams → Streams → Type 0
LeavesUnread status before after = LeavesNote statuses.ReadFault (status_text statuses.ReadFault) status before after

abbrev pub LeavesMemory : Status → Streams → Streams → Type 0
LeavesMemory status before after = LeavesNote statuses.Memory (status_text statuses.Memory) status before after

-- one with a first fault as Scene, with the numbers of that fault, ReadFault or Memory
abbrev pub FaultsAreTold : Type 0
FaultsAreTold =
    (c : Command) (status : Status) (before after : Streams) (bytes : List ℕ) (e : SceneError) → ReadsScene c → before.input.left ≡ Some bytes → input_fault c bytes ≡ Some e
    → Ran c status before after
    → (IsRefusal e × LeavesNote statuses.Scene (refusal_text e) status before after)
    ⊎ (Rose before.input.faults after.input.faults × LeavesUnread status before after)
    ⊎ LeavesMemory status before after

-- and no other ends as Scene
abbrev pub SceneIsRefused : Type 0
SceneIsRefused = (c : Command) (before after : Streams) → Ran c statuses.Scene before after
    → ReadsScene c × ((e : SceneError) × IsRefusal e × HasFault c before.input e × LeavesNote statuses.Scene (refusal_text e) statuses.Scene before after)

-- a read fault has its cause
abbrev pub ReadFaultsRose : Type 0
ReadFaultsRose = (c : Command) (before after : Streams) → Ran c statuses.ReadFault before after
    → ReadsScene c × Rose before.input.faults after.input.faults × LeavesUnread statuses.ReadFault before after

-- the input is the layout of a scene
pub record IsSpelled (source : Streams) (s : Parts) : Type 0 where
  pub scene : IsScene s
  pub left : source.input.left ≡ Some (layout s)

-- all is written, or memory ran out
abbrev pub IsDone : Status → Type 0
IsDone status = (status ≡ statuses.Done) ⊎ (status ≡ statuses.Memory)

-- where no count rose of a stream that the command asks: of the notes only where group lines are noted
abbrev pub CullIsComplete : Type 0
CullIsComplete = (words : CullWords) (status : Status) (before after : Streams) (s : Parts) → IsSpelled before s
    → (Rose before.input.faults after.input.faults → ⊥) → (Rose before.report.faults after.report.faults → ⊥)
    → ((n : ℕ) → words.group ≡ Some n → Rose before.notes.faults after.notes.faults → ⊥) → Ran (Cull words) status before after → IsDone status

abbrev pub LiveIsComplete : Type 0
LiveIsComplete = (words : LiveWords) (status : Status) (before after : Streams) (s : Parts) → IsSpelled before s
    → (Rose before.input.faults after.input.faults → ⊥) → (Rose before.report.faults after.report.faults → ⊥)
    → (Rose before.notes.faults after.notes.faults → ⊥) → Ran (Live words) status before after → IsDone status

abbrev pub DemoIsComplete : Type 0
DemoIsComplete = (words : DemoWords) (status : Status) (before after : Streams)
    → (Rose before.report.faults after.report.faults → ⊥) → Ran (Demo words) status before after → IsDone status

abbrev pub UpgradeIsComplete : Type 0
UpgradeIsComplete = (status : Status) (before after : Streams) (s : Parts) → IsSpelled before s
    → (Rose before.input.faults after.input.faults → ⊥) → (Rose before.report.faults after.report.faults → ⊥) → Ran (Bare Upgrade) status before after → IsDone status

-- where the frame is there
abbrev pub PictureIsComplete : Type 0
PictureIsComplete = (words : PictureWords) (status : Status) (before after : Streams) (s : Parts) → IsSpelled before s → words.frame < length s.cameras
    → (Rose before.input.faults after.input.faults → ⊥) → (Rose before.report.faults after.report.faults → ⊥) → Ran (Picture words) status before after → IsDone status

-- the input is a scene with a log behind it
pub record IsLogged (c : Command) (source : Streams) (s : Parts) (bytes : List ℕ) : Type 0 where
  pub scene : IsScene s
  pub left : source.input.left ≡ Some bytes
  pub spelled : scene_bytes c bytes ≡ layout s

-- by the log: Done where it is accepted, and Log where it isn't
abbrev pub CheckIsComplete : Type 0
CheckIsComplete = (words : CheckWords) (status : Status) (before after : Streams) (s : Parts) (bytes : List ℕ) → IsLogged (Check words) before s bytes
    → (Rose before.input.faults after.input.faults → ⊥) → (Rose before.report.faults after.report.faults → ⊥) → Ran (Check words) status before after
    → ((status ≡ statuses.Done) × IsAccepted s words.rounds words.watch (log_bytes bytes))
    ⊎ ((status ≡ statuses.Log) × (IsAccepted s words.rounds words.watch (log_bytes bytes) → ⊥))
    ⊎ (status ≡ statuses.Memory)

-- a scene without the frame ends as Frame, which is noted with how many there are, or memory ran out
abbrev pub PictureIsMissing : Type 0
PictureIsMissing = (words : PictureWords) (status : Status) (before after : Streams) (s : Parts) → IsSpelled before s → length s.cameras ≤ words.frame
    → (Rose before.input.faults after.input.faults → ⊥) → Ran (Picture words) status before after
    → LeavesNote statuses.Frame (missing_text words.frame (length s.cameras)) status before after ⊎ LeavesMemory status before after

-- and nothing else does
abbrev pub FrameIsMissing : Type 0
FrameIsMissing = (c : Command) (before after : Streams) → Ran c statuses.Frame before after
    → (words : PictureWords) × (c ≡ Picture words)
    × ((s : Parts) × HasScene (Picture words) before.input s × (length s.cameras ≤ words.frame)
    × LeavesNote statuses.Frame (missing_text words.frame (length s.cameras)) statuses.Frame before after)

-- ---- cut short: a sink failed or memory ran out

-- a beginning of a report stands, and of some notes a beginning with the status's note behind it
pub record LeavesFronts (status : Status) (before after : Streams) (report notes : List ℕ) : Type 0 where
  pub reported : AppendsPrefix before.report after.report report
  pub size : ℕ
  pub within : size ≤ length notes
  pub noted : IsNotedBehind before.notes after.notes (take size notes) (status_text status)

-- so it is of what any command comes to
abbrev pub CutsLeaveFronts : Type 0
CutsLeaveFronts = (c : Command) (status : Status) (before after : Streams) → IsCut status → Ran c status before after
    → (o : OutcomeOf) × Ends c before.input o × LeavesFronts status before after (report_of o) (joined o.notes)

-- Of a scene's report, whose verdicts are true, and of the lines of its groups; or memory ran out where the input isn't known as a scene.
abbrev pub CullIsCut : Type 0
CullIsCut = (words : CullWords) (status : Status) (before after : Streams) → IsCut status → Ran (Cull words) status before after
    → ((s : Parts) × HasScene (Cull words) before.input s × HidesTruly s × LeavesFronts status before after (report_text s) (group_notes s words.group))
    ⊎ LeavesMemory status before after

-- of the same report and of a live text that is true, by counts that rise
abbrev pub LiveIsCut : Type 0
LiveIsCut = (words : LiveWords) (status : Status) (before after : Streams) → IsCut status → Ran (Live words) status before after
    → ((s : Parts) × HasScene (Live words) before.input s × HidesTruly s
    × ((counts : Counts) × IsRising s words.rounds words.watch counts × HidesLive s words.rounds words.watch counts
    × LeavesFronts status before after (report_text s) (live_text s words.rounds words.watch counts)))
    ⊎ LeavesMemory status before after

abbrev pub DemoIsCut : Type 0
DemoIsCut = (words : DemoWords) (status : Status) (before after : Streams) → IsCut status → Ran (Demo words) status before after
    → LeavesFronts status before after (summary_text words.seed words.triangles) []

-- of an upgraded scene
abbrev pub UpgradeIsCut : Type 0
UpgradeIsCut = (status : Status) (before after : Streams) → IsCut status → Ran (Bare Upgrade) status before after
    → ((s : Parts) × HasScene (Bare Upgrade) before.input s × LeavesFronts status before after (layout (upgraded s)) []) ⊎ LeavesMemory status before after

-- of a picture, which shows what is drawn
abbrev pub PictureIsCut : Type 0
PictureIsCut = (words : PictureWords) (status : Status) (before after : Streams) → IsCut status → Ran (Picture words) status before after
    → ((s : Parts) × HasScene (Picture words) before.input s × (words.frame < length s.cameras) × ShowsTruly s words.frame
    × LeavesFronts status before after (frame_picture s words.frame) [])
    ⊎ LeavesMemory status before after

-- of an answer that holds of the log
abbrev pub CheckIsCut : Type 0
CheckIsCut = (words : CheckWords) (status : Status) (before after : Streams) → IsCut status → Ran (Check words) status before after
    → ((s : Parts) × HasScene (Check words) before.input s
    × ((answer : LogAnswer) × IfBytes before.input (λ bytes. IsJudged s words.rounds words.watch (log_bytes bytes) answer)
    × LeavesFronts status before after (answer_text answer) []))
    ⊎ LeavesMemory status before after

-- a report fault has its cause: there is text for the report, and its count of faults rose
abbrev pub ReportFaultsRose : Type 0
ReportFaultsRose = (c : Command) (before after : Streams) → Ran c statuses.ReportFault before after
    → (o : OutcomeOf) × Ends c before.input o × (report_of o ≡ [] → ⊥) × Rose before.report.faults after.report.faults
    × LeavesFronts statuses.ReportFault before after (report_of o) (joined o.notes)

-- and so has one of the notes: a command notes lines, `live` or `cull` of groups
abbrev pub NotesFaultsRose : Type 0
NotesFaultsRose = (c : Command) (before after : Streams) → Ran c statuses.NotesFault before after
    → (o : OutcomeOf) × Ends c before.input o × (o.notes ≡ [] → ⊥) × Rose before.notes.faults after.notes.faults
    × LeavesFronts statuses.NotesFault before after (report_of o) (joined o.notes)

-- The notes failed at a frame's lines. The report is the header and the frames up to this one, whole; the notes have all lines of those before it, and of its
-- own a beginning that isn't the whole.
pub record StopsAtNotes (s : Parts) (lines : ℕ → List ℕ) (before after : Streams) : Type 0 where
  pub frame : ℕ
  pub below : frame < length s.cameras
  pub reported : Appends before.report after.report (scene_header s ++ frames_text s (frame + 1))
  pub size : ℕ
  pub less : size < length (lines frame)
  pub noted : Appends before.notes after.notes (flat_map lines (range_with_len 0 frame) ++ take size (lines frame))
  pub rose : Rose before.notes.faults after.notes.faults

abbrev pub LiveStopsAtNotes : Type 0
LiveStopsAtNotes = (words : LiveWords) (before after : Streams) → Ran (Live words) statuses.NotesFault before after
    → (s : Parts) × HasScene (Live words) before.input s × HidesTruly s
    × ((counts : Counts) × IsRising s words.rounds words.watch counts × HidesLive s words.rounds words.watch counts
    × StopsAtNotes s (λ frame. frame_live s words.rounds words.watch (counts frame) frame) before after)

abbrev pub GroupsStopAtNotes : Type 0
GroupsStopAtNotes = (words : CullWords) (before after : Streams) → Ran (Cull words) statuses.NotesFault before after
    → (s : Parts) × HasScene (Cull words) before.input s × HidesTruly s × ((most : ℕ) × (words.group ≡ Some most) × StopsAtNotes s (frame_groups s most) before after)
