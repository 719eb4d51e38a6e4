-- What is noted of a run that isn't done.
use Rattle.std.specs.Prelude.{ℕ, ◌≤◌, ◌⊎◌, List, [], ◌∷◌, ◌++◌, map, length, take, codes, Result, Ok, Err}
use Rattle.std.specs.Fmt.{decimal}
use Rattle.scene_reader.specs.declared.error.SceneError.{SceneError}
use Rattle.scene_reader.specs.declared.error.SceneError.TheVariants.{Truncated, BadMagic, BadVersion, BadSize, BadNear, BadWinding, BadReserved, BadCount, Trailing, BadVertex, BadIndex, BadKind, BadObject, BadCamera, BadGrade, BadBatch}
use Rattle.scene_reader.specs.declared.error.SceneError.TheVariants as errors
use Rattle.cull_base.specs.Stream.{SinkSays, Rose, Appends, AppendsPrefix}
use Rattle.text_lines.specs.Lines.{line}
use Rattle.frame_reports.specs.declared.failure.Failure.{Failure}
use Rattle.frame_reports.specs.declared.failure.Status.{Status}
use Rattle.frame_reports.specs.declared.failure.Status.TheVariants as statuses
use Rattle.frame_reports.specs.declared.failure.Failure.TheVariants.{Scene, ReadFault, ReportFault, NotesFault, Memory, Log, Frame}

-- a refusal's number, and the numbers that tell where the fault is
abbrev pub refusal_numbers : SceneError → List ℕ
refusal_numbers (Truncated need have) = 1 ∷ need ∷ have ∷ []
refusal_numbers BadMagic = 2 ∷ []
refusal_numbers (BadVersion version) = 3 ∷ version ∷ []
refusal_numbers (BadSize width height) = 4 ∷ width ∷ height ∷ []
refusal_numbers (BadNear near) = 5 ∷ near ∷ []
refusal_numbers (BadWinding winding) = 6 ∷ winding ∷ []
refusal_numbers (BadReserved reserved) = 7 ∷ reserved ∷ []
refusal_numbers (BadCount field value) = 8 ∷ field ∷ value ∷ []
refusal_numbers Trailing = 9 ∷ []
refusal_numbers (BadVertex i) = 10 ∷ i ∷ []
refusal_numbers (BadIndex table i) = 11 ∷ table ∷ i ∷ []
refusal_numbers (BadKind i) = 12 ∷ i ∷ []
refusal_numbers (BadObject i) = 13 ∷ i ∷ []
refusal_numbers (BadCamera i) = 14 ∷ i ∷ []
refusal_numbers (BadGrade grade) = 16 ∷ grade ∷ []
refusal_numbers (BadBatch i) = 17 ∷ i ∷ []
refusal_numbers errors.Read = []
refusal_numbers errors.Memory = []

unfoldable pub refusal_text : SceneError → List ℕ
refusal_text e = line (codes "scene" ∷ codes "refused" ∷ map decimal (refusal_numbers e))

-- the number of a frame that a scene doesn't have, and how many it has
unfoldable pub missing_text : ℕ → ℕ → List ℕ
missing_text frame frames = line (codes "no" ∷ codes "such" ∷ codes "frame" ∷ decimal frame ∷ decimal frames ∷ [])

-- what comes first where the words are refused; behind it stands what is wrong with them
abbrev pub usage_text : List ℕ
usage_text = codes "usage refused" ++ 10 ∷ []

abbrev pub note_text : Failure → List ℕ
note_text (Scene e) = refusal_text e
note_text ReadFault = codes "read fault" ++ 10 ∷ []
note_text ReportFault = codes "report fault" ++ 10 ∷ []
note_text NotesFault = []
note_text Memory = codes "out of memory" ++ 10 ∷ []
note_text Log = []
note_text (Frame frame frames) = missing_text frame frames

-- what is noted of a command's result
abbrev pub note_by : Result (Unit {0}) Failure → List ℕ
note_by (Ok x) = []
note_by (Err f) = note_text f

-- what is noted of a status that needs no numbers
abbrev pub status_text : Status → List ℕ
status_text statuses.Done = []
status_text statuses.Usage = usage_text
status_text statuses.Scene = []
status_text statuses.ReadFault = note_text ReadFault
status_text statuses.ReportFault = note_text ReportFault
status_text statuses.NotesFault = note_text NotesFault
status_text statuses.Memory = note_text Memory
status_text statuses.Log = note_text Log
status_text statuses.Frame = []

-- the text was appended and more behind it, or a beginning of it where one of the sink's counts rose
abbrev pub IsNotedFirst : SinkSays → SinkSays → List ℕ → Type 0
IsNotedFirst before after text =
    ((more : List ℕ) × Appends before after (text ++ more))
    ⊎ (AppendsPrefix before after text × (Rose before.faults after.faults ⊎ Rose before.refusals after.refusals))

-- the first text was appended and the other behind it, or a beginning of the text where one of the sink's counts rose
abbrev pub IsNotedBehind : SinkSays → SinkSays → List ℕ → List ℕ → Type 0
IsNotedBehind before after front text =
    Appends before after (front ++ text)
    ⊎ ((n : ℕ) × (n ≤ length text) × Appends before after (front ++ take n text)
    × (Rose before.faults after.faults ⊎ Rose before.refusals after.refusals))
