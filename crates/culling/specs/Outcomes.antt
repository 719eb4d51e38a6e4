-- What a command comes to: from what its input says to a status, and to what the report and the notes gain.
use Rattle.std.specs.Prelude.{ℕ, ◌≡◌, ◌⊎◌, ◌<◌, ◌≤◌, ◌∷◌, nat_lt, if◌then◌else◌, List, [], length, map, take, drop, codes, Option, Some, None, IfSome}
use Rattle.std.specs.Fmt.{decimal}
use Rattle.std.specs.List.{range_with_len}
use Rattle.cull_base.specs.Stream.{SourceSays}
use Rattle.scene_reader.specs.Layout.{Parts, IsScene, layout, upgraded}
use Rattle.scene_reader.specs.Fault.{IsRefusal, first_fault, word_at}
use Rattle.scene_reader.specs.declared.error.SceneError.{SceneError}
use Rattle.scene_reader.specs.declared.error.SceneError.TheVariants.{Truncated}
use Rattle.cull_report.specs.Hiding.{HidesTruly}
use Rattle.cull_report.specs.Live.{Counts, HidesLive, IsRising, frame_live}
use Rattle.cull_report.specs.Scene.{frame_report, scene_header}
use Rattle.group_query.specs.Text.{frame_groups, group_text}
use Rattle.text_lines.specs.Lines.{line}
use Rattle.live_check.specs.Logs.{IsJudged}
use Rattle.live_check.specs.declared.answer.LogAnswer.{LogAnswer}
use Rattle.live_check.specs.declared.answer.LogAnswer.TheVariants.{Accepted, Refused}
use Rattle.clap.specs.Words.{Text}
use Rattle.command_words.specs.Words.{command_of}
use Rattle.command_words.specs.declared.table.Command.{Command}
use Rattle.command_words.specs.declared.table.BareCommand.TheVariants as bare
use Rattle.command_words.specs.declared.table.Command.TheVariants.{Cull, Live, Demo, Check, Picture, Bare}
use Rattle.demo_scene.specs.Demo.{demo_of}
use Rattle.frame_reports.specs.Notes.{missing_text, refusal_text, status_text}
use Rattle.frame_reports.specs.OutcomeOf.{OutcomeOf, text_alone}
use Rattle.culling.specs.Picture.{ShowsTruly, frame_picture}
use Rattle.culling.specs.Summary.{summary_text}
use Rattle.frame_reports.specs.declared.failure.Status.{Status}
use Rattle.frame_reports.specs.declared.failure.Status.TheVariants as statuses

-- ---- what the commands come to

-- a status with its note, and no text
abbrev pub note_alone : Status → List ℕ → OutcomeOf
note_alone status note = record { status = status; note = note; head = []; frames = []; notes = [] }

-- a scene's report, and notes of its frames
abbrev pub report_and : Parts → List (List ℕ) → OutcomeOf
report_and s notes = record {
  status = statuses.Done;
  note = [];
  head = scene_header s;
  frames = map (frame_report s) (range_with_len 0 (length s.cameras));
  notes = notes;
}

-- the live lines of each frame
abbrev pub live_frames : Parts → ℕ → ℕ → Counts → List (List ℕ)
live_frames s rounds watch counts = map (λ frame. frame_live s rounds watch (counts frame) frame) (range_with_len 0 (length s.cameras))

-- the line of groups of each frame, and all of them; nothing where boxes aren't taken in groups
abbrev pub group_frames : Parts → Option ℕ → List (List ℕ)
group_frames s None = []
group_frames s (Some most) = map (frame_groups s most) (range_with_len 0 (length s.cameras))

abbrev pub group_notes : Parts → Option ℕ → List ℕ
group_notes s None = []
group_notes s (Some most) = group_text s most

-- the picture of a frame; where there is no such frame, no text, and a note that says so
abbrev pub pictured : Parts → ℕ → OutcomeOf
pictured s frame =
    if nat_lt frame (length s.cameras) then text_alone (frame_picture s frame)
    else note_alone statuses.Frame (missing_text frame (length s.cameras))

-- a fact of the bytes that are left in a source, where they are told
abbrev pub IfBytes : SourceSays → (List ℕ → Type 0) → Type 0
IfBytes source P = IfSome source.left P

-- ---- the answer on a log

abbrev pub answer_text : LogAnswer → List ℕ
answer_text Accepted = line (codes "log" ∷ codes "accepted" ∷ [])
answer_text (Refused n) = line (codes "log" ∷ codes "refused" ∷ decimal n ∷ [])

abbrev pub answer_status : LogAnswer → Status
answer_status Accepted = statuses.Done
answer_status (Refused n) = statuses.Log

-- the answer as a line of the report, and nothing noted
abbrev pub answer_alone : LogAnswer → OutcomeOf
answer_alone answer = record { status = answer_status answer; note = []; head = answer_text answer; frames = []; notes = [] }

-- ---- what each command does

-- what is made of a scene, by the counts of looks at it
abbrev pub Making : Type 0
Making = Parts → Counts → OutcomeOf

-- What a command does: the seed and the number of triangles of the scene that it makes, none where it reads one; its rounds of looks, and at how many
-- objects; and the outcome that it makes of the scene, by the counts of those looks. None: it answers whether the log behind the scene tells such looks.
pub record Work : Type 0 where
  pub own : Option (ℕ × ℕ)
  pub rounds : ℕ
  pub watch : ℕ
  pub outcome : Option Making

-- a scene is read, and no object is looked at
abbrev pub reading : (Parts → OutcomeOf) → Work
reading outcome = record { own = None; rounds = 0; watch = 0; outcome = Some (λ s counts. outcome s) }

-- what each command does
abbrev pub work_of : Command → Work
work_of (Cull words) = reading (λ s. report_and s (group_frames s words.group))
work_of (Live words) = record {
  own = None;
  rounds = words.rounds;
  watch = words.watch;
  outcome = Some (λ s counts. report_and s (live_frames s words.rounds words.watch counts));
}
work_of (Demo words) = record {
  own = Some (words.seed, words.triangles);
  rounds = 0;
  watch = 0;
  outcome = Some (λ s counts. text_alone (summary_text words.seed words.triangles));
}
work_of (Check words) = record { own = None; rounds = words.rounds; watch = words.watch; outcome = None }
work_of (Picture words) = reading (λ s. pictured s words.frame)
work_of (Bare bare.Upgrade) = reading (λ s. text_alone (layout (upgraded s)))

-- the command reads a scene
abbrev pub ReadsScene : Command → Type 0
ReadsScene c = (work_of c).own ≡ None

-- ---- the scene bytes of a command

-- All bytes of its input; where a log is behind the scene those behind a number of four bytes, which says how many they are, or all there are.
abbrev pub scene_bytes_by : Option Making → List ℕ → List ℕ
scene_bytes_by (Some outcome) bytes = bytes
scene_bytes_by None bytes = take (word_at 0 bytes) (drop 4 bytes)

-- the bytes behind those of a scene, which are a log
abbrev pub log_bytes : List ℕ → List ℕ
log_bytes bytes = drop (word_at 0 bytes) (drop 4 bytes)

-- the first fault of the scene bytes; or four bytes are needed for their number
abbrev pub input_fault_by : Option Making → List ℕ → Option SceneError
input_fault_by (Some outcome) bytes = first_fault bytes
input_fault_by None bytes =
    if nat_lt (length bytes) 4 then Some (Truncated 4 (length bytes)) else first_fault (scene_bytes_by None bytes)

abbrev pub scene_bytes : Command → List ℕ → List ℕ
scene_bytes c bytes = scene_bytes_by (work_of c).outcome bytes

abbrev pub input_fault : Command → List ℕ → Option SceneError
input_fault c bytes = input_fault_by (work_of c).outcome bytes

-- a command's input has this first fault
abbrev pub HasFault : Command → SourceSays → SceneError → Type 0
HasFault c source e = IfBytes source (λ bytes. input_fault c bytes ≡ Some e)

-- its scene bytes are the layout of the scene s
pub record HasScene (c : Command) (source : SourceSays) (s : Parts) : Type 0 where
  pub scene : IsScene s
  pub spelled : IfBytes source (λ bytes. scene_bytes c bytes ≡ layout s)

-- ---- what each command comes to

-- A command that reads a scene makes this of it; or its scene bytes are refused, with the numbers of their first fault; or the input can't be read.
abbrev pub EndsByScene : Command → SourceSays → OutcomeOf → (Parts → Type 0) → Type 0
EndsByScene c source o made =
    ((s : Parts) × HasScene c source s × made s)
    ⊎ ((e : SceneError) × IsRefusal e × HasFault c source e × (o ≡ note_alone statuses.Scene (refusal_text e)))
    ⊎ (o ≡ note_alone statuses.ReadFault (status_text statuses.ReadFault))

-- the outcome is made of the scene, by counts that rise; or it is an answer that holds of the log
abbrev pub MakesBy : Option Making → ℕ → ℕ → Option (List ℕ) → OutcomeOf → Parts → Type 0
MakesBy (Some outcome) rounds watch left o s = (counts : Counts) × IsRising s rounds watch counts × (o ≡ outcome s counts)
MakesBy None rounds watch left o s =
    (answer : LogAnswer) × IfSome left (λ bytes. IsJudged s rounds watch (log_bytes bytes) answer) × (o ≡ answer_alone answer)

abbrev pub Makes : Work → Option (List ℕ) → OutcomeOf → Parts → Type 0
Makes w left o s = MakesBy w.outcome w.rounds w.watch left o s

-- so of a scene that is read, and so of one that the command makes, which reads nothing
abbrev pub EndsBy : Option (ℕ × ℕ) → Command → SourceSays → OutcomeOf → Type 0
EndsBy None c source o = EndsByScene c source o (Makes (work_of c) source.left o)
EndsBy (Some own) c source o = Makes (work_of c) None o (demo_of own.0 own.1)

-- the command comes to this outcome, from what its input says
abbrev pub Ends : Command → SourceSays → OutcomeOf → Type 0
Ends c source o = EndsBy (work_of c).own c source o

-- the scene that a command is about: the input's, or the one that it makes
abbrev pub IsAbout : Option (ℕ × ℕ) → Command → SourceSays → Parts → Type 0
IsAbout None c source s = HasScene c source s
IsAbout (Some own) c source s = (own.1 ≤ 65536) × (s ≡ demo_of own.0 own.1)

-- What the report of a command's scene calls occluded is hidden, and what a live line does, by the members that it states, whatever the counts are. What a
-- picture of one of its frames shows is drawn.
abbrev pub IsTrue : Command → SourceSays → Type 0
IsTrue c source =
    (s : Parts) → IsAbout (work_of c).own c source s
    → HidesTruly s × ((counts : Counts) → HidesLive s (work_of c).rounds (work_of c).watch counts) × ((frame : ℕ) → frame < length s.cameras → ShowsTruly s frame)

-- ---- what words ask for

-- the words ask for something of which this holds
abbrev pub Asks : List Text → (Command → Type 0) → Type 0
Asks words P = (c : Command) × (command_of words ≡ Some c) × P c

-- a fact of what the words ask for, if they ask for something
abbrev pub IfAsked : List Text → (Command → Type 0) → Type 0
IfAsked words P = IfSome (command_of words) P
