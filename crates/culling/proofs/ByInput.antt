-- How a run ends by its input: each lemma has a promise by its short name.
use Rattle.std.proofs.Common.{◌≡◌, ◌⊎◌, ℕ, ◌<◌, ◌≤◌, nat_lt, List, [], length, drop, Option, Some, None, arith, refl, sym, ap, ◌∙◌, subst, inl, inr}
use Rattle.std.specs.Prelude.{IfSome}
use Rattle.std.proofs.lemmas.Bool.{cases_lt, cond-false, le-ltb}
use Rattle.std.proofs.lemmas.List.{length-drop, length-take}
use Rattle.cull_base.specs.Stream.{SourceSays, Appends, Rose}
use Rattle.scene_reader.specs.Layout.{Parts, IsScene, layout}
use Rattle.scene_reader.specs.Fault.{IsRefusal, first_fault, word_at}
use Rattle.scene_reader.specs.declared.error.SceneError.{SceneError}
use Rattle.scene_reader.specs.declared.error.SceneError.TheVariants.{Truncated}
use Rattle.scene_reader.proofs.LayoutFirst.{scene_first}
use Rattle.scene_reader.proofs.OnlyScene.{layout_one}
use Rattle.live_check.specs.Logs.{AreGoodLines, IsAccepted, IsJudged}
use Rattle.live_check.specs.declared.answer.LogAnswer.{LogAnswer}
use Rattle.live_check.specs.declared.answer.LogAnswer.TheVariants.{Accepted, Refused}
use Rattle.command_words.specs.declared.table.Command.{Command}
use Rattle.command_words.specs.declared.table.BareCommand.TheVariants.{Upgrade}
use Rattle.command_words.specs.declared.table.Command.TheVariants.{Cull, Live, Demo, Check, Picture, Bare}
use Rattle.command_words.specs.declared.table.CheckWords.{CheckWords}
use Rattle.command_words.specs.declared.table.CullWords.{CullWords}
use Rattle.command_words.specs.declared.table.DemoWords.{DemoWords}
use Rattle.command_words.specs.declared.table.LiveWords.{LiveWords}
use Rattle.command_words.specs.declared.table.PictureWords.{PictureWords}
use Rattle.frame_reports.specs.Notes.{IsNotedBehind, missing_text, refusal_text, status_text}
use Rattle.culling.specs.Outcomes.{Ends, EndsBy, EndsByScene, HasFault, HasScene, IfBytes, Makes, Making, ReadsScene, answer_status, answer_text, group_frames, input_fault, input_fault_by, log_bytes, note_alone, scene_bytes, scene_bytes_by, work_of}
use Rattle.frame_reports.specs.OutcomeOf.{OutcomeOf, joined, report_of}
use Rattle.culling.specs.Promises.{IsDone, LeavesMemory, LeavesNote, LeavesUnread, Ran}
use Rattle.frame_reports.specs.Leaves.{IsCut}
use Rattle.culling.specs.Runs.{Streams}
use Rattle.frame_reports.specs.declared.failure.Status.{Status}
use Rattle.frame_reports.specs.declared.failure.Status.TheVariants as statuses
use Rattle.culling.proofs.Comings.{layout_some, pictured_missing, pictured_there}
use Rattle.culling.proofs.Corollaries.{log_check}
use Rattle.culling.proofs.Stopped.{log_uncut, missing_uncut, note_left, scene_uncut, unread_uncut}

-- ---- what a run leaves of an outcome

-- it has the outcome's status, where that isn't one of a cut
stands : (c : Command) (status : Status) (before after : Streams) (h : Ran c status before after) → (IsCut status → ⊥) → status ≡ h.outcome.status
stands c status before after h uncut = elim h.leaves [ inl whole ↦ whole.0 | inr front ↦ absurd (uncut front.0) ]

-- the outcome's status, where no sink failed for which it has text, or memory ran out
kept : (c : Command) (status : Status) (before after : Streams) (h : Ran c status before after) → ((report_of h.outcome ≡ [] → ⊥) × Rose before.report.faults after.report.faults → ⊥)
    → ((h.outcome.notes ≡ [] → ⊥) × Rose before.notes.faults after.notes.faults → ⊥) → (status ≡ h.outcome.status) ⊎ (status ≡ statuses.Memory)
kept c status before after h no_report no_notes = elim h.leaves [
  | inl whole ↦ inl whole.0
  | inr front ↦ elim front.0 [
    | inl report ↦ absurd (no_report (h.causes.report report))
    | inr rest ↦ elim rest [ inl notes ↦ absurd (no_notes (h.causes.notes notes)) | inr memory ↦ inr memory ]
  ]
]

-- a status with its note stands, or memory ran out
alone : (c : Command) (status : Status) (before after : Streams) (h : Ran c status before after) (told : Status) (note : List ℕ) → h.outcome ≡ note_alone told note
    → LeavesNote told note status before after ⊎ LeavesMemory status before after
alone c status before after h told note is = elim h.leaves [
  | inl whole ↦ inl (record {
    is_told = whole.0 ∙ ap (λ (o : OutcomeOf). o.status) is;
    report = h.untouched (ap report_of is);
    noted = subst (λ (o : OutcomeOf). IsNotedBehind before.notes after.notes (joined o.notes) o.note) is whole.1.noted_is;
  })
  | inr front ↦ inr (note_left c status before after h front.0 (ap report_of is) (ap (λ (o : OutcomeOf). o.notes) is))
]

-- ---- an input with a first fault

-- a scene's bytes have none
scene_none : (outcome : Option Making) (s : Parts) (bytes : List ℕ) → IsScene s → scene_bytes_by outcome bytes ≡ layout s → input_fault_by outcome bytes ≡ None
scene_none (Some outcome) s bytes scene is = ap first_fault is ∙ scene_first s scene
scene_none None s bytes scene is =
    let long : 4 ≤ length bytes = omega (arith, ap length is, layout_some s, length-take (word_at 0 bytes) (drop 4 bytes), length-drop 4 bytes) in
    cond-false (nat_lt (length bytes) 4) (Some (Truncated 4 (length bytes))) (first_fault (scene_bytes_by None bytes)) (le-ltb (length bytes) 4 long) ∙ ap first_fault is ∙ scene_first s scene

never_both : (c : Command) (s : Parts) (bytes : List ℕ) (e : SceneError) → IsScene s → scene_bytes c bytes ≡ layout s → input_fault c bytes ≡ Some e → ⊥
never_both c s bytes e scene spelled fault =
    let none : Some e ≡ None = sym fault ∙ scene_none (work_of c).outcome s bytes scene spelled in
    absurd cc

-- a source that tells its bytes has no other first fault
fault_of : (c : Command) (source : SourceSays) (bytes : List ℕ) (e : SceneError) → source.left ≡ Some bytes → HasFault c source e → input_fault c bytes ≡ Some e
fault_of c source bytes e left fault = subst (λ (l : Option (List ℕ)). IfSome l (λ b. input_fault c b ≡ Some e)) left fault

-- and no other scene
spelled_of : (c : Command) (source : SourceSays) (bytes : List ℕ) (s : Parts) → source.left ≡ Some bytes → HasScene c source s → scene_bytes c bytes ≡ layout s
spelled_of c source bytes s left has = subst (λ (l : Option (List ℕ)). IfSome l (λ b. scene_bytes c b ≡ layout s)) left has.spelled

same_error : (e f : SceneError) → Some e ≡ Some f → e ≡ f
same_error e f is = ap told is
  where
    told : Option SceneError → SceneError
    told None = e
    told (Some x) = x

-- what the command comes to is refused with that fault, or unread
by_fault : (c : Command) (source : SourceSays) (o : OutcomeOf) (made : Parts → Type 0) (bytes : List ℕ) (e : SceneError) → source.left ≡ Some bytes → input_fault c bytes ≡ Some e → EndsByScene c source o made
    → (IsRefusal e × (o ≡ note_alone statuses.Scene (refusal_text e))) ⊎ (o ≡ note_alone statuses.ReadFault (status_text statuses.ReadFault))
by_fault c source o made bytes e left fault ends = elim ends [
  | inl scene ↦ let (s, has, is) = scene in absurd (never_both c s bytes e has.scene (spelled_of c source bytes s left has) fault)
  | inr rest ↦ elim rest [
    | inl refused ↦
        let (f, refusal, first, same) = refused in
        let one : f ≡ e = same_error f e (sym (fault_of c source bytes f left first) ∙ fault) in
        inl (subst IsRefusal one refusal, same ∙ ap (λ (x : SceneError). note_alone statuses.Scene (refusal_text x)) one)
    | inr unread ↦ inr unread
  ]
]

-- the outcome of a command that reads a scene
read_ends : (c : Command) (source : SourceSays) (o : OutcomeOf) → ReadsScene c → Ends c source o → EndsByScene c source o (Makes (work_of c) source.left o)
read_ends c source o reads ends = subst (λ (own : Option (ℕ × ℕ)). EndsBy own c source o) reads ends

pub refused : (c : Command) (status : Status) (before after : Streams) (bytes : List ℕ) (e : SceneError) → ReadsScene c → before.input.left ≡ Some bytes → input_fault c bytes ≡ Some e
    → Ran c status before after
    → (IsRefusal e × LeavesNote statuses.Scene (refusal_text e) status before after)
    ⊎ (Rose before.input.faults after.input.faults × LeavesUnread status before after)
    ⊎ LeavesMemory status before after
refused c status before after bytes e reads left fault h =
    elim (by_fault c before.input h.outcome (Makes (work_of c) before.input.left h.outcome) bytes e left fault (read_ends c before.input h.outcome reads h.ends)) [
      | inl told ↦ elim (alone c status before after h statuses.Scene (refusal_text e) told.1) [ inl note ↦ inl (told.0, note) | inr memory ↦ inr (inr memory) ]
      | inr unread ↦ elim (alone c status before after h statuses.ReadFault (status_text statuses.ReadFault) unread) [
        | inl note ↦ inr (inl (h.causes.read note.is_told, note))
        | inr memory ↦ inr (inr memory)
      ]
    ]

-- ---- a scene, and no fault of a stream that the command asks

-- the outcome is made of that scene, or the input is unread
by_scene : (c : Command) (source : SourceSays) (o : OutcomeOf) (made : Parts → Type 0) (s : Parts) (bytes : List ℕ) → source.left ≡ Some bytes → scene_bytes c bytes ≡ layout s → IsScene s
    → EndsByScene c source o made → made s ⊎ (o ≡ note_alone statuses.ReadFault (status_text statuses.ReadFault))
by_scene c source o made s bytes left spelled scene ends = elim ends [
  | inl found ↦
      let (t, has, makes) = found in
      let same : t ≡ s = layout_one t s has.scene scene (sym (spelled_of c source bytes t left has) ∙ spelled) in
      inl (subst made same makes)
  | inr rest ↦ elim rest [
    | inl bad ↦ let (e, refusal, fault, same) = bad in absurd (never_both c s bytes e scene spelled (fault_of c source bytes e left fault))
    | inr unread ↦ inr unread
  ]
]

made_or_memory : (c : Command) (status : Status) (before after : Streams) (h : Ran c status before after) (s : Parts) (bytes : List ℕ)
    → ReadsScene c → before.input.left ≡ Some bytes → scene_bytes c bytes ≡ layout s → IsScene s → (Rose before.input.faults after.input.faults → ⊥)
    → (Makes (work_of c) before.input.left h.outcome s → (report_of h.outcome ≡ [] → ⊥) × Rose before.report.faults after.report.faults → ⊥)
    → (Makes (work_of c) before.input.left h.outcome s → (h.outcome.notes ≡ [] → ⊥) × Rose before.notes.faults after.notes.faults → ⊥)
    → ((status ≡ h.outcome.status) × Makes (work_of c) before.input.left h.outcome s) ⊎ (status ≡ statuses.Memory)
made_or_memory c status before after h s bytes reads left spelled scene no_read no_report no_notes =
    elim (by_scene c before.input h.outcome (Makes (work_of c) before.input.left h.outcome) s bytes left spelled scene (read_ends c before.input h.outcome reads h.ends)) [
      | inl makes ↦ elim (kept c status before after h (no_report makes) (no_notes makes)) [ inl is ↦ inl (is, makes) | inr memory ↦ inr memory ]
      | inr unread ↦ elim (alone c status before after h statuses.ReadFault (status_text statuses.ReadFault) unread) [
        | inl note ↦ absurd (no_read (h.causes.read note.is_told))
        | inr memory ↦ inr memory.is_told
      ]
    ]

pub complete_cull : (words : CullWords) (status : Status) (before after : Streams) (s : Parts) → before.input.left ≡ Some (layout s) → IsScene s
    → (Rose before.input.faults after.input.faults → ⊥) → (Rose before.report.faults after.report.faults → ⊥) → ((n : ℕ) → words.group ≡ Some n → Rose before.notes.faults after.notes.faults → ⊥)
    → Ran (Cull words) status before after → IsDone status
complete_cull words status before after s left scene no_read no_report no_notes h =
    elim (made_or_memory (Cull words) status before after h s (layout s) refl left refl scene no_read (λ makes fault. no_report fault.1)
    (λ makes. not_noted words.group (ap (λ (o : OutcomeOf). o.notes) makes.2) no_notes)) [
      | inl made ↦ let (is, makes) = made in inl (is ∙ ap (λ (o : OutcomeOf). o.status) makes.2)
      | inr memory ↦ inr memory
    ]
  where
    not_noted : (group : Option ℕ) → h.outcome.notes ≡ group_frames s group → ((n : ℕ) → group ≡ Some n → Rose before.notes.faults after.notes.faults → ⊥)
        → (h.outcome.notes ≡ [] → ⊥) × Rose before.notes.faults after.notes.faults → ⊥
    not_noted None is never fault = fault.0 is
    not_noted (Some n) is never fault = never n refl fault.1

pub complete_live : (words : LiveWords) (status : Status) (before after : Streams) (s : Parts) → before.input.left ≡ Some (layout s) → IsScene s
    → (Rose before.input.faults after.input.faults → ⊥) → (Rose before.report.faults after.report.faults → ⊥) → (Rose before.notes.faults after.notes.faults → ⊥)
    → Ran (Live words) status before after → IsDone status
complete_live words status before after s left scene no_read no_report no_notes h =
    elim (made_or_memory (Live words) status before after h s (layout s) refl left refl scene no_read (λ makes fault. no_report fault.1) (λ makes fault. no_notes fault.1)) [
      | inl made ↦ let (is, makes) = made in inl (is ∙ ap (λ (o : OutcomeOf). o.status) makes.2)
      | inr memory ↦ inr memory
    ]

pub complete_demo : (words : DemoWords) (status : Status) (before after : Streams) → (Rose before.report.faults after.report.faults → ⊥) → Ran (Demo words) status before after → IsDone status
complete_demo words status before after no_report h =
    let (counts, rising, is) = h.ends in
    elim (kept (Demo words) status before after h (λ fault. no_report fault.1) (λ fault. fault.0 (ap (λ (o : OutcomeOf). o.notes) is))) [
      | inl same ↦ inl (same ∙ ap (λ (o : OutcomeOf). o.status) is)
      | inr memory ↦ inr memory
    ]

pub complete_upgrade : (status : Status) (before after : Streams) (s : Parts) → before.input.left ≡ Some (layout s) → IsScene s
    → (Rose before.input.faults after.input.faults → ⊥) → (Rose before.report.faults after.report.faults → ⊥) → Ran (Bare Upgrade) status before after → IsDone status
complete_upgrade status before after s left scene no_read no_report h =
    elim (made_or_memory (Bare Upgrade) status before after h s (layout s) refl left refl scene no_read (λ makes fault. no_report fault.1)
    (λ makes fault. fault.0 (ap (λ (o : OutcomeOf). o.notes) makes.2))) [
      | inl made ↦ let (is, makes) = made in inl (is ∙ ap (λ (o : OutcomeOf). o.status) makes.2)
      | inr memory ↦ inr memory
    ]

pub complete_picture : (words : PictureWords) (status : Status) (before after : Streams) (s : Parts) → before.input.left ≡ Some (layout s) → IsScene s → words.frame < length s.cameras
    → (Rose before.input.faults after.input.faults → ⊥) → (Rose before.report.faults after.report.faults → ⊥) → Ran (Picture words) status before after → IsDone status
complete_picture words status before after s left scene lt no_read no_report h =
    let there = pictured_there s words.frame lt in
    elim (made_or_memory (Picture words) status before after h s (layout s) refl left refl scene no_read (λ makes fault. no_report fault.1)
    (λ makes fault. fault.0 (ap (λ (o : OutcomeOf). o.notes) (makes.2 ∙ there)))) [
      | inl made ↦ let (is, makes) = made in inl (is ∙ ap (λ (o : OutcomeOf). o.status) (makes.2 ∙ there))
      | inr memory ↦ inr memory
    ]

pub complete_check : (words : CheckWords) (status : Status) (before after : Streams) (s : Parts) (bytes : List ℕ) → before.input.left ≡ Some bytes → scene_bytes (Check words) bytes ≡ layout s → IsScene s
    → (Rose before.input.faults after.input.faults → ⊥) → (Rose before.report.faults after.report.faults → ⊥) → Ran (Check words) status before after
    → ((status ≡ statuses.Done) × IsAccepted s words.rounds words.watch (log_bytes bytes))
    ⊎ ((status ≡ statuses.Log) × (IsAccepted s words.rounds words.watch (log_bytes bytes) → ⊥))
    ⊎ (status ≡ statuses.Memory)
complete_check words status before after s bytes left spelled scene no_read no_report h =
    elim (made_or_memory (Check words) status before after h s bytes refl left spelled scene no_read (λ makes fault. no_report fault.1)
    (λ makes fault. fault.0 (ap (λ (o : OutcomeOf). o.notes) makes.2))) [
      | inl made ↦
          let (is, makes) = made in
          let (answer, judged, same) = makes in
          answered answer (subst (λ (l : Option (List ℕ)). IfSome l (λ b. IsJudged s words.rounds words.watch (log_bytes b) answer)) left judged) (is ∙ ap (λ (o : OutcomeOf). o.status) same)
      | inr memory ↦ inr (inr memory)
    ]
  where
    answered : (answer : LogAnswer) → IsJudged s words.rounds words.watch (log_bytes bytes) answer → status ≡ answer_status answer
        → ((status ≡ statuses.Done) × IsAccepted s words.rounds words.watch (log_bytes bytes))
        ⊎ ((status ≡ statuses.Log) × (IsAccepted s words.rounds words.watch (log_bytes bytes) → ⊥))
        ⊎ (status ≡ statuses.Memory)
    answered Accepted judged is = inl (is, judged)
    answered (Refused n) judged is = inr (inl (is, judged.0))

-- ---- a scene without the frame

pub missing_picture : (words : PictureWords) (status : Status) (before after : Streams) (s : Parts) → before.input.left ≡ Some (layout s) → IsScene s → length s.cameras ≤ words.frame
    → (Rose before.input.faults after.input.faults → ⊥) → Ran (Picture words) status before after
    → LeavesNote statuses.Frame (missing_text words.frame (length s.cameras)) status before after ⊎ LeavesMemory status before after
missing_picture words status before after s left scene past no_read h =
    elim (by_scene (Picture words) before.input h.outcome (Makes (work_of (Picture words)) before.input.left h.outcome) s (layout s) left refl scene h.ends) [
      | inl makes ↦ alone (Picture words) status before after h statuses.Frame (missing_text words.frame (length s.cameras)) (makes.2 ∙ pictured_missing s words.frame past)
      | inr unread ↦ elim (alone (Picture words) status before after h statuses.ReadFault (status_text statuses.ReadFault) unread) [
        | inl note ↦ absurd (no_read (h.causes.read note.is_told))
        | inr memory ↦ inr memory
      ]
    ]

-- ---- and back: what a status tells of the input

-- what is made of a scene is done; or `check` refused a log, or `picture` missed a frame
abbrev MadeStatus : Command → Status → Type 0
MadeStatus c status =
    (status ≡ statuses.Done)
    ⊎ ((status ≡ statuses.Log) × ((words : CheckWords) × (c ≡ Check words)))
    ⊎ ((status ≡ statuses.Frame) × ((words : PictureWords) × (c ≡ Picture words)))

answer_made : (words : CheckWords) (answer : LogAnswer) → MadeStatus (Check words) (answer_status answer)
answer_made words Accepted = inl refl
answer_made words (Refused n) = inr (inl (refl, (words, refl)))

made_status : (c : Command) (left : Option (List ℕ)) (o : OutcomeOf) (s : Parts) → Makes (work_of c) left o s → MadeStatus c o.status
made_status (Cull words) left o s makes = inl (ap (λ (o : OutcomeOf). o.status) makes.2)
made_status (Live words) left o s makes = inl (ap (λ (o : OutcomeOf). o.status) makes.2)
made_status (Demo words) left o s makes = inl (ap (λ (o : OutcomeOf). o.status) makes.2)
made_status (Check words) left o s makes = subst (MadeStatus (Check words)) (sym (ap (λ (o : OutcomeOf). o.status) makes.2)) (answer_made words makes.0)
made_status (Picture words) left o s makes = elim (cases_lt words.frame (length s.cameras)) [
  | inl lt ↦ inl (ap (λ (o : OutcomeOf). o.status) (makes.2 ∙ pictured_there s words.frame lt))
  | inr past ↦ inr (inr (ap (λ (o : OutcomeOf). o.status) (makes.2 ∙ pictured_missing s words.frame past), (words, refl)))
]
made_status (Bare Upgrade) left o s makes = inl (ap (λ (o : OutcomeOf). o.status) makes.2)

-- what a scene is refused for, and that the input is unread
abbrev IsRefused : Command → SourceSays → OutcomeOf → Type 0
IsRefused c source o = ReadsScene c × ((e : SceneError) × IsRefusal e × HasFault c source e × (o ≡ note_alone statuses.Scene (refusal_text e)))

abbrev IsUnread : Command → OutcomeOf → Type 0
IsUnread c o = ReadsScene c × (o ≡ note_alone statuses.ReadFault (status_text statuses.ReadFault))

reading_as : (c : Command) (source : SourceSays) (o : OutcomeOf) → ReadsScene c → EndsByScene c source o (Makes (work_of c) source.left o) → MadeStatus c o.status ⊎ IsRefused c source o ⊎ IsUnread c o
reading_as c source o reads ends = elim ends [
  | inl found ↦ inl (made_status c source.left o found.0 found.2)
  | inr rest ↦ elim rest [ inl refused ↦ inr (inl (reads, refused)) | inr unread ↦ inr (inr (reads, unread)) ]
]

ends_as : (c : Command) (source : SourceSays) (o : OutcomeOf) → Ends c source o → MadeStatus c o.status ⊎ IsRefused c source o ⊎ IsUnread c o
ends_as (Cull words) source o ends = reading_as (Cull words) source o refl ends
ends_as (Live words) source o ends = reading_as (Live words) source o refl ends
ends_as (Demo words) source o ends = inl (inl (ap (λ (o : OutcomeOf). o.status) ends.2))
ends_as (Check words) source o ends = reading_as (Check words) source o refl ends
ends_as (Picture words) source o ends = reading_as (Picture words) source o refl ends
ends_as (Bare Upgrade) source o ends = reading_as (Bare Upgrade) source o refl ends

-- a status that isn't one of a cut is of what the command comes to
status_as : (c : Command) (status : Status) (before after : Streams) (h : Ran c status before after) → (IsCut status → ⊥)
    → MadeStatus c status ⊎ IsRefused c before.input h.outcome ⊎ IsUnread c h.outcome
status_as c status before after h uncut = elim (ends_as c before.input h.outcome h.ends) [
  | inl made ↦ inl (subst (MadeStatus c) (sym (stands c status before after h uncut)) made)
  | inr rest ↦ inr rest
]

not_made : (c : Command) (status : Status) → (status ≡ statuses.Done → ⊥) → (status ≡ statuses.Log → ⊥) → (status ≡ statuses.Frame → ⊥) → MadeStatus c status → ⊥
not_made c status not_done not_log not_frame made = elim made [ inl done ↦ not_done done | inr rest ↦ elim rest [ inl log ↦ not_log log.0 | inr frame ↦ not_frame frame.0 ] ]

of_picture : (c : Command) → MadeStatus c statuses.Frame → (words : PictureWords) × (c ≡ Picture words)
of_picture c made = elim made [
  | inl done ↦ absurd cc
  | inr rest ↦ elim rest [ inl log ↦ let bad : statuses.Frame ≡ statuses.Log = log.0 in absurd cc | inr frame ↦ frame.1 ]
]

of_check : (c : Command) → MadeStatus c statuses.Log → (words : CheckWords) × (c ≡ Check words)
of_check c made = elim made [
  | inl done ↦ absurd cc
  | inr rest ↦ elim rest [ inl log ↦ log.1 | inr frame ↦ let bad : statuses.Log ≡ statuses.Frame = frame.0 in absurd cc ]
]

-- the status is the outcome's
refused_status : (c : Command) (status : Status) (before after : Streams) (h : Ran c status before after) → (IsCut status → ⊥) → IsRefused c before.input h.outcome → status ≡ statuses.Scene
refused_status c status before after h uncut refused =
    let (reads, told) = refused in
    let (e, refusal, fault, same) = told in
    stands c status before after h uncut ∙ ap (λ (o : OutcomeOf). o.status) same

unread_status : (c : Command) (status : Status) (before after : Streams) (h : Ran c status before after) → (IsCut status → ⊥) → IsUnread c h.outcome → status ≡ statuses.ReadFault
unread_status c status before after h uncut unread = stands c status before after h uncut ∙ ap (λ (o : OutcomeOf). o.status) unread.1

pub scene_refused : (c : Command) (before after : Streams) → Ran c statuses.Scene before after
    → ReadsScene c × ((e : SceneError) × IsRefusal e × HasFault c before.input e × LeavesNote statuses.Scene (refusal_text e) statuses.Scene before after)
scene_refused c before after h = elim (status_as c statuses.Scene before after h scene_uncut) [
  | inl made ↦ absurd (not_made c statuses.Scene (λ is. absurd cc) (λ is. absurd cc) (λ is. absurd cc) made)
  | inr rest ↦ elim rest [
    | inl refused ↦
        let (reads, told) = refused in
        let (e, refusal, fault, same) = told in
        (reads, (e, refusal, fault, noted e same))
    | inr unread ↦ let bad : statuses.Scene ≡ statuses.ReadFault = unread_status c statuses.Scene before after h scene_uncut unread in absurd cc
  ]
]
  where
    noted : (e : SceneError) → h.outcome ≡ note_alone statuses.Scene (refusal_text e) → LeavesNote statuses.Scene (refusal_text e) statuses.Scene before after
    noted e same = elim (alone c statuses.Scene before after h statuses.Scene (refusal_text e) same) [
      | inl note ↦ note
      | inr memory ↦ let bad : statuses.Scene ≡ statuses.Memory = memory.is_told in absurd cc
    ]

pub read_rose : (c : Command) (before after : Streams) → Ran c statuses.ReadFault before after
    → ReadsScene c × Rose before.input.faults after.input.faults × LeavesUnread statuses.ReadFault before after
read_rose c before after h = elim (status_as c statuses.ReadFault before after h unread_uncut) [
  | inl made ↦ absurd (not_made c statuses.ReadFault (λ is. absurd cc) (λ is. absurd cc) (λ is. absurd cc) made)
  | inr rest ↦ elim rest [
    | inl refused ↦ let bad : statuses.ReadFault ≡ statuses.Scene = refused_status c statuses.ReadFault before after h unread_uncut refused in absurd cc
    | inr unread ↦ (unread.0, h.causes.read refl, noted unread.1)
  ]
]
  where
    noted : h.outcome ≡ note_alone statuses.ReadFault (status_text statuses.ReadFault) → LeavesUnread statuses.ReadFault before after
    noted same = elim (alone c statuses.ReadFault before after h statuses.ReadFault (status_text statuses.ReadFault) same) [
      | inl note ↦ note
      | inr memory ↦ let bad : statuses.ReadFault ≡ statuses.Memory = memory.is_told in absurd cc
    ]

-- the command of a status that is made of a scene, which isn't that of a refusal or of a read fault
made_of : (c : Command) (status : Status) (before after : Streams) (h : Ran c status before after) → (IsCut status → ⊥) → (status ≡ statuses.Scene → ⊥) → (status ≡ statuses.ReadFault → ⊥) → MadeStatus c status
made_of c status before after h uncut not_scene not_read = elim (status_as c status before after h uncut) [
  | inl made ↦ made
  | inr rest ↦ elim rest [
    | inl refused ↦ absurd (not_scene (refused_status c status before after h uncut refused))
    | inr unread ↦ absurd (not_read (unread_status c status before after h uncut unread))
  ]
]

missing_of : (words : PictureWords) (before after : Streams) → Ran (Picture words) statuses.Frame before after
    → (s : Parts) × HasScene (Picture words) before.input s × (length s.cameras ≤ words.frame)
    × LeavesNote statuses.Frame (missing_text words.frame (length s.cameras)) statuses.Frame before after
missing_of words before after h =
    let is = stands (Picture words) statuses.Frame before after h missing_uncut in
    elim (read_ends (Picture words) before.input h.outcome refl h.ends) [
      | inl found ↦
          let (s, has, makes) = found in
          let (counts, rising, same) = makes in
          elim (cases_lt words.frame (length s.cameras)) [
            | inl lt ↦ let bad : statuses.Frame ≡ statuses.Done = is ∙ ap (λ (o : OutcomeOf). o.status) (same ∙ pictured_there s words.frame lt) in absurd cc
            | inr past ↦ (s, has, past, noted (missing_text words.frame (length s.cameras)) (same ∙ pictured_missing s words.frame past))
          ]
      | inr rest ↦ elim rest [
        | inl refused ↦
            let (e, refusal, fault, same) = refused in
            let bad : statuses.Frame ≡ statuses.Scene = is ∙ ap (λ (o : OutcomeOf). o.status) same in
            absurd cc
        | inr unread ↦ let bad : statuses.Frame ≡ statuses.ReadFault = is ∙ ap (λ (o : OutcomeOf). o.status) unread in absurd cc
      ]
    ]
  where
    noted : (note : List ℕ) → h.outcome ≡ note_alone statuses.Frame note → LeavesNote statuses.Frame note statuses.Frame before after
    noted note same = elim (alone (Picture words) statuses.Frame before after h statuses.Frame note same) [
      | inl left ↦ left
      | inr memory ↦ let bad : statuses.Frame ≡ statuses.Memory = memory.is_told in absurd cc
    ]

pub frame_missing : (c : Command) (before after : Streams) → Ran c statuses.Frame before after
    → (words : PictureWords) × (c ≡ Picture words)
    × ((s : Parts) × HasScene (Picture words) before.input s × (length s.cameras ≤ words.frame)
    × LeavesNote statuses.Frame (missing_text words.frame (length s.cameras)) statuses.Frame before after)
frame_missing c before after h =
    let (words, same) = of_picture c (made_of c statuses.Frame before after h missing_uncut (λ is. absurd cc) (λ is. absurd cc)) in
    (words, same, missing_of words before after (subst (λ (d : Command). Ran d statuses.Frame before after) same h))

pub log_refused : (c : Command) (before after : Streams) → Ran c statuses.Log before after
    → (words : CheckWords) × (c ≡ Check words)
    × ((s : Parts) × HasScene (Check words) before.input s
    × ((n : ℕ) × IfBytes before.input (λ bytes. (IsAccepted s words.rounds words.watch (log_bytes bytes) → ⊥) × AreGoodLines s words.rounds words.watch (log_bytes bytes) n)
    × Appends before.report after.report (answer_text (Refused n)) × Appends before.notes after.notes []))
log_refused c before after h =
    let (words, same) = of_check c (made_of c statuses.Log before after h log_uncut (λ is. absurd cc) (λ is. absurd cc)) in
    (words, same, log_check words before after (subst (λ (d : Command). Ran d statuses.Log before after) same h))
