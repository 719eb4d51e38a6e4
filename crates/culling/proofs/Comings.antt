-- How commands come to their outcomes.
use Rattle.std.proofs.Common.{◌≡◌, ◌⊎◌, ℕ, ◌+◌, ◌<◌, ◌≤◌, ◌∷◌, ◌++◌, Bool, cond, List, [], length, map, take, Option, Some, None, Result, Ok, Err, arith, refl, sym, ap, ◌∙◌, subst, inl, inr}
use Rattle.std.specs.Prelude.{IfSome, codes}
use Rattle.std.specs.Fmt.{decimal}
use Rattle.std.specs.List.{flat_map, range_with_len}
use Rattle.std.proofs.lemmas.Bool.{le-ltb, lt-ltb}
use Rattle.std.proofs.lemmas.List.{append-nil}
use Rattle.clap.specs.Words.{Text}
use Rattle.cull_base.specs.Stream.{SinkSays, SourceSays, Appends, AppendsPrefix, IsNoted, Rose, Writes}
use Rattle.cull_base.specs.declared.memory.SinkError.{SinkError}
use Rattle.cull_base.specs.declared.memory.SinkError.TheVariants as sinks
use Rattle.cull_base.proofs.Streams.{appends_then}
use Rattle.scene_reader.specs.Layout.{Parts, IsScene, header_bytes, layout}
use Rattle.scene_reader.specs.Fault.{IsRefusal}
use Rattle.scene_reader.specs.Reading.{TakesLayout}
use Rattle.scene_reader.specs.declared.error.SceneError.{SceneError}
use Rattle.scene_reader.specs.declared.error.SceneError.TheVariants as errors
use Rattle.cull_report.proofs.Occluders.{hides_truly}
use Rattle.cull_report.specs.Live.{Counts}
use Rattle.cull_report.specs.Scene.{scene_header}
use Rattle.live_check.specs.declared.answer.LogAnswer.{LogAnswer}
use Rattle.live_check.specs.declared.answer.LogAnswer.TheVariants.{Accepted, Refused}
use Rattle.live_check.specs.declared.answer.LogError.{LogError}
use Rattle.live_check.specs.declared.answer.LogError.TheVariants as logs
use Rattle.command_words.specs.Words.{AreWords, command_of}
use Rattle.command_words.specs.declared.table.Command.{Command}
use Rattle.command_words.specs.declared.table.Command.TheVariants.{Cull, Live, Demo, Check, Picture}
use Rattle.command_words.specs.declared.table.CheckWords.{CheckWords}
use Rattle.command_words.specs.declared.table.CullWords.{CullWords}
use Rattle.command_words.specs.declared.table.DemoWords.{DemoWords}
use Rattle.command_words.specs.declared.table.LiveWords.{LiveWords}
use Rattle.command_words.specs.declared.table.PictureWords.{PictureWords}
use Rattle.command_words.specs.declared.words.Refusal.{Refusal}
use Rattle.command_words.specs.declared.words.Refusal.TheVariants as refusals
use Rattle.demo_scene.proofs.DemoScene.{demo_is_scene}
use Rattle.demo_scene.specs.Demo.{demo_of, frame_count}
use Rattle.frame_reports.specs.declared.failure.Failure.{Failure}
use Rattle.frame_reports.specs.declared.failure.Failure.TheVariants.{Scene, ReadFault, ReportFault, Memory, Log, Frame}
use Rattle.frame_reports.specs.declared.failure.Status.{Status}
use Rattle.frame_reports.specs.declared.failure.Status.TheVariants as statuses
use Rattle.culling.specs.Checking.{IsNoNumber}
use Rattle.frame_reports.specs.FrameRuns.{LeavesFrames, LeavesTexts}
use Rattle.frame_reports.specs.Frames.{beside_of, lines_of}
use Rattle.frame_reports.specs.NotedLines.{CountsStay}
use Rattle.frame_reports.specs.Notes.{IsNotedBehind, IsNotedFirst, missing_text, note_by, note_text, refusal_text, status_text, usage_text}
use Rattle.frame_reports.specs.Failures.{failure_of, log_failure, sink_failure, status_by, status_of}
use Rattle.culling.specs.Runs.{refusal_status, Comes, HasCause, IsComplete, IsUnasked, Streams, WithoutFault, streams}
use Rattle.frame_reports.specs.OutcomeOf.{OutcomeOf, joined, notes_at, notes_before, report_before, report_of, text_alone}
use Rattle.culling.specs.Outcomes.{Ends, EndsBy, EndsByScene, HasFault, HasScene, IfAsked, IfBytes, IsAbout, IsTrue, Makes, MakesBy, Making, ReadsScene, answer_alone, answer_text, group_frames, live_frames, note_alone, pictured, report_and, scene_bytes, scene_bytes_by, work_of}
use Rattle.culling.specs.Picture.{frame_picture}
use Rattle.frame_reports.specs.Leaves.{AwaitsNote, Leaves, LeavesFront}
use Rattle.culling.specs.Summary.{demo_line, frames_summary, summary_text}
use Rattle.frame_reports.specs.declared.frames.Beside.TheVariants.{Nothing, Looks}
use Rattle.frame_reports.specs.declared.frames.FrameLines.TheVariants.{Report, Summary}
use Rattle.culling.proofs.Checking.{short_fault}
use Rattle.frame_reports.proofs.FrameByFrame.{are_empty, unseen, unseen_rises}
use Rattle.frame_reports.proofs.FrameTexts.{as_one_text, counts_same, front_unnoted, never_done, none_at, unwritten, whole_leaves, without_notes}
use Rattle.frame_reports.proofs.Fronts.{nothing_appended, rose_later}
use Rattle.culling.proofs.OutcomeTexts.{group_frames_are, ended_by, header_some, joined_is, live_frames_are, not_empty, summary_some}
use Rattle.frame_reports.proofs.ScenePieces.{all_are_pieces, lines_hide}
use Rattle.culling.proofs.Shown.{picture_not_empty, shows_truly}

-- ---- what waits for its note

nothing_awaits : (n : SinkSays) (r : Result (Unit {0}) Failure) (note : List ℕ) → note ≡ note_by r → AwaitsNote r n n [] note
nothing_awaits n r note is = record { gained = nothing_appended n; note_is = is; stay = counts_same n }

-- ---- nothing is left

nothing_front : (before : SinkSays) (text : List ℕ) → AppendsPrefix before before text
nothing_front before text = (0, omega arith, nothing_appended before)

-- ---- a scene that couldn't be read

-- a command that reads a scene comes to what that comes to
ends_read : (c : Command) (source : SourceSays) (o : OutcomeOf) → ReadsScene c → EndsByScene c source o (Makes (work_of c) source.left o) → Ends c source o
ends_read c source o reads ends = subst (λ (own : Option (ℕ × ℕ)). EndsBy own c source o) (sym reads) ends

ends_refused : (c : Command) (source : SourceSays) (e : SceneError) → ReadsScene c → IsRefusal e → HasFault c source e → Ends c source (note_alone statuses.Scene (refusal_text e))
ends_refused c source e reads refusal fault = ends_read c source (note_alone statuses.Scene (refusal_text e)) reads (inr (inl (e, refusal, fault, refl)))

ends_unread : (c : Command) (source : SourceSays) → ReadsScene c → Ends c source (note_alone statuses.ReadFault (status_text statuses.ReadFault))
ends_unread c source reads = ends_read c source (note_alone statuses.ReadFault (status_text statuses.ReadFault)) reads (inr (inr refl))

-- what is made where nothing was looked at
made_unseen : (outcome : Making) (rounds watch : ℕ) (left : Option (List ℕ)) (s : Parts) → MakesBy (Some outcome) rounds watch left (outcome s unseen) s
made_unseen outcome rounds watch left s = (unseen, (λ frame lt. unseen_rises (Looks rounds watch) s frame), refl)

comes_refused : (c : Command) (i0 i1 : SourceSays) (r n : SinkSays) (e : SceneError) (P Q : Type 0) → ReadsScene c → IsRefusal e → HasFault c i0 e → P → Q
    → Comes c statuses.Scene (streams i0 r n) (streams i1 r n) (AwaitsNote (Err (Scene e))) P Q
comes_refused c i0 i1 r n e P Q reads refusal fault p q = record {
  outcome = note_alone statuses.Scene (refusal_text e);
  ends = ends_refused c i0 e reads refusal fault;
  leaves = inl (refl, record { reported = nothing_appended r; noted_is = nothing_awaits n (Err (Scene e)) (refusal_text e) refl });
  causes = record { read = λ is. absurd cc; report = λ is. absurd cc; notes = λ is. absurd cc };
  untouched = λ is. p;
  unnoted = λ is. q;
  taken = λ is. absurd cc;
}

comes_unread : (c : Command) (i0 i1 : SourceSays) (r n : SinkSays) (P Q : Type 0) → ReadsScene c → Rose i0.faults i1.faults → P → Q
    → Comes c statuses.ReadFault (streams i0 r n) (streams i1 r n) (AwaitsNote (Err ReadFault)) P Q
comes_unread c i0 i1 r n P Q reads rose p q = record {
  outcome = note_alone statuses.ReadFault (status_text statuses.ReadFault);
  ends = ends_unread c i0 reads;
  leaves = inl (refl, record { reported = nothing_appended r; noted_is = nothing_awaits n (Err ReadFault) (status_text statuses.ReadFault) refl });
  causes = record { read = λ is. rose; report = λ is. absurd cc; notes = λ is. absurd cc };
  untouched = λ is. p;
  unnoted = λ is. q;
  taken = λ is. absurd cc;
}

-- memory ran out before anything was written
early_memory : (o : OutcomeOf) (r : SinkSays) (noted : List ℕ → List ℕ → Type 0) → noted [] (status_text statuses.Memory) → Leaves o statuses.Memory r r noted
early_memory o r noted none = inr (inr (inr refl), front_unnoted o statuses.Memory r r noted (nothing_front r (report_before o (0 + 1))) none (λ is. absurd cc))

comes_early : (c : Command) (o : OutcomeOf) (i0 i1 : SourceSays) (r n0 n1 : SinkSays) (noted : SinkSays → SinkSays → List ℕ → List ℕ → Type 0) (P Q : Type 0) → Ends c i0 o
    → noted n0 n1 [] (status_text statuses.Memory) → P → Q → Comes c statuses.Memory (streams i0 r n0) (streams i1 r n1) noted P Q
comes_early c o i0 i1 r n0 n1 noted P Q ends none p q = record {
  outcome = o;
  ends = ends;
  leaves = early_memory o r (noted n0 n1) none;
  causes = record { read = λ is. absurd cc; report = λ is. absurd cc; notes = λ is. absurd cc };
  untouched = λ is. p;
  unnoted = λ is. q;
  taken = λ is. absurd cc;
}

pub failed_read : (c : Command) (i0 i1 : SourceSays) (r n : SinkSays) (e : SceneError) (P Q : Type 0) → ReadsScene c → (IsRefusal e → HasFault c i0 e) → (e ≡ errors.Read → Rose i0.faults i1.faults) → P → Q
    → Comes c (status_of (failure_of e)) (streams i0 r n) (streams i1 r n) (AwaitsNote (Err (failure_of e))) P Q
failed_read c i0 i1 r n errors.Read P Q reads fault rose p q = comes_unread c i0 i1 r n P Q reads (rose refl) p q
failed_read c i0 i1 r n errors.Memory P Q reads fault rose p q =
    comes_early c (note_alone statuses.ReadFault (status_text statuses.ReadFault)) i0 i1 r n n (AwaitsNote (Err Memory)) P Q (ends_unread c i0 reads) (nothing_awaits n (Err Memory) (status_text statuses.Memory) refl) p q
failed_read c i0 i1 r n e P Q reads fault rose p q = comes_refused c i0 i1 r n e P Q reads tt (fault tt) p q

-- and so a call that asked for the scene ends
pub read_failed : (c : Command) (i0 i1 : SourceSays) (r n : SinkSays) (e : SceneError) (f : Failure) (result : Result (Unit {0}) Failure) (P Q : Type 0) → result ≡ Err f → f ≡ failure_of e → ReadsScene c
    → (IsRefusal e → HasFault c i0 e) → (e ≡ errors.Read → Rose i0.faults i1.faults) → P → Q → Comes c (status_by result) (streams i0 r n) (streams i1 r n) (AwaitsNote result) P Q
read_failed c i0 i1 r n e f result P Q is came reads fault rose p q = rw (is, came) (failed_read c i0 i1 r n e P Q reads fault rose p q)

-- ---- a scene's frames

-- a failure's cause, by its status
no_notes : (o : OutcomeOf) (r : Result (Unit {0}) Failure) (r0 r1 n0 n1 : SinkSays) → LeavesTexts o r r0 r1 n0 n1 → status_by r ≡ statuses.NotesFault → o.notes ≡ [] → o.status ≡ statuses.Done → ⊥
no_notes o r r0 r1 n0 n1 l is none done = elim l.leaves [
  | inl whole ↦ let other : statuses.NotesFault ≡ statuses.Done = sym is ∙ whole.0 ∙ done in absurd cc
  | inr front ↦ let x = front.1.of_notes is in absurd (omega (arith, x.1, ap length (none_at o front.1.frame none)))
]

texts_causes : (o : OutcomeOf) (r : Result (Unit {0}) Failure) (i0 i1 : SourceSays) (r0 r1 n0 n1 : SinkSays) → o.status ≡ statuses.Done → LeavesTexts o r r0 r1 n0 n1
    → HasCause o (status_by r) (streams i0 r0 n0) (streams i1 r1 n1)
texts_causes o (Ok x) i0 i1 r0 r1 n0 n1 done l = record { read = λ is. absurd cc; report = λ is. absurd cc; notes = λ is. absurd cc }
texts_causes o (Err f) i0 i1 r0 r1 n0 n1 done l = elim l.cause [
  | inl memory ↦
      let is : status_of f ≡ statuses.Memory = ap status_of memory in
      record { read = λ e. absurd cc; report = λ e. absurd cc; notes = λ e. absurd cc }
  | inr rest ↦ elim rest [
    | inl report ↦
        let is : status_of f ≡ statuses.ReportFault = ap status_of report.0 in
        record { read = λ e. absurd cc; report = λ e. (report.1, report.2); notes = λ e. absurd cc }
    | inr notes ↦
        let is : status_of f ≡ statuses.NotesFault = ap status_of notes.0 in
        record { read = λ e. absurd cc; report = λ e. absurd cc; notes = λ e. (λ none. no_notes o (Err f) r0 r1 n0 n1 l e none done, notes.1) }
  ]
]

texts_come : (c : Command) (o : OutcomeOf) (i0 i1 : SourceSays) (r0 r1 n0 n1 : SinkSays) (r : Result (Unit {0}) Failure) (P Q : Type 0) → Ends c i0 o → o.status ≡ statuses.Done → (report_of o ≡ [] → ⊥)
    → (ReadsScene c → IfBytes i0 (λ bytes. i1.left ≡ Some [])) → (o.notes ≡ [] → Q) → LeavesTexts o r r0 r1 n0 n1
    → Comes c (status_by r) (streams i0 r0 n0) (streams i1 r1 n1) (AwaitsNote r) P Q
texts_come c o i0 i1 r0 r1 n0 n1 r P Q ends done some taken quiet l = record {
  outcome = o;
  ends = ends;
  leaves = l.leaves;
  causes = texts_causes o r i0 i1 r0 r1 n0 n1 done l;
  untouched = λ is. absurd (some is);
  unnoted = quiet;
  taken = λ is. taken;
}

-- of a command whose scene bytes are all bytes
has_scene : (c : Command) (source after : SourceSays) (s : Parts) → ((bytes : List ℕ) → scene_bytes c bytes ≡ bytes) → IsScene s → TakesLayout source after s → HasScene c source s
has_scene c source after s whole scene takes = record { scene = scene; spelled = by source.left takes }
  where
    by : (left : Option (List ℕ)) → IfSome left (λ bytes. (bytes ≡ layout s) × (after.left ≡ Some [])) → IfSome left (λ bytes. scene_bytes c bytes ≡ layout s)
    by None takes = tt
    by (Some bytes) takes = whole bytes ∙ takes.0

none_left : (source after : SourceSays) (s : Parts) → TakesLayout source after s → IfBytes source (λ bytes. after.left ≡ Some [])
none_left source after s takes = by source.left takes
  where
    by : (left : Option (List ℕ)) → IfSome left (λ bytes. (bytes ≡ layout s) × (after.left ≡ Some [])) → IfSome left (λ bytes. after.left ≡ Some [])
    by None takes = tt
    by (Some bytes) takes = takes.1

-- the texts of a report, and of its groups where there are
group_texts : (group : Option ℕ) (s : Parts) (r0 r1 n0 n1 : SinkSays) (r : Result (Unit {0}) Failure) → LeavesFrames (scene_header s) Report (beside_of group) s 0 (length s.cameras) r r0 r1 n0 n1
    → LeavesTexts (report_and s (group_frames s group)) r r0 r1 n0 n1
group_texts None s r0 r1 n0 n1 r w =
    without_notes (scene_header s) (report_and s []).frames (map (λ (frame : ℕ). []) (range_with_len 0 (length s.cameras))) r r0 r1 n0 n1 (are_empty 0 (length s.cameras)) w.texts
group_texts (Some most) s r0 r1 n0 n1 r w = w.texts

-- nothing is noted only where boxes aren't taken in groups
group_quiet : (group : Option ℕ) (s : Parts) (Q : Type 0) → IsScene s → (beside_of group ≡ Nothing → Q) → group_frames s group ≡ [] → Q
group_quiet None s Q scene quiet none = quiet refl
group_quiet (Some most) s Q scene quiet none = absurd (omega (arith, ap length none, group_frames_are s most, scene.some_frames))

pub cull_comes : (words : CullWords) (s : Parts) (i0 i1 : SourceSays) (r0 r1 n0 n1 : SinkSays) (r : Result (Unit {0}) Failure) (P Q : Type 0) → IsScene s → TakesLayout i0 i1 s
    → (beside_of words.group ≡ Nothing → Q) → LeavesFrames (scene_header s) Report (beside_of words.group) s 0 (length s.cameras) r r0 r1 n0 n1
    → Comes (Cull words) (status_by r) (streams i0 r0 n0) (streams i1 r1 n1) (AwaitsNote r) P Q
cull_comes words s i0 i1 r0 r1 n0 n1 r P Q scene takes quiet w =
    let o = report_and s (group_frames s words.group) in
    texts_come (Cull words) o i0 i1 r0 r1 n0 n1 r P Q
    (inl (s, has_scene (Cull words) i0 i1 s (λ bytes. refl) scene takes, made_unseen (λ t counts. report_and t (group_frames t words.group)) 0 0 i0.left s)) refl
    (not_empty (scene_header s) (joined o.frames) (header_some s)) (λ reads. none_left i0 i1 s takes) (group_quiet words.group s Q scene quiet) (group_texts words.group s r0 r1 n0 n1 r w)

live_noted : (s : Parts) (rounds watch : ℕ) (counts : Counts) → IsScene s → live_frames s rounds watch counts ≡ [] → ⊥
live_noted s rounds watch counts scene is = omega (arith, ap length is, live_frames_are s rounds watch counts, scene.some_frames)

pub live_comes : (words : LiveWords) (s : Parts) (i0 i1 : SourceSays) (r0 r1 n0 n1 : SinkSays) (r : Result (Unit {0}) Failure) (P Q : Type 0) → IsScene s → TakesLayout i0 i1 s
    → LeavesFrames (scene_header s) Report (Looks words.rounds words.watch) s 0 (length s.cameras) r r0 r1 n0 n1 → Comes (Live words) (status_by r) (streams i0 r0 n0) (streams i1 r1 n1) (AwaitsNote r) P Q
live_comes words s i0 i1 r0 r1 n0 n1 r P Q scene takes w =
    let o = report_and s (live_frames s words.rounds words.watch w.counts) in
    texts_come (Live words) o i0 i1 r0 r1 n0 n1 r P Q (inl (s, has_scene (Live words) i0 i1 s (λ bytes. refl) scene takes, (w.counts, (λ frame lt. w.rising frame), refl))) refl
    (not_empty (scene_header s) (joined o.frames) (header_some s)) (λ reads. none_left i0 i1 s takes) (λ none. absurd (live_noted s words.rounds words.watch w.counts scene none)) w.texts

-- ---- `demo`

demo_frames : (seed m : ℕ) → length (demo_of seed m).cameras ≡ frame_count
unfolding demo_of
demo_frames seed m = refl

summary_is : (seed m : ℕ) → demo_line seed m ++ joined (map (lines_of Summary (demo_of seed m)) (range_with_len 0 (length (demo_of seed m).cameras))) ≡ summary_text seed m
unfolding summary_text frames_summary
summary_is seed m =
    ap (λ (t : List ℕ). demo_line seed m ++ t) (joined_is (lines_of Summary (demo_of seed m)) (length (demo_of seed m).cameras)
    ∙ ap (λ n. flat_map (lines_of Summary (demo_of seed m)) (range_with_len 0 n)) (demo_frames seed m))

pub demo_comes : (words : DemoWords) (s : Parts) (i : SourceSays) (r0 r1 n0 n1 : SinkSays) (r : Result (Unit {0}) Failure) (P Q : Type 0) → s ≡ demo_of words.seed words.triangles → Q
    → LeavesFrames (demo_line words.seed words.triangles) Summary Nothing s 0 (length s.cameras) r r0 r1 n0 n1 → Comes (Demo words) (status_by r) (streams i r0 n0) (streams i r1 n1) (AwaitsNote r) P Q
demo_comes words s i r0 r1 n0 n1 r P Q is q w =
    let seed = words.seed in let m = words.triangles in
    let d = demo_of seed m in
    let head = demo_line seed m in
    let frames = map (lines_of Summary d) (range_with_len 0 (length d.cameras)) in
    let drawn = subst (λ (p : Parts). LeavesFrames head Summary Nothing p 0 (length p.cameras) r r0 r1 n0 n1) is w in
    let silent = without_notes head frames (map (λ (frame : ℕ). []) (range_with_len 0 (length d.cameras))) r r0 r1 n0 n1 (are_empty 0 (length d.cameras)) drawn.texts in
    texts_come (Demo words) (text_alone (summary_text seed m)) i i r0 r1 n0 n1 r P Q (made_unseen (λ t counts. text_alone (summary_text seed m)) 0 0 None d) refl (not_empty (summary_text seed m) [] (summary_some seed m))
    (λ reads. absurd cc) (λ none. q) (subst (λ (t : List ℕ). LeavesTexts (text_alone t) r r0 r1 n0 n1) (summary_is seed m) (as_one_text head frames r r0 r1 n0 n1 silent))

-- ---- one text of a scene that is read

pub layout_some : (s : Parts) → 0 < length (layout s)
unfolding layout header_bytes
layout_some s = omega arith

-- the text stands whole
pub text_written : (text : List ℕ) (x : Unit {0}) (r0 r1 n : SinkSays) → Writes r0 r1 (Ok x) text → LeavesTexts (text_alone text) (Ok x) r0 r1 n n
text_written text x r0 r1 n w =
    whole_leaves text [] [] r0 r1 n n x
    (record { reported = subst (Appends r0 r1) (sym (append-nil text)) w.ok; noted = nothing_appended n; report_stays = w.faults_stay; stay = counts_same n })

-- a front of it stands
pub text_unwritten : (text : List ℕ) (e : SinkError) (r0 r1 n : SinkSays) → Writes r0 r1 (Err e) text → LeavesTexts (text_alone text) (Err (sink_failure e)) r0 r1 n n
text_unwritten text e r0 r1 n w = unwritten text text [] [] e r0 r1 n (append-nil text) (append-nil text) w

-- without looks the outcome is this one text
abbrev pub IsTextBy : Option Making → Parts → List ℕ → Type 0
IsTextBy (Some outcome) s text = outcome s unseen ≡ text_alone text
IsTextBy None s text = ⊥

-- the command makes this one text of a scene that it read
abbrev pub MakesText : Command → Parts → List ℕ → Type 0
MakesText c s text = ReadsScene c × IsTextBy (work_of c).outcome s text

made_text : (outcome : Option Making) (rounds watch : ℕ) (left : Option (List ℕ)) (s : Parts) (text : List ℕ) → IsTextBy outcome s text → MakesBy outcome rounds watch left (text_alone text) s
made_text (Some outcome) rounds watch left s text is = (unseen, (λ frame lt. unseen_rises (Looks rounds watch) s frame), sym is)
made_text None rounds watch left s text is = absurd is

-- and all bytes are the scene's
reads_all : (outcome : Option Making) (s : Parts) (text : List ℕ) → IsTextBy outcome s text → (bytes : List ℕ) → scene_bytes_by outcome bytes ≡ bytes
reads_all (Some outcome) s text is bytes = refl
reads_all None s text is bytes = absurd is

text_comes : (c : Command) (s : Parts) (text : List ℕ) (i0 i1 : SourceSays) (r0 r1 n : SinkSays) (r : Result (Unit {0}) Failure) (P Q : Type 0) → MakesText c s text → 0 < length text → IsScene s
    → TakesLayout i0 i1 s → Q → LeavesTexts (text_alone text) r r0 r1 n n → Comes c (status_by r) (streams i0 r0 n) (streams i1 r1 n) (AwaitsNote r) P Q
text_comes c s text i0 i1 r0 r1 n r P Q makes some scene takes q l =
    let w = work_of c in
    let made : Makes w i0.left (text_alone text) s = made_text w.outcome w.rounds w.watch i0.left s text makes.1 in
    let has = has_scene c i0 i1 s (reads_all w.outcome s text makes.1) scene takes in
    texts_come c (text_alone text) i0 i1 r0 r1 n n r P Q (ends_read c i0 (text_alone text) makes.0 (inl (s, has, made))) refl (not_empty text [] some)
    (λ reads. none_left i0 i1 s takes) (λ none. q) l

pub written_comes : (c : Command) (s : Parts) (text : List ℕ) (i0 i1 : SourceSays) (r0 r1 n : SinkSays) (x : Unit {0}) (P Q : Type 0) → MakesText c s text → 0 < length text → IsScene s
    → TakesLayout i0 i1 s → Q → Writes r0 r1 (Ok x) text → Comes c statuses.Done (streams i0 r0 n) (streams i1 r1 n) (AwaitsNote (Ok x)) P Q
written_comes c s text i0 i1 r0 r1 n x P Q makes some scene takes q w = text_comes c s text i0 i1 r0 r1 n (Ok x) P Q makes some scene takes q (text_written text x r0 r1 n w)

pub unwritten_comes : (c : Command) (s : Parts) (text : List ℕ) (i0 i1 : SourceSays) (r0 r1 n : SinkSays) (e : SinkError) (P Q : Type 0) → MakesText c s text → 0 < length text → IsScene s
    → TakesLayout i0 i1 s → Q → Writes r0 r1 (Err e) text → Comes c (status_of (sink_failure e)) (streams i0 r0 n) (streams i1 r1 n) (AwaitsNote (Err (sink_failure e))) P Q
unwritten_comes c s text i0 i1 r0 r1 n e P Q makes some scene takes q w =
    text_comes c s text i0 i1 r0 r1 n (Err (sink_failure e)) P Q makes some scene takes q (text_unwritten text e r0 r1 n w)

-- ---- `check`

answer_some : (answer : LogAnswer) → 0 < length (answer_text answer)
answer_some Accepted = ended_by (codes "log" ∷ codes "accepted" ∷ [])
answer_some (Refused n) = ended_by (codes "log" ∷ codes "refused" ∷ decimal n ∷ [])

-- what becomes of an answer that was written
abbrev pub result_by : LogAnswer → Result (Unit {0}) Failure
result_by Accepted = Ok tt
result_by (Refused n) = Err Log

-- the answer's line stands whole, and nothing is noted
pub answer_written : (c : Command) (answer : LogAnswer) (i0 i1 : SourceSays) (r0 r1 n : SinkSays) (P Q : Type 0) → Ends c i0 (answer_alone answer) → Appends r0 r1 (answer_text answer) → Q
    → (answer ≡ Accepted → IfBytes i0 (λ bytes. i1.left ≡ Some [])) → Comes c (status_by (result_by answer)) (streams i0 r0 n) (streams i1 r1 n) (AwaitsNote (result_by answer)) P Q
answer_written c Accepted i0 i1 r0 r1 n P Q ends gained q taken = record {
  outcome = answer_alone Accepted;
  ends = ends;
  leaves = inl (refl, record { reported = subst (Appends r0 r1) (sym (append-nil (answer_text Accepted))) gained; noted_is = nothing_awaits n (Ok tt) [] refl });
  causes = record { read = λ is. absurd cc; report = λ is. absurd cc; notes = λ is. absurd cc };
  untouched = λ is. absurd (not_empty (answer_text Accepted) [] (answer_some Accepted) is);
  unnoted = λ is. q;
  taken = λ is reads. taken refl;
}
answer_written c (Refused good) i0 i1 r0 r1 n P Q ends gained q taken = record {
  outcome = answer_alone (Refused good);
  ends = ends;
  leaves = inl (refl, record { reported = subst (Appends r0 r1) (sym (append-nil (answer_text (Refused good)))) gained; noted_is = nothing_awaits n (Err Log) [] refl });
  causes = record { read = λ is. absurd cc; report = λ is. absurd cc; notes = λ is. absurd cc };
  untouched = λ is. absurd (not_empty (answer_text (Refused good)) [] (answer_some (Refused good)) is);
  unnoted = λ is. q;
  taken = λ is. absurd cc;
}

-- a front of it stands
pub answer_unwritten : (c : Command) (answer : LogAnswer) (e : SinkError) (i0 i1 : SourceSays) (r0 r1 n : SinkSays) (P Q : Type 0) → Ends c i0 (answer_alone answer) → Writes r0 r1 (Err e) (answer_text answer) → Q
    → Comes c (status_of (sink_failure e)) (streams i0 r0 n) (streams i1 r1 n) (AwaitsNote (Err (sink_failure e))) P Q
answer_unwritten c answer e i0 i1 r0 r1 n P Q ends w q =
    let text = answer_text answer in
    let some = not_empty text [] (answer_some answer) in
    let (m, lt, part) = w.err in
    let front : AppendsPrefix r0 r1 (text ++ []) = subst (AppendsPrefix r0 r1) (sym (append-nil text)) (m, omega (arith, lt), part) in
    by e front some w
  where
    front_of : (f : Failure) → AppendsPrefix r0 r1 (answer_text answer ++ []) → status_text (status_of f) ≡ note_text f → (status_of f ≡ statuses.NotesFault → ⊥)
        → LeavesFront (answer_alone answer) (status_of f) r0 r1 (AwaitsNote (Err f) n n)
    front_of f front noted not_notes =
        front_unnoted (answer_alone answer) (status_of f) r0 r1 (AwaitsNote (Err f) n n) front (nothing_awaits n (Err f) (status_text (status_of f)) noted) not_notes

    by : (e : SinkError) → AppendsPrefix r0 r1 (answer_text answer ++ []) → (answer_text answer ++ [] ≡ [] → ⊥) → Writes r0 r1 (Err e) (answer_text answer)
        → Comes c (status_of (sink_failure e)) (streams i0 r0 n) (streams i1 r1 n) (AwaitsNote (Err (sink_failure e))) P Q
    by sinks.Failed front some w = record {
      outcome = answer_alone answer;
      ends = ends;
      leaves = inr (inl refl, front_of ReportFault front refl (λ is. absurd cc));
      causes = record { read = λ is. absurd cc; report = λ is. (some, w.failed refl); notes = λ is. absurd cc };
      untouched = λ is. absurd (some is);
      unnoted = λ is. q;
      taken = λ is. absurd cc;
    }
    by sinks.Memory front some w = record {
      outcome = answer_alone answer;
      ends = ends;
      leaves = inr (inr (inr refl), front_of Memory front refl (λ is. absurd cc));
      causes = record { read = λ is. absurd cc; report = λ is. absurd cc; notes = λ is. absurd cc };
      untouched = λ is. absurd (some is);
      unnoted = λ is. q;
      taken = λ is. absurd cc;
    }

-- there was no number in front, or the source failed
pub no_number : (words : CheckWords) (f : Failure) (i0 i1 : SourceSays) (r n : SinkSays) (P Q : Type 0) → IsNoNumber i0 i1 f → P → Q
    → Comes (Check words) (status_of f) (streams i0 r n) (streams i1 r n) (AwaitsNote (Err f)) P Q
no_number words f i0 i1 r n P Q none p q = elim none [
  | inl short ↦
      let (bytes, takes, few, ended, is) = short in
      let e = errors.Truncated 4 (length bytes) in
      subst (λ (g : Failure). Comes (Check words) (status_of g) (streams i0 r n) (streams i1 r n) (AwaitsNote (Err g)) P Q) (sym is)
      (comes_refused (Check words) i0 i1 r n e P Q refl tt (short_fault words i0 i1 bytes takes few ended) p q)
  | inr failed ↦
      subst (λ (g : Failure). Comes (Check words) (status_of g) (streams i0 r n) (streams i1 r n) (AwaitsNote (Err g)) P Q) (sym failed.0)
      (comes_unread (Check words) i0 i1 r n P Q refl failed.1 p q)
]

-- the input couldn't be read behind the scene, or memory ran out before the answer
pub log_unread : (c : Command) (e : LogError) (i0 i1 : SourceSays) (r n : SinkSays) (P Q : Type 0) → ReadsScene c → (e ≡ logs.Read → Rose i0.faults i1.faults) → P → Q
    → Comes c (status_of (log_failure e)) (streams i0 r n) (streams i1 r n) (AwaitsNote (Err (log_failure e))) P Q
log_unread c logs.Read i0 i1 r n P Q reads rose p q = comes_unread c i0 i1 r n P Q reads (rose refl) p q
log_unread c logs.Memory i0 i1 r n P Q reads rose p q =
    comes_early c (note_alone statuses.ReadFault (status_text statuses.ReadFault)) i0 i1 r n n (AwaitsNote (Err Memory)) P Q (ends_unread c i0 reads)
    (nothing_awaits n (Err Memory) (status_text statuses.Memory) refl) p q

-- ---- `picture`

-- the outcome where there is such a frame, and where there is none
pub pictured_there : (s : Parts) (frame : ℕ) → frame < length s.cameras → pictured s frame ≡ text_alone (frame_picture s frame)
pictured_there s frame lt =
    ap (λ (b : Bool). cond b (text_alone (frame_picture s frame)) (note_alone statuses.Frame (missing_text frame (length s.cameras)))) (lt-ltb frame (length s.cameras) lt)

pub pictured_missing : (s : Parts) (frame : ℕ) → length s.cameras ≤ frame → pictured s frame ≡ note_alone statuses.Frame (missing_text frame (length s.cameras))
pictured_missing s frame past =
    ap (λ (b : Bool). cond b (text_alone (frame_picture s frame)) (note_alone statuses.Frame (missing_text frame (length s.cameras)))) (le-ltb frame (length s.cameras) past)

pub picture_comes : (words : PictureWords) (s : Parts) (i0 i1 : SourceSays) (r0 r1 n : SinkSays) (r : Result (Unit {0}) Failure) (P Q : Type 0) → IsScene s → TakesLayout i0 i1 s
    → words.frame < length s.cameras → Q → LeavesTexts (text_alone (frame_picture s words.frame)) r r0 r1 n n
    → Comes (Picture words) (status_by r) (streams i0 r0 n) (streams i1 r1 n) (AwaitsNote r) P Q
picture_comes words s i0 i1 r0 r1 n r P Q scene takes lt q l =
    text_comes (Picture words) s (frame_picture s words.frame) i0 i1 r0 r1 n r P Q (refl, pictured_there s words.frame lt) (picture_not_empty s words.frame) scene takes q l

-- the scene has no such frame
pub missing_comes : (words : PictureWords) (frames : ℕ) (s : Parts) (i0 i1 : SourceSays) (r n : SinkSays) (P Q : Type 0) → IsScene s → TakesLayout i0 i1 s → frames ≡ length s.cameras
    → frames ≤ words.frame → P → Q → Comes (Picture words) statuses.Frame (streams i0 r n) (streams i1 r n) (AwaitsNote (Err (Frame words.frame frames))) P Q
missing_comes words frames s i0 i1 r n P Q scene takes all past p q =
    let note : List ℕ = missing_text words.frame frames in
    let o : OutcomeOf = note_alone statuses.Frame note in
    let is : pictured s words.frame ≡ o =
    pictured_missing s words.frame (omega (arith, all, past)) ∙ ap (λ (k : ℕ). note_alone statuses.Frame (missing_text words.frame k)) (sym all) in
    let made : Makes (work_of (Picture words)) i0.left o s =
    subst (λ (x : OutcomeOf). Makes (work_of (Picture words)) i0.left x s) is (made_unseen (λ t counts. pictured t words.frame) 0 0 i0.left s) in
    record {
      outcome = o;
      ends = inl (s, has_scene (Picture words) i0 i1 s (λ bytes. refl) scene takes, made);
      leaves = inl (refl, record { reported = nothing_appended r; noted_is = nothing_awaits n (Err (Frame words.frame frames)) note refl });
      causes = record { read = λ e. absurd cc; report = λ e. absurd cc; notes = λ e. absurd cc };
      untouched = λ e. p;
      unnoted = λ e. q;
      taken = λ e. absurd cc;
    }

-- ---- the status's note

rose_of_either : (n0 n1 n2 : SinkSays) → CountsStay n0 n1 → Rose n1.faults n2.faults ⊎ Rose n1.refusals n2.refusals → Rose n0.faults n2.faults ⊎ Rose n0.refusals n2.refusals
rose_of_either n0 n1 n2 stay h = elim h [
  | inl f ↦ inl (rose_later n0.faults n1.faults n2.faults stay.faults f)
  | inr r ↦ inr (rose_later n0.refusals n1.refusals n2.refusals stay.refusals r)
]

-- a note behind a text
noted_behind : (n0 n1 n2 : SinkSays) (front note : List ℕ) → Appends n0 n1 front → CountsStay n0 n1 → IsNoted n1 n2 note → IsNotedBehind n0 n2 front note
noted_behind n0 n1 n2 front note h stay noted = elim noted [
  | inl whole ↦ inl (appends_then n0 n1 n2 front note h whole)
  | inr part ↦ let (m, le, f) = part.0 in inr (m, le, appends_then n0 n1 n2 front (take m note) h f, rose_of_either n0 n1 n2 stay part.1)
]

leaves_map : (o : OutcomeOf) (status : Status) (before after : SinkSays) (P Q : List ℕ → List ℕ → Type 0) → ((text note : List ℕ) → P text note → Q text note) → Leaves o status before after P → Leaves o status before after Q
leaves_map o status before after P Q f leaves = elim leaves [
  | inl whole ↦ let w = whole.1 in inl (whole.0, record { reported = w.reported; noted_is = f (joined o.notes) o.note w.noted_is })
  | inr front ↦
      let w = front.1 in
      inr (
        front.0,
        record {
          frame = w.frame;
          is_frame = w.is_frame;
          reported = w.reported;
          earlier = w.earlier;
          size = w.size;
          within = w.within;
          whole = w.whole;
          noted_is = f (notes_before o w.frame ++ take w.size (notes_at o w.frame)) (status_text status) w.noted_is;
          of_report = w.of_report;
          of_notes = w.of_notes;
        },
      )
]

rose_on : (a b c : ℕ) → Rose a b → b ≤ c → Rose a c
rose_on a b c rose le = let x : Rose a c = omega (arith, rose, le) in x

-- the failure is noted behind what was gained
pub comes_noted : (c : Command) (f : Failure) (i0 i1 : SourceSays) (r0 r1 n0 n1 n2 : SinkSays) (P Q : Type 0)
    → Comes c (status_of f) (streams i0 r0 n0) (streams i1 r1 n1) (AwaitsNote (Err f)) P Q → IsNoted n1 n2 (note_text f) → n1.faults ≤ n2.faults
    → Comes c (status_of f) (streams i0 r0 n0) (streams i1 r1 n2) IsNotedBehind P (status_of f ≡ statuses.Done → Q)
comes_noted c f i0 i1 r0 r1 n0 n1 n2 P Q h noted le = record {
  outcome = h.outcome;
  ends = h.ends;
  leaves = leaves_map h.outcome (status_of f) r0 r1 (AwaitsNote (Err f) n0 n1) (IsNotedBehind n0 n2)
      (λ text note awaits. noted_behind n0 n1 n2 text note awaits.gained awaits.stay (subst (IsNoted n1 n2) (sym awaits.note_is) noted)) h.leaves;
  causes = record {
    read = h.causes.read;
    report = h.causes.report;
    notes = λ is. let x = h.causes.notes is in (x.0, rose_on n0.faults n1.faults n2.faults x.1 le);
  };
  untouched = h.untouched;
  unnoted = λ is done. h.unnoted is;
  taken = h.taken;
}

-- there is nothing to note
pub comes_done : (c : Command) (x : Unit {0}) (i0 i1 : SourceSays) (r0 r1 n0 n1 : SinkSays) (P Q : Type 0)
    → Comes c statuses.Done (streams i0 r0 n0) (streams i1 r1 n1) (AwaitsNote (Ok x)) P Q
    → Comes c statuses.Done (streams i0 r0 n0) (streams i1 r1 n1) IsNotedBehind P (statuses.Done ≡ statuses.Done → Q)
comes_done c x i0 i1 r0 r1 n0 n1 P Q h = record {
  outcome = h.outcome;
  ends = h.ends;
  leaves = leaves_map h.outcome statuses.Done r0 r1 (AwaitsNote (Ok x) n0 n1) (IsNotedBehind n0 n1)
      (λ text note awaits. inl (subst (λ (t : List ℕ). Appends n0 n1 (text ++ t)) (sym awaits.note_is) (subst (Appends n0 n1) (sym (append-nil text)) awaits.gained))) h.leaves;
  causes = record { read = h.causes.read; report = h.causes.report; notes = h.causes.notes };
  untouched = h.untouched;
  unnoted = λ is done. h.unnoted is;
  taken = h.taken;
}

made_some : (outcome : Option Making) (rounds watch : ℕ) (s : Parts) → (o : OutcomeOf) × MakesBy outcome rounds watch None o s
made_some (Some outcome) rounds watch s = (outcome s unseen, made_unseen outcome rounds watch None s)
made_some None rounds watch s = (answer_alone Accepted, (Accepted, tt, refl))

-- memory ran out before the command was known
some_ends : (c : Command) (source : SourceSays) → (o : OutcomeOf) × Ends c source o
some_ends c source = by (work_of c).own refl
  where
    by : (own : Option (ℕ × ℕ)) → (work_of c).own ≡ own → (o : OutcomeOf) × Ends c source o
    by None reads = (note_alone statuses.ReadFault (status_text statuses.ReadFault), ends_unread c source reads)
    by (Some own) is =
        let w = work_of c in
        let (o, made) = made_some w.outcome w.rounds w.watch (demo_of own.0 own.1) in
        (o, subst (λ (own : Option (ℕ × ℕ)). EndsBy own c source o) (sym is) made)

pub memory_comes : (c : Command) (i : SourceSays) (r n0 n1 : SinkSays) (P Q : Type 0) → P → IsNoted n0 n1 (status_text statuses.Memory)
    → Comes c statuses.Memory (streams i r n0) (streams i r n1) IsNotedBehind P (statuses.Memory ≡ statuses.Done → Q)
memory_comes c i r n0 n1 P Q p noted =
    let (o, ends) = some_ends c i in
    comes_early c o i i r n0 n1 IsNotedBehind P (statuses.Memory ≡ statuses.Done → Q) ends (noted_behind n0 n0 n1 [] (status_text statuses.Memory) (nothing_appended n0) (counts_same n0) noted) p (λ is. absurd cc)

-- ---- what follows

pub complete : (c : Command) (status : Status) (before after : Streams) (noted : SinkSays → SinkSays → List ℕ → List ℕ → Type 0) (P Q : Type 0) → Comes c status before after noted P Q → WithoutFault before after
    → IsComplete c before.input status
complete c status before after noted P Q h sound = elim h.leaves [
  | inl whole ↦ inr (h.outcome, h.ends, whole.0, λ is. sound.input (h.causes.read (whole.0 ∙ is)))
  | inr front ↦ elim front.0 [
    | inl report ↦ absurd (sound.report (h.causes.report report).1)
    | inr rest ↦ elim rest [ inl notes ↦ absurd (sound.notes (h.causes.notes notes).1) | inr memory ↦ inl memory ]
  ]
]

pub truth : (c : Command) (source : SourceSays) → IsTrue c source
truth c source s about =
    let scene = by (work_of c).own about in
    (hides_truly s scene (all_are_pieces s scene), (λ counts. lines_hide s (work_of c).rounds (work_of c).watch counts scene), λ frame lt. shows_truly s frame scene)
  where
    by : (own : Option (ℕ × ℕ)) → IsAbout own c source s → IsScene s
    by None has = has.scene
    by (Some own) is = subst (λ (p : Parts). IsScene p) (sym is.1) (demo_is_scene own.0 own.1 is.0)

-- ---- what words ask for

pub asked_by : (words : List Text) (c : Command) (P : Command → Type 0) → command_of words ≡ Some c → P c → IfAsked words P
asked_by words c P e p = subst (λ (o : Option Command). IfSome o P) (sym e) p

pub asked_all : (words : List Text) (P : Command → Type 0) → ((c : Command) → P c) → IfAsked words P
asked_all words P f = by (command_of words)
  where
    by : (o : Option Command) → IfSome o P
    by None = tt
    by (Some q) = f q

pub asked_none : (words : List Text) (P : Command → Type 0) → command_of words ≡ None → IfAsked words P
asked_none words P e = subst (λ (o : Option Command). IfSome o P) (sym e) tt

-- ---- words that are refused

pub comes_as : (c : Command) (status : Status) (before after : Streams) (noted : SinkSays → SinkSays → List ℕ → List ℕ → Type 0) (P Q R : Type 0) → (Q → R) → Comes c status before after noted P Q → Comes c status before after noted P R
comes_as c status before after noted P Q R f h = record {
  outcome = h.outcome;
  ends = h.ends;
  leaves = h.leaves;
  causes = h.causes;
  untouched = h.untouched;
  unnoted = λ is. f (h.unnoted is);
  taken = h.taken;
}

pub refused_comes : (words : List Text) (refusal : Refusal) (status : Status) (i : SourceSays) (r n0 n1 : SinkSays) (P Q : Type 0) → status ≡ refusal_status refusal → (AreWords refusal → command_of words ≡ None)
    → ((AreWords refusal → ⊥) → IsNoted n0 n1 (status_text statuses.Memory)) → P
    → IfAsked words (λ c. Comes c status (streams i r n0) (streams i r n1) IsNotedBehind P (status ≡ statuses.Done → Q))
refused_comes words refusals.Memory status i r n0 n1 P Q is none noted p =
    subst (λ (s : Status). IfAsked words (λ c. Comes c s (streams i r n0) (streams i r n1) IsNotedBehind P (s ≡ statuses.Done → Q))) (sym is)
    (asked_all words (λ c. Comes c statuses.Memory (streams i r n0) (streams i r n1) IsNotedBehind P (statuses.Memory ≡ statuses.Done → Q)) (λ c. memory_comes c i r n0 n1 P Q p (noted (λ are. are))))
refused_comes words (refusals.Words text) status i r n0 n1 P Q is none noted p =
    asked_none words (λ c. Comes c status (streams i r n0) (streams i r n1) IsNotedBehind P (status ≡ statuses.Done → Q)) (none tt)

pub refused_complete : (words : List Text) (refusal : Refusal) (status : Status) (source : SourceSays) → status ≡ refusal_status refusal → (AreWords refusal → command_of words ≡ None)
    → IfAsked words (λ c. IsComplete c source status)
refused_complete words refusals.Memory status source is none = asked_all words (λ c. IsComplete c source status) (λ c. inl is)
refused_complete words (refusals.Words text) status source is none = asked_none words (λ c. IsComplete c source status) (none tt)

pub refused_noted : (refusal : Refusal) (status : Status) (n0 n1 : SinkSays) → status ≡ refusal_status refusal → (AreWords refusal → IsNotedFirst n0 n1 usage_text)
    → ((AreWords refusal → ⊥) → IsNoted n0 n1 (status_text statuses.Memory)) → IsUnasked status n0 n1
refused_noted refusals.Memory status n0 n1 is words memory = inr (is, subst (λ (s : Status). IsNoted n0 n1 (status_text s)) (sym is) (memory (λ are. are)))
refused_noted (refusals.Words text) status n0 n1 is words memory = inl (is, subst (λ (s : Status). IsNotedFirst n0 n1 (status_text s)) (sym is) (words tt))

pub refused_is : (refusal : Refusal) → (refusal_status refusal ≡ statuses.Usage) ⊎ (refusal_status refusal ≡ statuses.Memory)
refused_is refusals.Memory = inr refl
refused_is (refusals.Words text) = inl refl

-- by the status that a failure was told as
pub failed_as : (c : Command) (f : Failure) (status : Status) (before after : Streams) (P Q R : Type 0) → status ≡ status_of f → Comes c (status_of f) before after IsNotedBehind P (status_of f ≡ statuses.Done → Q)
    → Comes c status before after IsNotedBehind P (status ≡ statuses.Done → R)
failed_as c f status before after P Q R is h =
    subst (λ (s : Status). Comes c s before after IsNotedBehind P (s ≡ statuses.Done → R)) (sym is)
    (comes_as c (status_of f) before after IsNotedBehind P (status_of f ≡ statuses.Done → Q) (status_of f ≡ statuses.Done → R) (λ q done. absurd (never_done f done)) h)
