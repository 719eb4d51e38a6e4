-- What follows for a user of `run` from what its command comes to: each lemma has a promise by its short name.
use Rattle.std.proofs.Common.{◌≡◌, ℕ, ◌<◌, ◌++◌, List, [], length, take, Option, Some, None, arith, refl, ap, ◌∙◌, subst, inl, inr}
use Rattle.std.proofs.lemmas.Bool.{cases_lt}
use Rattle.std.proofs.lemmas.List.{append-nil}
use Rattle.cull_base.specs.Stream.{SinkSays, SourceSays, Appends}
use Rattle.scene_reader.specs.Layout.{Parts, layout, upgraded}
use Rattle.cull_report.specs.Hiding.{HidesTruly}
use Rattle.cull_report.specs.Live.{Counts, HidesLive, IsRising, live_text}
use Rattle.cull_report.specs.Scene.{report_text}
use Rattle.cull_report.proofs.Occluders.{hides_truly}
use Rattle.live_check.specs.Logs.{AreGoodLines, IsAccepted, IsJudged}
use Rattle.live_check.specs.declared.answer.LogAnswer.{LogAnswer}
use Rattle.live_check.specs.declared.answer.LogAnswer.TheVariants.{Accepted, Refused}
use Rattle.command_words.specs.declared.table.Command.{Command}
use Rattle.command_words.specs.declared.table.BareCommand.TheVariants.{Upgrade}
use Rattle.command_words.specs.declared.table.Command.TheVariants.{Cull, Live, Demo, Check, Picture, Bare}
use Rattle.command_words.specs.declared.table.CheckWords.{CheckWords}
use Rattle.command_words.specs.declared.table.CullWords.{CullWords}
use Rattle.command_words.specs.declared.table.DemoWords.{DemoWords}
use Rattle.command_words.specs.declared.table.LiveWords.{LiveWords}
use Rattle.command_words.specs.declared.table.PictureWords.{PictureWords}
use Rattle.frame_reports.specs.Notes.{IsNotedBehind}
use Rattle.culling.specs.Outcomes.{EndsByScene, HasScene, IfBytes, Makes, answer_alone, answer_status, answer_text, group_frames, group_notes, live_frames, log_bytes, pictured, work_of}
use Rattle.frame_reports.specs.OutcomeOf.{OutcomeOf, joined, report_of}
use Rattle.culling.specs.Picture.{ShowsTruly, frame_picture}
use Rattle.culling.specs.Promises.{Ran}
use Rattle.frame_reports.specs.Leaves.{IsCut, Leaves, LeavesWhole}
use Rattle.culling.specs.Runs.{Streams}
use Rattle.culling.specs.Summary.{summary_text}
use Rattle.frame_reports.specs.declared.failure.Status.{Status}
use Rattle.frame_reports.specs.declared.failure.Status.TheVariants as statuses
use Rattle.culling.proofs.Comings.{pictured_missing, pictured_there}
use Rattle.culling.proofs.OutcomeTexts.{group_notes_are, live_is, report_is}
use Rattle.frame_reports.proofs.ScenePieces.{all_are_pieces, lines_hide}
use Rattle.culling.proofs.Shown.{shows_truly}

-- ---- by the status

cut_not_done : IsCut statuses.Done → ⊥
cut_not_done cut = elim cut [ inl a ↦ absurd cc | inr rest ↦ elim rest [ inl b ↦ absurd cc | inr c ↦ absurd cc ] ]

done_whole : (o : OutcomeOf) (r0 r1 : SinkSays) (noted : List ℕ → List ℕ → Type 0) → Leaves o statuses.Done r0 r1 noted → (statuses.Done ≡ o.status) × LeavesWhole o r0 r1 noted
done_whole o r0 r1 noted leaves = elim leaves [ inl whole ↦ whole | inr front ↦ absurd (cut_not_done front.0) ]

-- Done comes of a scene
done_scene : (c : Command) (source : SourceSays) (o : OutcomeOf) (made : Parts → Type 0) → EndsByScene c source o made → statuses.Done ≡ o.status → (s : Parts) × HasScene c source s × made s
done_scene c source o made ends is = elim ends [
  | inl scene ↦ scene
  | inr rest ↦ elim rest [
    | inl refused ↦ let (e, refusal, fault, same) = refused in let bad : statuses.Done ≡ statuses.Scene = is ∙ ap (λ (x : OutcomeOf). x.status) same in absurd cc
    | inr unread ↦ let bad : statuses.Done ≡ statuses.ReadFault = is ∙ ap (λ (x : OutcomeOf). x.status) unread in absurd cc
  ]
]

-- the notes' text and no note
noted_exactly : (n0 n1 : SinkSays) (text : List ℕ) → IsNotedBehind n0 n1 text [] → Appends n0 n1 text
noted_exactly n0 n1 text h = elim h [
  | inl whole ↦ subst (Appends n0 n1) (append-nil text) whole
  | inr part ↦ let (n, le, gained, rose) = part in let none : n ≡ 0 = omega (arith, le) in
      subst (Appends n0 n1) (append-nil text) (subst (λ (k : ℕ). Appends n0 n1 (text ++ take k [])) none gained)
]

-- ---- done: the whole report of a scene, and what it calls occluded is hidden, with the line of groups of each frame where boxes are taken in groups;
-- of `live` its live text too; of `demo` the summary, of `upgrade` the layout, and of `picture` the picture of a frame that is there, where what it shows is
-- drawn

pub done_cull : (words : CullWords) (before after : Streams) → Ran (Cull words) statuses.Done before after
    → (s : Parts) × HasScene (Cull words) before.input s × IfBytes before.input (λ bytes. after.input.left ≡ Some []) × Appends before.report after.report (report_text s) × HidesTruly s
    × Appends before.notes after.notes (group_notes s words.group) × (words.group ≡ None → after.notes ≡ before.notes)
done_cull words before after h =
    let r0 = before.report in let r1 = after.report in let n0 = before.notes in let n1 = after.notes in
    let w = done_whole h.outcome r0 r1 (IsNotedBehind n0 n1) h.leaves in
    let (s, has, makes) = done_scene (Cull words) before.input h.outcome (Makes (work_of (Cull words)) before.input.left h.outcome) h.ends w.0 in
    let (counts, rising, is) = makes in
    let notes = group_frames s words.group in
    let noted : IsNotedBehind n0 n1 (joined notes) [] = subst (λ (o : OutcomeOf). IsNotedBehind n0 n1 (joined o.notes) o.note) is w.1.noted_is in (
      s,
      has,
      h.taken refl refl,
      subst (Appends r0 r1) (ap report_of is ∙ report_is s notes) w.1.reported,
      hides_truly s has.scene (all_are_pieces s has.scene),
      subst (Appends n0 n1) (group_notes_are s words.group) (noted_exactly n0 n1 (joined notes) noted),
      (λ none. h.unnoted (ap (λ (o : OutcomeOf). o.notes) is ∙ ap (λ (group : Option ℕ). group_frames s group) none) refl),
    )

pub done_live : (words : LiveWords) (before after : Streams) → Ran (Live words) statuses.Done before after
    → (s : Parts) × HasScene (Live words) before.input s × IfBytes before.input (λ bytes. after.input.left ≡ Some []) × Appends before.report after.report (report_text s) × HidesTruly s
    × ((counts : Counts) × IsRising s words.rounds words.watch counts × Appends before.notes after.notes (live_text s words.rounds words.watch counts) × HidesLive s words.rounds words.watch counts)
done_live words before after h =
    let r0 = before.report in let r1 = after.report in let n0 = before.notes in let n1 = after.notes in
    let w = done_whole h.outcome r0 r1 (IsNotedBehind n0 n1) h.leaves in
    let (s, has, makes) = done_scene (Live words) before.input h.outcome (Makes (work_of (Live words)) before.input.left h.outcome) h.ends w.0 in
    let (counts, rising, is) = makes in
    let notes = live_frames s words.rounds words.watch counts in
    let noted : IsNotedBehind n0 n1 (joined notes) [] = subst (λ (o : OutcomeOf). IsNotedBehind n0 n1 (joined o.notes) o.note) is w.1.noted_is in (
      s,
      has,
      h.taken refl refl,
      subst (Appends r0 r1) (ap report_of is ∙ report_is s notes) w.1.reported,
      hides_truly s has.scene (all_are_pieces s has.scene),
      (counts, rising, subst (Appends n0 n1) (live_is s words.rounds words.watch counts) (noted_exactly n0 n1 (joined notes) noted), lines_hide s words.rounds words.watch counts has.scene),
    )

pub done_demo : (words : DemoWords) (before after : Streams) → Ran (Demo words) statuses.Done before after
    → Appends before.report after.report (summary_text words.seed words.triangles) × (after.notes ≡ before.notes)
done_demo words before after h =
    let w = done_whole h.outcome before.report after.report (IsNotedBehind before.notes after.notes) h.leaves in
    let (counts, rising, is) = h.ends in (
      subst (Appends before.report after.report) (ap report_of is ∙ append-nil (summary_text words.seed words.triangles)) w.1.reported,
      h.unnoted (ap (λ (o : OutcomeOf). o.notes) is) refl,
    )

pub done_upgrade : (before after : Streams) → Ran (Bare Upgrade) statuses.Done before after
    → (s : Parts) × HasScene (Bare Upgrade) before.input s × IfBytes before.input (λ bytes. after.input.left ≡ Some []) × Appends before.report after.report (layout (upgraded s)) × (after.notes ≡ before.notes)
done_upgrade before after h =
    let w = done_whole h.outcome before.report after.report (IsNotedBehind before.notes after.notes) h.leaves in
    let (s, has, makes) = done_scene (Bare Upgrade) before.input h.outcome (Makes (work_of (Bare Upgrade)) before.input.left h.outcome) h.ends w.0 in
    let (counts, rising, is) = makes in
    let text = ap report_of is ∙ append-nil (layout (upgraded s)) in
    (s, has, h.taken refl refl, subst (Appends before.report after.report) text w.1.reported, h.unnoted (ap (λ (o : OutcomeOf). o.notes) is) refl)

-- the frame is there
done_there : (s : Parts) (frame : ℕ) → statuses.Done ≡ (pictured s frame).status → frame < length s.cameras
done_there s frame done = elim (cases_lt frame (length s.cameras)) [
  | inl lt ↦ lt
  | inr past ↦ let bad : statuses.Done ≡ statuses.Frame = done ∙ ap (λ (x : OutcomeOf). x.status) (pictured_missing s frame past) in absurd cc
]

pub done_picture : (words : PictureWords) (before after : Streams) → Ran (Picture words) statuses.Done before after
    → (s : Parts) × HasScene (Picture words) before.input s × IfBytes before.input (λ bytes. after.input.left ≡ Some []) × (words.frame < length s.cameras)
    × Appends before.report after.report (frame_picture s words.frame) × ShowsTruly s words.frame × (after.notes ≡ before.notes)
done_picture words before after h =
    let w = done_whole h.outcome before.report after.report (IsNotedBehind before.notes after.notes) h.leaves in
    let (s, has, makes) = done_scene (Picture words) before.input h.outcome (Makes (work_of (Picture words)) before.input.left h.outcome) h.ends w.0 in
    let (counts, rising, is) = makes in
    let lt = done_there s words.frame (w.0 ∙ ap (λ (x : OutcomeOf). x.status) is) in
    let same = is ∙ pictured_there s words.frame lt in
    let text = ap report_of same ∙ append-nil (frame_picture s words.frame) in (
      s,
      has,
      h.taken refl refl,
      lt,
      subst (Appends before.report after.report) text w.1.reported,
      shows_truly s words.frame has.scene,
      h.unnoted (ap (λ (o : OutcomeOf). o.notes) same) refl,
    )

-- ---- `check`: Done with an accepted log, Log with one that isn't, and exactly its line stands

-- the status is an answer's
answer_of : (words : CheckWords) (source : SourceSays) (o : OutcomeOf) (status : Status) → EndsByScene (Check words) source o (Makes (work_of (Check words)) source.left o) → status ≡ o.status
    → (status ≡ statuses.Scene → ⊥) → (status ≡ statuses.ReadFault → ⊥)
    → (s : Parts) × HasScene (Check words) source s × Makes (work_of (Check words)) source.left o s
answer_of words source o status ends is not_scene not_read = elim ends [
  | inl made ↦ made
  | inr rest ↦ elim rest [
    | inl refused ↦ let (e, refusal, fault, same) = refused in absurd (not_scene (is ∙ ap (λ (x : OutcomeOf). x.status) same))
    | inr unread ↦ absurd (not_read (is ∙ ap (λ (x : OutcomeOf). x.status) unread))
  ]
]

pub done_check : (words : CheckWords) (before after : Streams) → Ran (Check words) statuses.Done before after
    → (s : Parts) × HasScene (Check words) before.input s × IfBytes before.input (λ bytes. IsAccepted s words.rounds words.watch (log_bytes bytes))
    × IfBytes before.input (λ bytes. after.input.left ≡ Some []) × Appends before.report after.report (answer_text Accepted) × (after.notes ≡ before.notes)
done_check words before after h =
    let w = done_whole h.outcome before.report after.report (IsNotedBehind before.notes after.notes) h.leaves in
    let (s, has, made) = answer_of words before.input h.outcome statuses.Done h.ends w.0 (λ is. absurd cc) (λ is. absurd cc) in
    let (answer, judged, is) = made in
    by answer s has judged is (w.0 ∙ ap (λ (x : OutcomeOf). x.status) is) w.1.reported
  where
    by : (answer : LogAnswer) (s : Parts) → HasScene (Check words) before.input s → IfBytes before.input (λ bytes. IsJudged s words.rounds words.watch (log_bytes bytes) answer) → h.outcome ≡ answer_alone answer
        → statuses.Done ≡ answer_status answer → Appends before.report after.report (report_of h.outcome)
        → (s : Parts) × HasScene (Check words) before.input s × IfBytes before.input (λ bytes. IsAccepted s words.rounds words.watch (log_bytes bytes))
        × IfBytes before.input (λ bytes. after.input.left ≡ Some []) × Appends before.report after.report (answer_text Accepted) × (after.notes ≡ before.notes)
    by Accepted s has judged is done reported =
        let text = ap report_of is ∙ append-nil (answer_text Accepted) in
        (s, has, judged, h.taken refl refl, subst (Appends before.report after.report) text reported, h.unnoted (ap (λ (o : OutcomeOf). o.notes) is) refl)
    by (Refused n) s has judged is done reported = absurd cc

-- the log isn't accepted, its good lines are told, and nothing is noted
pub log_check : (words : CheckWords) (before after : Streams) → Ran (Check words) statuses.Log before after
    → (s : Parts) × HasScene (Check words) before.input s
    × ((n : ℕ) × IfBytes before.input (λ bytes. (IsAccepted s words.rounds words.watch (log_bytes bytes) → ⊥) × AreGoodLines s words.rounds words.watch (log_bytes bytes) n)
    × Appends before.report after.report (answer_text (Refused n)) × Appends before.notes after.notes [])
log_check words before after h =
    let w = log_whole h.outcome before.report after.report (IsNotedBehind before.notes after.notes) h.leaves in
    let (s, has, made) = answer_of words before.input h.outcome statuses.Log h.ends w.0 (λ is. absurd cc) (λ is. absurd cc) in
    let (answer, judged, is) = made in
    by answer s has judged is (w.0 ∙ ap (λ (x : OutcomeOf). x.status) is) w.1.reported w.1.noted_is
  where
    log_not_cut : IsCut statuses.Log → ⊥
    log_not_cut cut = elim cut [ inl a ↦ absurd cc | inr rest ↦ elim rest [ inl b ↦ absurd cc | inr c ↦ absurd cc ] ]

    log_whole : (o : OutcomeOf) (r0 r1 : SinkSays) (noted : List ℕ → List ℕ → Type 0) → Leaves o statuses.Log r0 r1 noted → (statuses.Log ≡ o.status) × LeavesWhole o r0 r1 noted
    log_whole o r0 r1 noted leaves = elim leaves [ inl whole ↦ whole | inr front ↦ absurd (log_not_cut front.0) ]

    by : (answer : LogAnswer) (s : Parts) → HasScene (Check words) before.input s → IfBytes before.input (λ bytes. IsJudged s words.rounds words.watch (log_bytes bytes) answer) → h.outcome ≡ answer_alone answer
        → statuses.Log ≡ answer_status answer → Appends before.report after.report (report_of h.outcome) → IsNotedBehind before.notes after.notes (joined h.outcome.notes) h.outcome.note
        → (s : Parts) × HasScene (Check words) before.input s
        × ((n : ℕ) × IfBytes before.input (λ bytes. (IsAccepted s words.rounds words.watch (log_bytes bytes) → ⊥) × AreGoodLines s words.rounds words.watch (log_bytes bytes) n)
        × Appends before.report after.report (answer_text (Refused n)) × Appends before.notes after.notes [])
    by Accepted s has judged is log reported noted = absurd cc
    by (Refused n) s has judged is log reported noted =
        let quiet : IsNotedBehind before.notes after.notes [] [] = subst (λ (o : OutcomeOf). IsNotedBehind before.notes after.notes (joined o.notes) o.note) is noted in
        (s, has, (n, judged, subst (Appends before.report after.report) (ap report_of is ∙ append-nil (answer_text (Refused n))) reported, noted_exactly before.notes after.notes [] quiet))
