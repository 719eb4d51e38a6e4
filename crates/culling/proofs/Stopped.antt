-- What is left of an outcome where a sink failed or memory ran out: beginnings of its texts.
use Rattle.std.proofs.Common.{◌≡◌, ◌⊎◌, ℕ, zero, suc, ◌+◌, ◌<◌, ◌≤◌, ◌++◌, List, [], ◌∷◌, length, map, take, drop, Option, Some, None, arith, refl, sym, ap, ◌∙◌, subst, inl, inr}
use Rattle.std.specs.Prelude.{slice_index_or}
use Rattle.std.specs.List.{flat_map, range_with_len}
use Rattle.std.proofs.lemmas.Bool.{cases_lt}
use Rattle.std.proofs.lemmas.List.{append-nil, length-append, take-append-drop, take-append-le}
use Rattle.std.proofs.lemmas.List.FromFn.{get_or-map-range_with_len, length-map-range_with_len, take-map-range_with_len}
use Rattle.std.proofs.Math.Seq.{take-append-add}
use Rattle.cull_base.specs.Stream.{SinkSays, SourceSays, Appends, Rose}
use Rattle.scene_reader.specs.Layout.{Parts, IsScene, layout, upgraded}
use Rattle.cull_report.specs.Hiding.{HidesTruly}
use Rattle.cull_report.specs.Live.{Counts, HidesLive, IsRising, frame_live, live_text}
use Rattle.cull_report.specs.Scene.{frame_report, frames_text, report_text, scene_header}
use Rattle.cull_report.proofs.Occluders.{hides_truly}
use Rattle.group_query.specs.Text.{frame_groups}
use Rattle.live_check.specs.Logs.{IsJudged}
use Rattle.live_check.specs.declared.answer.LogAnswer.{LogAnswer}
use Rattle.live_check.specs.declared.answer.LogAnswer.TheVariants.{Accepted, Refused}
use Rattle.command_words.specs.declared.table.Command.{Command}
use Rattle.command_words.specs.declared.table.BareCommand.TheVariants.{Upgrade}
use Rattle.command_words.specs.declared.table.Command.TheVariants.{Cull, Live, Demo, Check, Picture, Bare}
use Rattle.command_words.specs.declared.table.CheckWords.{CheckWords}
use Rattle.command_words.specs.declared.table.CullWords.{CullWords}
use Rattle.command_words.specs.declared.table.DemoWords.{DemoWords}
use Rattle.command_words.specs.declared.table.LiveWords.{LiveWords}
use Rattle.command_words.specs.declared.table.PictureWords.{PictureWords}
use Rattle.frame_reports.specs.Notes.{IsNotedBehind, status_text}
use Rattle.culling.specs.Outcomes.{Ends, EndsByScene, HasScene, IfBytes, Makes, answer_status, answer_text, group_frames, group_notes, live_frames, log_bytes, pictured, report_and, work_of}
use Rattle.frame_reports.specs.OutcomeOf.{OutcomeOf, joined, report_before, report_of}
use Rattle.culling.specs.Picture.{ShowsTruly, frame_picture}
use Rattle.culling.specs.Promises.{LeavesFronts, LeavesMemory, Ran, StopsAtNotes}
use Rattle.culling.specs.Runs.{Comes, Streams}
use Rattle.frame_reports.specs.Leaves.{IsCut, LeavesFront}
use Rattle.culling.specs.Summary.{summary_text}
use Rattle.frame_reports.specs.declared.failure.Status.{Status}
use Rattle.frame_reports.specs.declared.failure.Status.TheVariants as statuses
use Rattle.culling.proofs.Comings.{pictured_missing, pictured_there}
use Rattle.frame_reports.proofs.FrameTexts.{joined-append, report_add}
use Rattle.frame_reports.proofs.Fronts.{front_of_more}
use Rattle.culling.proofs.OutcomeTexts.{group_notes_are, joined_is, live_is, report_is}
use Rattle.frame_reports.proofs.ScenePieces.{all_are_pieces, lines_hide}
use Rattle.culling.proofs.Shown.{shows_truly}

-- ---- beginnings of texts

-- behind the first texts comes the next, if there is one
begins : (texts : List (List ℕ)) (k : ℕ) → (rest : List ℕ) × (joined (drop k texts) ≡ slice_index_or texts k [] ++ rest)
begins [] zero = ([], refl)
begins [] (suc k) = ([], refl)
begins (t ∷ ts) zero = (joined ts, refl)
begins (t ∷ ts) (suc k) = begins ts k

-- the first texts with a beginning of the next are a beginning of all
begun : (texts : List (List ℕ)) (k size : ℕ) → size ≤ length (slice_index_or texts k [])
    → (n : ℕ) × (n ≤ length (joined texts)) × (joined (take k texts) ++ take size (slice_index_or texts k []) ≡ take n (joined texts))
begun texts k size le =
    let a = joined (take k texts) in let b = slice_index_or texts k [] in
    let (rest, next) = begins texts k in
    let whole : joined texts ≡ a ++ (b ++ rest) = ap joined (sym (take-append-drop k texts)) ∙ joined-append (take k texts) (drop k texts) ∙ ap (λ (t : List ℕ). a ++ t) next in
    let part : take (length a + size) (a ++ (b ++ rest)) ≡ a ++ take size b = take-append-add a (b ++ rest) size ∙ ap (λ (t : List ℕ). a ++ t) (take-append-le size b rest le) in (
      length a + size,
      omega (arith, le, ap length whole, length-append a (b ++ rest), length-append b rest),
      sym (ap (take (length a + size)) whole ∙ part),
    )

-- the report before a frame is a beginning of all
report_more : (o : OutcomeOf) (k : ℕ) → report_of o ≡ report_before o k ++ joined (drop k o.frames)
report_more o k = ap (λ (texts : List (List ℕ)). o.head ++ joined texts) (sym (take-append-drop k o.frames)) ∙ report_add o.head (take k o.frames) (drop k o.frames)

fronts_left : (o : OutcomeOf) (status : Status) (before after : Streams) → LeavesFront o status before.report after.report (IsNotedBehind before.notes after.notes)
    → LeavesFronts status before after (report_of o) (joined o.notes)
fronts_left o status before after w =
    let r0 = before.report in let r1 = after.report in let n0 = before.notes in let n1 = after.notes in
    let (n, le, is) = begun o.notes w.frame w.size w.within in
    record {
      reported = rw (report_more o (w.frame + 1)) (front_of_more r0 r1 (report_before o (w.frame + 1)) (joined (drop (w.frame + 1) o.frames)) w.reported);
      size = n;
      within = le;
      noted = subst (λ (t : List ℕ). IsNotedBehind n0 n1 t (status_text status)) is w.noted_is;
    }

-- ---- no outcome has the status of a cut

pub done_uncut : IsCut statuses.Done → ⊥
done_uncut cut = elim cut [ inl a ↦ absurd cc | inr rest ↦ elim rest [ inl b ↦ absurd cc | inr c ↦ absurd cc ] ]

pub scene_uncut : IsCut statuses.Scene → ⊥
scene_uncut cut = elim cut [ inl a ↦ absurd cc | inr rest ↦ elim rest [ inl b ↦ absurd cc | inr c ↦ absurd cc ] ]

pub unread_uncut : IsCut statuses.ReadFault → ⊥
unread_uncut cut = elim cut [ inl a ↦ absurd cc | inr rest ↦ elim rest [ inl b ↦ absurd cc | inr c ↦ absurd cc ] ]

pub log_uncut : IsCut statuses.Log → ⊥
log_uncut cut = elim cut [ inl a ↦ absurd cc | inr rest ↦ elim rest [ inl b ↦ absurd cc | inr c ↦ absurd cc ] ]

pub missing_uncut : IsCut statuses.Frame → ⊥
missing_uncut cut = elim cut [ inl a ↦ absurd cc | inr rest ↦ elim rest [ inl b ↦ absurd cc | inr c ↦ absurd cc ] ]

-- by an equation of outcomes
uncut_as : (o p : OutcomeOf) → o ≡ p → (IsCut p.status → ⊥) → IsCut o.status → ⊥
uncut_as o p same uncut cut = uncut (subst (λ (x : OutcomeOf). IsCut x.status) same cut)

by_scene_uncut : (c : Command) (source : SourceSays) (o : OutcomeOf) (made : Parts → Type 0) → ((s : Parts) → made s → IsCut o.status → ⊥) → EndsByScene c source o made → IsCut o.status → ⊥
by_scene_uncut c source o made uncut ends cut = elim ends [
  | inl scene ↦ uncut scene.0 scene.2 cut
  | inr rest ↦ elim rest [
    | inl refused ↦ let (e, refusal, fault, same) = refused in scene_uncut (subst (λ (x : OutcomeOf). IsCut x.status) same cut)
    | inr unread ↦ unread_uncut (subst (λ (x : OutcomeOf). IsCut x.status) unread cut)
  ]
]

answer_uncut : (answer : LogAnswer) → IsCut (answer_status answer) → ⊥
answer_uncut Accepted cut = done_uncut cut
answer_uncut (Refused n) cut = log_uncut cut

pictured_uncut : (s : Parts) (frame : ℕ) → IsCut (pictured s frame).status → ⊥
pictured_uncut s frame cut = elim (cases_lt frame (length s.cameras)) [
  | inl lt ↦ done_uncut (subst (λ (x : OutcomeOf). IsCut x.status) (pictured_there s frame lt) cut)
  | inr past ↦ missing_uncut (subst (λ (x : OutcomeOf). IsCut x.status) (pictured_missing s frame past) cut)
]

never_cut : (c : Command) (source : SourceSays) (o : OutcomeOf) → Ends c source o → IsCut o.status → ⊥
never_cut (Cull words) source o ends =
    by_scene_uncut (Cull words) source o (Makes (work_of (Cull words)) source.left o) (λ s made. uncut_as o _ made.2 done_uncut) ends
never_cut (Live words) source o ends =
    by_scene_uncut (Live words) source o (Makes (work_of (Live words)) source.left o) (λ s made. uncut_as o _ made.2 done_uncut) ends
never_cut (Demo words) source o ends = uncut_as o _ ends.2 done_uncut
never_cut (Check words) source o ends =
    by_scene_uncut (Check words) source o (Makes (work_of (Check words)) source.left o) (λ s made. uncut_as o _ made.2 (answer_uncut made.0)) ends
never_cut (Picture words) source o ends =
    by_scene_uncut (Picture words) source o (Makes (work_of (Picture words)) source.left o) (λ s made. uncut_as o _ made.2 (pictured_uncut s words.frame)) ends
never_cut (Bare Upgrade) source o ends =
    by_scene_uncut (Bare Upgrade) source o (Makes (work_of (Bare Upgrade)) source.left o) (λ s made. uncut_as o _ made.2 done_uncut) ends

-- ---- a front of whatever a command comes to

front_of : (c : Command) (status : Status) (before after : Streams) (P Q : Type 0) (h : Comes c status before after IsNotedBehind P Q) → IsCut status
    → LeavesFront h.outcome status before.report after.report (IsNotedBehind before.notes after.notes)
front_of c status before after P Q h cut = elim h.leaves [
  | inl whole ↦ absurd (never_cut c before.input h.outcome h.ends (subst IsCut whole.0 cut))
  | inr front ↦ front.1
]

fronts_of : (c : Command) (status : Status) (before after : Streams) (P Q : Type 0) (h : Comes c status before after IsNotedBehind P Q) → IsCut status
    → LeavesFronts status before after (report_of h.outcome) (joined h.outcome.notes)
fronts_of c status before after P Q h cut = fronts_left h.outcome status before after (front_of c status before after P Q h cut)

pub cut_any : (c : Command) (status : Status) (before after : Streams) → IsCut status → Ran c status before after
    → (o : OutcomeOf) × Ends c before.input o × LeavesFronts status before after (report_of o) (joined o.notes)
cut_any c status before after cut h = (h.outcome, h.ends, fronts_of c status before after _ _ h cut)

pub cut_report : (c : Command) (before after : Streams) → Ran c statuses.ReportFault before after
    → (o : OutcomeOf) × Ends c before.input o × (report_of o ≡ [] → ⊥) × Rose before.report.faults after.report.faults
    × LeavesFronts statuses.ReportFault before after (report_of o) (joined o.notes)
cut_report c before after h =
    let cause = h.causes.report refl in (h.outcome, h.ends, cause.0, cause.1, fronts_of c statuses.ReportFault before after _ _ h (inl refl))

pub cut_notes : (c : Command) (before after : Streams) → Ran c statuses.NotesFault before after
    → (o : OutcomeOf) × Ends c before.input o × (o.notes ≡ [] → ⊥) × Rose before.notes.faults after.notes.faults
    × LeavesFronts statuses.NotesFault before after (report_of o) (joined o.notes)
cut_notes c before after h =
    let cause = h.causes.notes refl in (h.outcome, h.ends, cause.0, cause.1, fronts_of c statuses.NotesFault before after _ _ h (inr (inl refl)))

-- ---- of a scene's report, or no text at all

-- an outcome without texts: memory ran out, and its note stands alone
take_none : (k : ℕ) (t : List ℕ) → t ≡ [] → take k t ≡ []
take_none zero t is = refl
take_none (suc k) t is = ap (take (suc k)) is

pub note_left : (c : Command) (status : Status) (before after : Streams) (h : Ran c status before after) → IsCut status → report_of h.outcome ≡ [] → h.outcome.notes ≡ []
    → LeavesMemory status before after
note_left c status before after h cut no_report no_notes =
    let f = fronts_of c status before after _ _ h cut in
    let memory : status ≡ statuses.Memory = elim cut [
      | inl report ↦ absurd ((h.causes.report report).0 no_report)
      | inr rest ↦ elim rest [ inl notes ↦ absurd ((h.causes.notes notes).0 no_notes) | inr memory ↦ memory ]
    ] in
    let noted : IsNotedBehind before.notes after.notes [] (status_text status) =
    subst (λ (t : List ℕ). IsNotedBehind before.notes after.notes t (status_text status)) (take_none f.size (joined h.outcome.notes) (ap joined no_notes)) f.noted in
    record {
      is_told = memory;
      report = h.untouched no_report;
      noted = subst (λ (x : Status). IsNotedBehind before.notes after.notes [] (status_text x)) memory noted;
    }

-- what is left of an outcome is left of another with the same texts
fronts_as : (status : Status) (before after : Streams) (report report' notes notes' : List ℕ) → report ≡ report' → notes ≡ notes' → LeavesFronts status before after report notes
    → LeavesFronts status before after report' notes'
fronts_as status before after report report' notes notes' same same' f =
    subst (λ (t : List ℕ). LeavesFronts status before after report' t) same' (subst (λ (t : List ℕ). LeavesFronts status before after t notes) same f)

-- by what the input says: a scene, or no text
cut_by_scene : (c : Command) (status : Status) (before after : Streams) (h : Ran c status before after) (made : Parts → Type 0) → IsCut status → EndsByScene c before.input h.outcome made
    → ((s : Parts) × HasScene c before.input s × made s) ⊎ LeavesMemory status before after
cut_by_scene c status before after h made cut ends = elim ends [
  | inl scene ↦ inl scene
  | inr rest ↦ elim rest [
    | inl refused ↦
        let (e, refusal, fault, same) = refused in
        inr (note_left c status before after h cut (ap report_of same) (ap (λ (x : OutcomeOf). x.notes) same))
    | inr unread ↦ inr (note_left c status before after h cut (ap report_of unread) (ap (λ (x : OutcomeOf). x.notes) unread))
  ]
]

pub cut_cull : (words : CullWords) (status : Status) (before after : Streams) → IsCut status → Ran (Cull words) status before after
    → ((s : Parts) × HasScene (Cull words) before.input s × HidesTruly s × LeavesFronts status before after (report_text s) (group_notes s words.group))
    ⊎ LeavesMemory status before after
cut_cull words status before after cut h =
    elim (cut_by_scene (Cull words) status before after h (Makes (work_of (Cull words)) before.input.left h.outcome) cut h.ends) [
      | inl scene ↦
          let (s, has, makes) = scene in
          let (counts, rising, is) = makes in
          let notes = group_frames s words.group in
          inl (
            s,
            has,
            hides_truly s has.scene (all_are_pieces s has.scene),
            fronts_as status before after (report_of h.outcome) (report_text s) (joined h.outcome.notes) (group_notes s words.group) (ap report_of is ∙ report_is s notes)
                (ap (λ (o : OutcomeOf). joined o.notes) is ∙ group_notes_are s words.group) (fronts_of (Cull words) status before after _ _ h cut),
          )
      | inr note ↦ inr note
    ]

pub cut_live : (words : LiveWords) (status : Status) (before after : Streams) → IsCut status → Ran (Live words) status before after
    → ((s : Parts) × HasScene (Live words) before.input s × HidesTruly s
    × ((counts : Counts) × IsRising s words.rounds words.watch counts × HidesLive s words.rounds words.watch counts
    × LeavesFronts status before after (report_text s) (live_text s words.rounds words.watch counts)))
    ⊎ LeavesMemory status before after
cut_live words status before after cut h =
    elim (cut_by_scene (Live words) status before after h (Makes (work_of (Live words)) before.input.left h.outcome) cut h.ends) [
      | inl scene ↦
          let (s, has, makes) = scene in
          let (counts, rising, is) = makes in
          let notes = live_frames s words.rounds words.watch counts in
          inl (
            s,
            has,
            hides_truly s has.scene (all_are_pieces s has.scene),
            (
              counts,
              rising,
              lines_hide s words.rounds words.watch counts has.scene,
              fronts_as status before after (report_of h.outcome) (report_text s) (joined h.outcome.notes) (live_text s words.rounds words.watch counts) (ap report_of is ∙ report_is s notes)
                  (ap (λ (o : OutcomeOf). joined o.notes) is ∙ live_is s words.rounds words.watch counts) (fronts_of (Live words) status before after _ _ h cut),
            ),
          )
      | inr note ↦ inr note
    ]

pub cut_demo : (words : DemoWords) (status : Status) (before after : Streams) → IsCut status → Ran (Demo words) status before after
    → LeavesFronts status before after (summary_text words.seed words.triangles) []
cut_demo words status before after cut h =
    let (counts, rising, is) = h.ends in
    fronts_as status before after (report_of h.outcome) (summary_text words.seed words.triangles) (joined h.outcome.notes) [] (ap report_of is ∙ append-nil (summary_text words.seed words.triangles))
    (ap (λ (o : OutcomeOf). joined o.notes) is) (fronts_of (Demo words) status before after _ _ h cut)

pub cut_upgrade : (status : Status) (before after : Streams) → IsCut status → Ran (Bare Upgrade) status before after
    → ((s : Parts) × HasScene (Bare Upgrade) before.input s × LeavesFronts status before after (layout (upgraded s)) []) ⊎ LeavesMemory status before after
cut_upgrade status before after cut h =
    elim (cut_by_scene (Bare Upgrade) status before after h (Makes (work_of (Bare Upgrade)) before.input.left h.outcome) cut h.ends) [
      | inl scene ↦
          let (s, has, makes) = scene in
          let (counts, rising, is) = makes in
          let text = ap report_of is ∙ append-nil (layout (upgraded s)) in
          inl (
            s,
            has,
            fronts_as status before after (report_of h.outcome) (layout (upgraded s)) (joined h.outcome.notes) [] text (ap (λ (o : OutcomeOf). joined o.notes) is)
                (fronts_of (Bare Upgrade) status before after _ _ h cut),
          )
      | inr note ↦ inr note
    ]

pub cut_picture : (words : PictureWords) (status : Status) (before after : Streams) → IsCut status → Ran (Picture words) status before after
    → ((s : Parts) × HasScene (Picture words) before.input s × (words.frame < length s.cameras) × ShowsTruly s words.frame
    × LeavesFronts status before after (frame_picture s words.frame) [])
    ⊎ LeavesMemory status before after
cut_picture words status before after cut h =
    elim (cut_by_scene (Picture words) status before after h (Makes (work_of (Picture words)) before.input.left h.outcome) cut h.ends) [
      | inl scene ↦
          let (s, has, makes) = scene in
          let (counts, rising, is) = makes in
          elim (cases_lt words.frame (length s.cameras)) [
            | inl lt ↦
                let same = is ∙ pictured_there s words.frame lt in
                let text = ap report_of same ∙ append-nil (frame_picture s words.frame) in
                inl (
                  s,
                  has,
                  lt,
                  shows_truly s words.frame has.scene,
                  fronts_as status before after (report_of h.outcome) (frame_picture s words.frame) (joined h.outcome.notes) [] text (ap (λ (o : OutcomeOf). joined o.notes) same)
                      (fronts_of (Picture words) status before after _ _ h cut),
                )
            | inr past ↦
                let same = is ∙ pictured_missing s words.frame past in
                inr (note_left (Picture words) status before after h cut (ap report_of same) (ap (λ (o : OutcomeOf). o.notes) same))
          ]
      | inr note ↦ inr note
    ]

pub cut_check : (words : CheckWords) (status : Status) (before after : Streams) → IsCut status → Ran (Check words) status before after
    → ((s : Parts) × HasScene (Check words) before.input s
    × ((answer : LogAnswer) × IfBytes before.input (λ bytes. IsJudged s words.rounds words.watch (log_bytes bytes) answer)
    × LeavesFronts status before after (answer_text answer) []))
    ⊎ LeavesMemory status before after
cut_check words status before after cut h =
    elim (cut_by_scene (Check words) status before after h (Makes (work_of (Check words)) before.input.left h.outcome) cut h.ends) [
      | inl scene ↦
          let (s, has, makes) = scene in
          let (answer, judged, is) = makes in
          let text = ap report_of is ∙ append-nil (answer_text answer) in
          inl (
            s,
            has,
            (
              answer,
              judged,
              fronts_as status before after (report_of h.outcome) (answer_text answer) (joined h.outcome.notes) [] text (ap (λ (o : OutcomeOf). joined o.notes) is)
                  (fronts_of (Check words) status before after _ _ h cut),
            ),
          )
      | inr note ↦ inr note
    ]

-- ---- stopped by the notes

-- of a text for each frame those of the first, and one
first_texts : (f : ℕ → List ℕ) (n k : ℕ) → k ≤ n → joined (take k (map f (range_with_len 0 n))) ≡ flat_map f (range_with_len 0 k)
first_texts f n k le = ap joined (take-map-range_with_len f 0 n k le) ∙ joined_is f k

text_at : (f : ℕ → List ℕ) (n k : ℕ) → k < n → slice_index_or (map f (range_with_len 0 n)) k [] ≡ f k
text_at f n k lt = get_or-map-range_with_len f 0 n k k [] lt (omega arith)

-- the header and the frames before a place
report_upto : (s : Parts) (notes : List (List ℕ)) (k : ℕ) → k ≤ length s.cameras → report_before (report_and s notes) k ≡ scene_header s ++ frames_text s k
unfolding frames_text
report_upto s notes k le = ap (λ (t : List ℕ). scene_header s ++ t) (first_texts (frame_report s) (length s.cameras) k le)

-- the notes' text and no note
noted_alone : (n0 n1 : SinkSays) (text : List ℕ) → IsNotedBehind n0 n1 text [] → Appends n0 n1 text
noted_alone n0 n1 text h = elim h [
  | inl whole ↦ subst (Appends n0 n1) (append-nil text) whole
  | inr part ↦ let (n, le, gained, rose) = part in let none : n ≡ 0 = omega (arith, le) in
      subst (Appends n0 n1) (append-nil text) (subst (λ (k : ℕ). Appends n0 n1 (text ++ take k [])) none gained)
]

stops : (s : Parts) (lines : ℕ → List ℕ) (o : OutcomeOf) (before after : Streams) → IsScene s → o ≡ report_and s (map lines (range_with_len 0 (length s.cameras)))
    → Rose before.notes.faults after.notes.faults → LeavesFront o statuses.NotesFault before.report after.report (IsNotedBehind before.notes after.notes) → StopsAtNotes s lines before after
stops s lines o before after scene is rose front =
    let r0 = before.report in let r1 = after.report in let n0 = before.notes in let n1 = after.notes in
    let frames = length s.cameras in
    let notes = map lines (range_with_len 0 frames) in
    let w : LeavesFront (report_and s notes) statuses.NotesFault r0 r1 (IsNotedBehind n0 n1) =
    subst (λ (p : OutcomeOf). LeavesFront p statuses.NotesFault r0 r1 (IsNotedBehind n0 n1)) is front in
    let so_many = length-map-range_with_len (frame_report s) 0 frames in
    let lt : w.frame < frames = omega (arith, so_many, scene.some_frames, w.is_frame (omega (arith, so_many, scene.some_frames))) in
    let le : w.frame + 1 ≤ frames = omega (arith, lt) in
    let at = text_at lines frames w.frame lt in
    let upto = first_texts lines frames w.frame (omega (arith, lt)) in
    let stopped = w.of_notes refl in
    let told : joined (take w.frame notes) ++ take w.size (slice_index_or notes w.frame []) ≡ flat_map lines (range_with_len 0 w.frame) ++ take w.size (lines w.frame) =
    ap (λ (t : List ℕ). t ++ take w.size (slice_index_or notes w.frame [])) upto ∙ ap (λ (t : List ℕ). flat_map lines (range_with_len 0 w.frame) ++ take w.size t) at in
    record {
      frame = w.frame;
      below = lt;
      reported = subst (Appends r0 r1) (report_upto s notes (w.frame + 1) le) stopped.0;
      size = w.size;
      less = subst (λ (t : List ℕ). w.size < length t) at stopped.1;
      noted = subst (Appends n0 n1) told (noted_alone n0 n1 (joined (take w.frame notes) ++ take w.size (slice_index_or notes w.frame [])) w.noted_is);
      rose = rose;
    }

-- it isn't out of memory
not_memory : (before after : Streams) → LeavesMemory statuses.NotesFault before after → ⊥
not_memory before after note = let bad : statuses.NotesFault ≡ statuses.Memory = note.is_told in absurd cc

pub stopped_live : (words : LiveWords) (before after : Streams) → Ran (Live words) statuses.NotesFault before after
    → (s : Parts) × HasScene (Live words) before.input s × HidesTruly s
    × ((counts : Counts) × IsRising s words.rounds words.watch counts × HidesLive s words.rounds words.watch counts
    × StopsAtNotes s (λ frame. frame_live s words.rounds words.watch (counts frame) frame) before after)
stopped_live words before after h =
    let cut : IsCut statuses.NotesFault = inr (inl refl) in
    elim (cut_by_scene (Live words) statuses.NotesFault before after h (Makes (work_of (Live words)) before.input.left h.outcome) cut h.ends) [
      | inl scene ↦
          let (s, has, makes) = scene in
          let (counts, rising, is) = makes in (
            s,
            has,
            hides_truly s has.scene (all_are_pieces s has.scene),
            (
              counts,
              rising,
              lines_hide s words.rounds words.watch counts has.scene,
              stops s (λ frame. frame_live s words.rounds words.watch (counts frame) frame) h.outcome before after has.scene is (h.causes.notes refl).1
                  (front_of (Live words) statuses.NotesFault before after _ _ h cut),
            ),
          )
      | inr note ↦ absurd (not_memory before after note)
    ]

-- boxes were taken in groups
some_groups : (s : Parts) (group : Option ℕ) (notes : List (List ℕ)) → notes ≡ group_frames s group → (notes ≡ [] → ⊥) → (most : ℕ) × (group ≡ Some most)
some_groups s None notes is some = absurd (some is)
some_groups s (Some most) notes is some = (most, refl)

pub stopped_groups : (words : CullWords) (before after : Streams) → Ran (Cull words) statuses.NotesFault before after
    → (s : Parts) × HasScene (Cull words) before.input s × HidesTruly s × ((most : ℕ) × (words.group ≡ Some most) × StopsAtNotes s (frame_groups s most) before after)
stopped_groups words before after h =
    let cut : IsCut statuses.NotesFault = inr (inl refl) in
    elim (cut_by_scene (Cull words) statuses.NotesFault before after h (Makes (work_of (Cull words)) before.input.left h.outcome) cut h.ends) [
      | inl scene ↦
          let (s, has, makes) = scene in
          let (counts, rising, is) = makes in
          let cause = h.causes.notes refl in
          let (most, some) = some_groups s words.group h.outcome.notes (ap (λ (o : OutcomeOf). o.notes) is) cause.0 in
          let same : h.outcome ≡ report_and s (group_frames s (Some most)) = is ∙ ap (λ (group : Option ℕ). report_and s (group_frames s group)) some in (
            s,
            has,
            hides_truly s has.scene (all_are_pieces s has.scene),
            (most, some, stops s (frame_groups s most) h.outcome before after has.scene same cause.1 (front_of (Cull words) statuses.NotesFault before after _ _ h cut)),
          )
      | inr note ↦ absurd (not_memory before after note)
    ]
