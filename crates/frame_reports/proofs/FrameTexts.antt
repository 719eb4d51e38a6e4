-- Texts of frames one behind the other, and how they end.
use Rattle.std.proofs.Common.{◌≡◌, ◌⊎◌, ℕ, zero, suc, ◌+◌, ◌<◌, ◌≤◌, ◌++◌, List, [], ◌∷◌, length, take, drop, Result, Ok, Err, append_assoc, arith, refl, sym, ap, ◌∙◌, subst, inl, inr}
use Rattle.std.specs.Prelude.{IfErr, slice_index_or}
use Rattle.std.proofs.lemmas.Bool.{cases_lt}
use Rattle.std.proofs.lemmas.Grind.{flat_map-append}
use Rattle.std.proofs.lemmas.List.{append-nil, get_or-append-add, length-append, take-append-drop, take-append-le, take_more}
use Rattle.std.proofs.Math.ListN.{get_or-append}
use Rattle.std.proofs.Math.Seq.{take-append-add, take-length}
use Rattle.cull_base.specs.Stream.{SinkSays, Appends, AppendsPrefix, Rose, Writes}
use Rattle.cull_base.specs.declared.memory.SinkError.{SinkError}
use Rattle.cull_base.specs.declared.memory.SinkError.TheVariants as sink
use Rattle.cull_base.proofs.Streams.{appends_then}
use Rattle.frame_reports.specs.FrameRuns.{IsFrameFailure, LeavesTexts, texts_told}
use Rattle.frame_reports.specs.NotedLines.{CountsStay, NotesLines}
use Rattle.frame_reports.specs.Notes.{note_text, status_text}
use Rattle.frame_reports.specs.Failures.{sink_failure, status_by, status_of}
use Rattle.frame_reports.specs.OutcomeOf.{OutcomeOf, joined, notes_at, report_before, report_of, text_alone}
use Rattle.frame_reports.specs.Leaves.{AwaitsNote, IsCut, LeavesFront}
use Rattle.frame_reports.specs.declared.failure.Failure.{Failure}
use Rattle.frame_reports.specs.declared.failure.Failure.TheVariants.{Scene, ReadFault, ReportFault, NotesFault, Memory, Log, Frame}
use Rattle.frame_reports.specs.declared.failure.Status.{Status}
use Rattle.frame_reports.specs.declared.failure.Status.TheVariants as statuses
use Rattle.frame_reports.proofs.Fronts.{all_is_front, front_of_more, front_then, nothing_appended, rose_later}

-- ---- texts

pub joined-append : (xs ys : List (List ℕ)) → joined (xs ++ ys) ≡ joined xs ++ joined ys
joined-append xs ys = flat_map-append (λ (t : List ℕ). t) xs ys

pub joined-next : (xs : List (List ℕ)) (k : ℕ) → k < length xs → joined (take (k + 1) xs) ≡ joined (take k xs) ++ slice_index_or xs k []
joined-next xs k lt =
    ap joined (take_more xs k [] lt) ∙ joined-append (take k xs) (slice_index_or xs k [] ∷ [])
    ∙ ap (λ (t : List ℕ). joined (take k xs) ++ t) (append-nil (slice_index_or xs k []))

-- of no texts
take_none : (k : ℕ) (t : List ℕ) → t ≡ [] → take k t ≡ []
take_none zero t is = refl
take_none (suc k) t is = ap (take (suc k)) is

pub none_before : (k : ℕ) → joined (take k []) ≡ []
none_before zero = refl
none_before (suc k) = refl

pub none_at : (o : OutcomeOf) (k : ℕ) → o.notes ≡ [] → notes_at o k ≡ []
none_at o zero is = ap (λ (texts : List (List ℕ)). slice_index_or texts 0 []) is
none_at o (suc k) is = ap (λ (texts : List (List ℕ)). slice_index_or texts (suc k) []) is

pub report_add : (head : List ℕ) (fs fs' : List (List ℕ)) → head ++ joined (fs ++ fs') ≡ (head ++ joined fs) ++ joined fs'
report_add head fs fs' = ap (λ (t : List ℕ). head ++ t) (joined-append fs fs') ∙ sym (append_assoc head (joined fs) (joined fs'))

-- the texts before a place behind the first of two lists
before_add : (fs fs' : List (List ℕ)) (k : ℕ) → joined (take (length fs + k) (fs ++ fs')) ≡ joined fs ++ joined (take k fs')
before_add fs fs' k = ap joined (take-append-add fs fs' k) ∙ joined-append fs (take k fs')

report_before_add : (head : List ℕ) (fs fs' : List (List ℕ)) (k : ℕ) → head ++ joined (take (length fs + k) (fs ++ fs')) ≡ (head ++ joined fs) ++ joined (take k fs')
report_before_add head fs fs' k = ap (λ (t : List ℕ). head ++ t) (before_add fs fs' k) ∙ sym (append_assoc head (joined fs) (joined (take k fs')))

empty_right : (xs ys : List ℕ) → xs ++ ys ≡ [] → ys ≡ []
empty_right [] ys is = is
empty_right (x ∷ xs) ys is = absurd cc

empty_left : (xs ys : List ℕ) → xs ++ ys ≡ [] → xs ≡ []
empty_left [] ys is = refl
empty_left (x ∷ xs) ys is = absurd cc

-- ---- failures

pub cut_not_done : IsCut statuses.Done → ⊥
cut_not_done cut = elim cut [ inl a ↦ absurd cc | inr rest ↦ elim rest [ inl b ↦ absurd cc | inr c ↦ absurd cc ] ]

pub never_done : (f : Failure) → status_of f ≡ statuses.Done → ⊥
never_done (Scene e) is = absurd cc
never_done ReadFault is = absurd cc
never_done ReportFault is = absurd cc
never_done NotesFault is = absurd cc
never_done Memory is = absurd cc
never_done Log is = absurd cc
never_done (Frame frame frames) is = absurd cc

-- a failure with this cause comes in an outcome's place, and its note needs no numbers
abbrev IsNotedCut : Failure → Type 0
IsNotedCut f = IsCut (status_of f) × (status_text (status_of f) ≡ note_text f)

pub cut_by : (o : OutcomeOf) (f : Failure) (r0 r1 n0 n1 : SinkSays) → IsFrameFailure o f r0 r1 n0 n1 → IsNotedCut f
cut_by o f r0 r1 n0 n1 h = elim h [
  | inl memory ↦ subst IsNotedCut (sym memory) (inr (inr refl), refl)
  | inr rest ↦ elim rest [
    | inl report ↦ subst IsNotedCut (sym report.0) (inl refl, refl)
    | inr notes ↦ subst IsNotedCut (sym notes.0) (inr (inl refl), refl)
  ]
]

-- the causes of later calls, and those of calls for other texts
cause_later : (o o' : OutcomeOf) (f : Failure) (r0 r1 r2 n0 n1 n2 : SinkSays) → ((report_of o ≡ [] → ⊥) → report_of o' ≡ [] → ⊥) → r0.faults ≤ r1.faults → n0.faults ≤ n1.faults
    → IsFrameFailure o f r1 r2 n1 n2 → IsFrameFailure o' f r0 r2 n0 n2
cause_later o o' f r0 r1 r2 n0 n1 n2 some le le' h = elim h [
  | inl memory ↦ inl memory
  | inr rest ↦ elim rest [
    | inl report ↦ inr (inl (report.0, some report.1, rose_later r0.faults r1.faults r2.faults le report.2))
    | inr notes ↦ inr (inr (notes.0, rose_later n0.faults n1.faults n2.faults le' notes.1))
  ]
]

pub counts_same : (n : SinkSays) → CountsStay n n
counts_same n = record { faults = omega arith; refusals = omega arith }

pub stay_then : (a b c : SinkSays) → CountsStay a b → CountsStay b c → CountsStay a c
stay_then a b c x y = record { faults = omega (arith, x.faults, y.faults); refusals = omega (arith, x.refusals, y.refusals) }

-- ---- texts that stand whole

pub record Stands (o : OutcomeOf) (r0 r1 n0 n1 : SinkSays) : Type 0 where
  pub reported : Appends r0 r1 (report_of o)
  pub noted : Appends n0 n1 (joined o.notes)
  pub report_stays : r0.faults ≤ r1.faults
  pub stay : CountsStay n0 n1

pub whole_leaves : (head : List ℕ) (fs ns : List (List ℕ)) (r0 r1 n0 n1 : SinkSays) (x : Unit {0}) → Stands (texts_told head fs ns) r0 r1 n0 n1 → LeavesTexts (texts_told head fs ns) (Ok x) r0 r1 n0 n1
whole_leaves head fs ns r0 r1 n0 n1 x w = record {
  leaves = inl (refl, record { reported = w.reported; noted_is = record { gained = w.noted; note_is = refl; stay = w.stay } });
  cause = tt;
  report_stays = w.report_stays;
}

pub leaves_whole : (o : OutcomeOf) (r0 r1 n0 n1 : SinkSays) (x : Unit {0}) → LeavesTexts o (Ok x) r0 r1 n0 n1 → Stands o r0 r1 n0 n1
leaves_whole o r0 r1 n0 n1 x l = elim l.leaves [
  | inl whole ↦ let w = whole.1 in record { reported = w.reported; noted = w.noted_is.gained; report_stays = l.report_stays; stay = w.noted_is.stay }
  | inr front ↦ absurd (cut_not_done front.0)
]

pub stands_then : (head : List ℕ) (fs ns fs' ns' : List (List ℕ)) (r0 r1 r2 n0 n1 n2 : SinkSays) → Stands (texts_told head fs ns) r0 r1 n0 n1 → Stands (texts_told [] fs' ns') r1 r2 n1 n2
    → Stands (texts_told head (fs ++ fs') (ns ++ ns')) r0 r2 n0 n2
stands_then head fs ns fs' ns' r0 r1 r2 n0 n1 n2 a b = record {
  reported = subst (Appends r0 r2) (sym (report_add head fs fs')) (appends_then r0 r1 r2 (head ++ joined fs) (joined fs') a.reported b.reported);
  noted = subst (Appends n0 n2) (sym (joined-append ns ns')) (appends_then n0 n1 n2 (joined ns) (joined ns') a.noted b.noted);
  report_stays = omega (arith, a.report_stays, b.report_stays);
  stay = stay_then n0 n1 n2 a.stay b.stay;
}

-- ---- a failure behind texts that stand

-- what stands up to the frame of a front, and something behind it
reached : (fs ns : List (List ℕ)) (f : Failure) (r0 r1 n0 n1 : SinkSays) (w : LeavesFront (texts_told [] fs ns) (status_of f) r0 r1 (AwaitsNote (Err f) n0 n1)) → (more : List ℕ) × Appends r0 r1 (joined (take w.frame fs) ++ more)
reached fs ns f r0 r1 n0 n1 w = elim (cases_lt 0 w.frame) [
  | inl some ↦ w.earlier some
  | inr none ↦
      let first : w.frame ≡ 0 = omega arith in
      let (n, le, part) = w.reported in
      let more = take n (joined (take (w.frame + 1) fs)) in
      (more, subst (λ (k : ℕ). Appends r0 r1 (joined (take k fs) ++ more)) (sym first) part)
]

front_after : (head : List ℕ) (fs ns fs' ns' : List (List ℕ)) (f : Failure) (r0 r1 r2 n0 n1 n2 : SinkSays) → length ns ≡ length fs → 0 < length fs'
    → Stands (texts_told head fs ns) r0 r1 n0 n1 → LeavesFront (texts_told [] fs' ns') (status_of f) r1 r2 (AwaitsNote (Err f) n1 n2)
    → LeavesFront (texts_told head (fs ++ fs') (ns ++ ns')) (status_of f) r0 r2 (AwaitsNote (Err f) n0 n2)
front_after head fs ns fs' ns' f r0 r1 r2 n0 n1 n2 even some a w =
    let k = w.frame in
    let a_text = head ++ joined fs in
    let part = joined (take (k + 1) fs') in
    let one : (length fs + k) + 1 ≡ length fs + (k + 1) = omega arith in
    let next : head ++ joined (take ((length fs + k) + 1) (fs ++ fs')) ≡ a_text ++ part = ap (λ (n : ℕ). head ++ joined (take n (fs ++ fs'))) one ∙ report_before_add head fs fs' (k + 1) in
    let at : slice_index_or (ns ++ ns') (length fs + k) [] ≡ slice_index_or ns' k [] = ap (λ (n : ℕ). slice_index_or (ns ++ ns') (n + k) []) (sym even) ∙ get_or-append-add ns ns' k [] in
    let upto : joined (take (length fs + k) (ns ++ ns')) ≡ joined ns ++ joined (take k ns') = ap (λ (n : ℕ). joined (take (n + k) (ns ++ ns'))) (sym even) ∙ before_add ns ns' k in
    let noted = w.noted_is in
    let (more, stood) = reached fs' ns' f r1 r2 n1 n2 w in
    let behind : (head ++ joined (take (length fs + k) (fs ++ fs'))) ++ more ≡ a_text ++ (joined (take k fs') ++ more) =
    ap (λ (t : List ℕ). t ++ more) (report_before_add head fs fs' k) ∙ append_assoc a_text (joined (take k fs')) more in
    let lines : joined (take (length fs + k) (ns ++ ns')) ++ take w.size (slice_index_or (ns ++ ns') (length fs + k) []) ≡ joined ns ++ (joined (take k ns') ++ take w.size (slice_index_or ns' k [])) =
    ap (λ (t : List ℕ). t ++ take w.size (slice_index_or (ns ++ ns') (length fs + k) [])) upto
    ∙ ap (λ (t : List ℕ). (joined ns ++ joined (take k ns')) ++ take w.size t) at
    ∙ append_assoc (joined ns) (joined (take k ns')) (take w.size (slice_index_or ns' k [])) in
    record {
      frame = length fs + k;
      is_frame = λ any. omega (arith, w.is_frame some, length-append fs fs');
      reported = subst (AppendsPrefix r0 r2) (sym next) (front_then r0 r1 r2 a_text part a.reported w.reported);
      earlier = λ any. (more, subst (Appends r0 r2) (sym behind) (appends_then r0 r1 r2 a_text (joined (take k fs') ++ more) a.reported stood));
      size = w.size;
      within = subst (λ (t : List ℕ). w.size ≤ length t) (sym at) w.within;
      whole = λ lt. subst (Appends r0 r2) (sym next) (appends_then r0 r1 r2 a_text part a.reported (w.whole lt));
      noted_is = record {
        gained = subst (Appends n0 n2) (sym lines) (appends_then n0 n1 n2 (joined ns) (joined (take k ns') ++ take w.size (slice_index_or ns' k [])) a.noted noted.gained);
        note_is = noted.note_is;
        stay = stay_then n0 n1 n2 a.stay noted.stay;
      };
      of_report = w.of_report;
      of_notes = λ is. let x = w.of_notes is in (subst (Appends r0 r2) (sym next) (appends_then r0 r1 r2 a_text part a.reported x.0), subst (λ (t : List ℕ). w.size < length t) (sym at) x.1);
    }

-- all texts stand, and then memory ran out
front_whole : (head : List ℕ) (fs ns : List (List ℕ)) (r0 r1 n0 n1 : SinkSays) → length ns ≡ length fs → Stands (texts_told head fs ns) r0 r1 n0 n1
    → LeavesFront (texts_told head fs ns) statuses.Memory r0 r1 (AwaitsNote (Err Memory) n0 n1)
front_whole head [] [] r0 r1 n0 n1 even a = record {
  frame = 0;
  is_frame = λ some. some;
  reported = all_is_front r0 r1 (head ++ []) a.reported;
  earlier = λ lt. absurd (omega arith);
  size = 0;
  within = omega arith;
  whole = λ lt. absurd (omega arith);
  noted_is = record { gained = a.noted; note_is = refl; stay = a.stay };
  of_report = λ is. refl;
  of_notes = λ is. absurd cc;
}
front_whole head [] (n ∷ ns) r0 r1 n0 n1 even a = absurd (omega (arith, even))
front_whole head (x ∷ xs) ns r0 r1 n0 n1 even a =
    let fs = x ∷ xs in let last = length xs in
    let all : last + 1 ≡ length fs = omega arith in
    let all_notes : last + 1 ≡ length ns = omega (arith, even) in
    let taken : take (last + 1) fs ≡ fs = ap (λ (n : ℕ). take n fs) all ∙ take-length fs in
    let noted_all : take (last + 1) ns ≡ ns = ap (λ (n : ℕ). take n ns) all_notes ∙ take-length ns in
    let text = slice_index_or fs last [] in let live = slice_index_or ns last [] in
    let next : head ++ joined (take (last + 1) fs) ≡ head ++ joined fs = ap (λ (texts : List (List ℕ)). head ++ joined texts) taken in
    let reported : Appends r0 r1 (head ++ joined (take (last + 1) fs)) = subst (Appends r0 r1) (sym next) a.reported in
    let behind : (head ++ joined (take last fs)) ++ text ≡ head ++ joined fs =
    append_assoc head (joined (take last fs)) text ∙ ap (λ (t : List ℕ). head ++ t) (sym (joined-next fs last (omega arith)) ∙ ap joined taken) in
    let lines : joined (take last ns) ++ take (length live) live ≡ joined ns =
    ap (λ (t : List ℕ). joined (take last ns) ++ t) (take-length live) ∙ sym (joined-next ns last (omega (arith, all_notes))) ∙ ap joined noted_all in
    record {
      frame = last;
      is_frame = λ some. omega arith;
      reported = all_is_front r0 r1 (head ++ joined (take (last + 1) fs)) reported;
      earlier = λ lt. (text, subst (Appends r0 r1) (sym behind) a.reported);
      size = length live;
      within = omega arith;
      whole = λ lt. reported;
      noted_is = record { gained = subst (Appends n0 n1) (sym lines) a.noted; note_is = refl; stay = a.stay };
      of_report = λ is. absurd cc;
      of_notes = λ is. absurd cc;
    }

-- where there is no text only memory can run out, and nothing was appended
nothing_left : (f : Failure) (r0 r1 n0 n1 : SinkSays) → LeavesTexts (texts_told [] [] []) (Err f) r0 r1 n0 n1 → (f ≡ Memory) × Stands (texts_told [] [] []) r0 r1 n0 n1
nothing_left f r0 r1 n0 n1 l = elim l.leaves [
  | inl whole ↦ absurd (never_done f whole.0)
  | inr front ↦
      let w = front.1 in
      let (n, le, part) = w.reported in
      let no_text : take n (joined (take (w.frame + 1) [])) ≡ [] = take_none n (joined (take (w.frame + 1) [])) (none_before (w.frame + 1)) in
      let no_line : notes_at (texts_told [] [] []) w.frame ≡ [] = none_at (texts_told [] [] []) w.frame refl in
      let no_lines : joined (take w.frame []) ++ take w.size (notes_at (texts_told [] [] []) w.frame) ≡ [] =
      ap (λ (t : List ℕ). t ++ take w.size (notes_at (texts_told [] [] []) w.frame)) (none_before w.frame) ∙ take_none w.size (notes_at (texts_told [] [] []) w.frame) no_line in (
        elim l.cause [
          | inl memory ↦ memory
          | inr rest ↦ elim rest [
            | inl report ↦ absurd (report.1 refl)
            | inr notes ↦ let x = w.of_notes (ap status_of notes.0) in absurd (omega (arith, x.1, ap length no_line))
          ]
        ],
        record {
          reported = subst (Appends r0 r1) no_text part;
          noted = subst (Appends n0 n1) no_lines w.noted_is.gained;
          report_stays = l.report_stays;
          stay = w.noted_is.stay;
        },
      )
]

-- a call failed behind texts that stand
pub leaves_after : (head : List ℕ) (fs ns fs' ns' : List (List ℕ)) (f : Failure) (r0 r1 r2 n0 n1 n2 : SinkSays) → length ns ≡ length fs → length ns' ≡ length fs'
    → Stands (texts_told head fs ns) r0 r1 n0 n1 → LeavesTexts (texts_told [] fs' ns') (Err f) r1 r2 n1 n2 → LeavesTexts (texts_told head (fs ++ fs') (ns ++ ns')) (Err f) r0 r2 n0 n2
leaves_after head fs ns fs' ns' f r0 r1 r2 n0 n1 n2 even even' a b = record {
  leaves = inr (cut.0, by fs' ns' even' b);
  cause = cause_later (texts_told [] fs' ns') (texts_told head (fs ++ fs') (ns ++ ns')) f r0 r1 r2 n0 n1 n2
      (λ some is. some (empty_right (head ++ joined fs) (joined fs') (sym (report_add head fs fs') ∙ is))) a.report_stays a.stay.faults b.cause;
  report_stays = omega (arith, a.report_stays, b.report_stays);
}
  where
    cut : IsNotedCut f
    cut = cut_by (texts_told [] fs' ns') f r1 r2 n1 n2 b.cause

    by : (gs ms : List (List ℕ)) → length ms ≡ length gs → LeavesTexts (texts_told [] gs ms) (Err f) r1 r2 n1 n2
        → LeavesFront (texts_told head (fs ++ gs) (ns ++ ms)) (status_of f) r0 r2 (AwaitsNote (Err f) n0 n2)
    by [] [] same l =
        let (memory, stands) = nothing_left f r1 r2 n1 n2 l in
        let all = stands_then head fs ns [] [] r0 r1 r2 n0 n1 n2 a stands in
        let alike : length (ns ++ []) ≡ length (fs ++ []) = omega (arith, even, length-append ns [], length-append fs []) in
        subst (λ (g : Failure). LeavesFront (texts_told head (fs ++ []) (ns ++ [])) (status_of g) r0 r2 (AwaitsNote (Err g) n0 n2)) (sym memory)
        (front_whole head (fs ++ []) (ns ++ []) r0 r2 n0 n2 alike all)
    by [] (m ∷ ms) same l = absurd (omega (arith, same))
    by (g ∷ gs) ms same l = elim l.leaves [
      | inl whole ↦ absurd (never_done f whole.0)
      | inr front ↦ front_after head fs ns (g ∷ gs) ms f r0 r1 r2 n0 n1 n2 even (omega arith) a front.1
    ]

-- a call that failed left no more of longer texts
front_no_more : (head : List ℕ) (fs ns fs' ns' : List (List ℕ)) (f : Failure) (r0 r1 n0 n1 : SinkSays) → length ns ≡ length fs → LeavesFront (texts_told head fs ns) (status_of f) r0 r1 (AwaitsNote (Err f) n0 n1)
    → LeavesFront (texts_told head (fs ++ fs') (ns ++ ns')) (status_of f) r0 r1 (AwaitsNote (Err f) n0 n1)
front_no_more head [] [] fs' ns' f r0 r1 n0 n1 even w =
    let o = texts_told head [] [] in
    let no_line : notes_at o w.frame ≡ [] = none_at o w.frame refl in
    let no_lines : joined (take w.frame []) ++ take w.size (notes_at o w.frame) ≡ [] =
    ap (λ (t : List ℕ). t ++ take w.size (notes_at o w.frame)) (none_before w.frame) ∙ take_none w.size (notes_at o w.frame) no_line in
    let head_alone : head ++ joined (take (w.frame + 1) []) ≡ head = ap (λ (t : List ℕ). head ++ t) (none_before (w.frame + 1)) ∙ append-nil head in
    record {
      frame = 0;
      is_frame = λ some. some;
      reported = front_of_more r0 r1 head (joined (take (0 + 1) fs')) (subst (AppendsPrefix r0 r1) head_alone w.reported);
      earlier = λ lt. absurd (omega arith);
      size = 0;
      within = omega arith;
      whole = λ lt. absurd (omega arith);
      noted_is = record { gained = subst (Appends n0 n1) no_lines w.noted_is.gained; note_is = w.noted_is.note_is; stay = w.noted_is.stay };
      of_report = λ is. refl;
      of_notes = λ is. let x = w.of_notes is in absurd (omega (arith, x.1, ap length no_line));
    }
front_no_more head [] (n ∷ ns) fs' ns' f r0 r1 n0 n1 even w = absurd (omega (arith, even))
front_no_more head (x ∷ xs) ns fs' ns' f r0 r1 n0 n1 even w =
    let fs = x ∷ xs in let k = w.frame in
    let lt : k < length fs = w.is_frame (omega arith) in
    let next : head ++ joined (take (k + 1) (fs ++ fs')) ≡ head ++ joined (take (k + 1) fs) = ap (λ (texts : List (List ℕ)). head ++ joined texts) (take-append-le (k + 1) fs fs' (omega (arith, lt))) in
    let here : head ++ joined (take k (fs ++ fs')) ≡ head ++ joined (take k fs) = ap (λ (texts : List (List ℕ)). head ++ joined texts) (take-append-le k fs fs' (omega (arith, lt))) in
    let at : slice_index_or (ns ++ ns') k [] ≡ slice_index_or ns k [] = get_or-append ns ns' [] k (omega (arith, lt, even)) in
    let lines : joined (take k (ns ++ ns')) ++ take w.size (slice_index_or (ns ++ ns') k []) ≡ joined (take k ns) ++ take w.size (slice_index_or ns k []) =
    ap (λ (texts : List (List ℕ)). joined texts ++ take w.size (slice_index_or (ns ++ ns') k [])) (take-append-le k ns ns' (omega (arith, lt, even)))
    ∙ ap (λ (t : List ℕ). joined (take k ns) ++ take w.size t) at in
    record {
      frame = k;
      is_frame = λ some. omega (arith, lt, length-append fs fs');
      reported = subst (AppendsPrefix r0 r1) (sym next) w.reported;
      earlier = λ some. let (more, h) = w.earlier some in (more, subst (λ (t : List ℕ). Appends r0 r1 (t ++ more)) (sym here) h);
      size = w.size;
      within = subst (λ (t : List ℕ). w.size ≤ length t) (sym at) w.within;
      whole = λ some. subst (Appends r0 r1) (sym next) (w.whole some);
      noted_is = record { gained = subst (Appends n0 n1) (sym lines) w.noted_is.gained; note_is = w.noted_is.note_is; stay = w.noted_is.stay };
      of_report = w.of_report;
      of_notes = λ is. let x = w.of_notes is in (subst (Appends r0 r1) (sym next) x.0, subst (λ (t : List ℕ). w.size < length t) (sym at) x.1);
    }

pub leaves_no_more : (head : List ℕ) (fs ns fs' ns' : List (List ℕ)) (f : Failure) (r0 r1 n0 n1 : SinkSays) → length ns ≡ length fs → LeavesTexts (texts_told head fs ns) (Err f) r0 r1 n0 n1
    → LeavesTexts (texts_told head (fs ++ fs') (ns ++ ns')) (Err f) r0 r1 n0 n1
leaves_no_more head fs ns fs' ns' f r0 r1 n0 n1 even l = record {
  leaves = elim l.leaves [
    | inl whole ↦ absurd (never_done f whole.0)
    | inr front ↦ inr (front.0, front_no_more head fs ns fs' ns' f r0 r1 n0 n1 even front.1)
  ];
  cause = cause_later (texts_told head fs ns) (texts_told head (fs ++ fs') (ns ++ ns')) f r0 r0 r1 n0 n0 n1
      (λ some is. some (empty_left (head ++ joined fs) (joined fs') (sym (report_add head fs fs') ∙ is))) (omega arith) (omega arith) l.cause;
  report_stays = l.report_stays;
}

-- ---- a head, and a frame

notes_failed : (f : Failure) → status_of f ≡ statuses.NotesFault → f ≡ NotesFault
notes_failed (Scene e) is = absurd cc
notes_failed ReadFault is = absurd cc
notes_failed ReportFault is = absurd cc
notes_failed NotesFault is = refl
notes_failed Memory is = absurd cc
notes_failed Log is = absurd cc
notes_failed (Frame frame frames) is = absurd cc

report_failed : (f : Failure) → status_of f ≡ statuses.ReportFault → f ≡ ReportFault
report_failed (Scene e) is = absurd cc
report_failed ReadFault is = absurd cc
report_failed ReportFault is = refl
report_failed NotesFault is = absurd cc
report_failed Memory is = absurd cc
report_failed Log is = absurd cc
report_failed (Frame frame frames) is = absurd cc

-- only a beginning of the report stands, up to the first frame's end, and nothing was noted
pub front_unnoted : (o : OutcomeOf) (status : Status) (r0 r1 : SinkSays) (noted : List ℕ → List ℕ → Type 0) → AppendsPrefix r0 r1 (report_before o (0 + 1)) → noted [] (status_text status)
    → (status ≡ statuses.NotesFault → ⊥) → LeavesFront o status r0 r1 noted
front_unnoted o status r0 r1 noted front none other = record {
  frame = 0;
  is_frame = λ some. some;
  reported = front;
  earlier = λ lt. absurd (omega arith);
  size = 0;
  within = omega arith;
  whole = λ lt. absurd (omega arith);
  noted_is = none;
  of_report = λ is. refl;
  of_notes = λ is. absurd (other is);
}

-- and so of frames one behind the other
pub unnoted : (head : List ℕ) (fs ns : List (List ℕ)) (f : Failure) (r0 r1 n : SinkSays) → AppendsPrefix r0 r1 (head ++ joined (take 1 fs)) → (f ≡ NotesFault → ⊥)
    → IsFrameFailure (texts_told head fs ns) f r0 r1 n n → r0.faults ≤ r1.faults → LeavesTexts (texts_told head fs ns) (Err f) r0 r1 n n
unnoted head fs ns f r0 r1 n front other cause stays =
    let cut = cut_by (texts_told head fs ns) f r0 r1 n n cause in
    let none : AwaitsNote (Err f) n n [] (status_text (status_of f)) = record { gained = nothing_appended n; note_is = cut.1; stay = counts_same n } in
    record {
      leaves = inr (cut.0, front_unnoted (texts_told head fs ns) (status_of f) r0 r1 (AwaitsNote (Err f) n n) front none (λ is. other (notes_failed f is)));
      cause = cause;
      report_stays = stays;
    }

-- memory ran out before anything was written
pub no_memory : (head : List ℕ) (fs ns : List (List ℕ)) (r n : SinkSays) → LeavesTexts (texts_told head fs ns) (Err Memory) r r n n
no_memory head fs ns r n = unnoted head fs ns Memory r r n (0, omega arith, nothing_appended r) (λ is. absurd cc) (inl refl) (omega arith)

-- and so a call ends in it that was to write one text
pub out_of_memory : (text : List ℕ) (r n : SinkSays) (result : Result (Unit {0}) Failure) (f : Failure) → result ≡ Err f → f ≡ Memory → LeavesTexts (text_alone text) result r r n n
out_of_memory text r n result f is memory = rw (is, memory) (no_memory text [] [] r n)

-- a text of the report couldn't be written whole
some_text : (n : ℕ) (t : List ℕ) → n < length t → t ≡ [] → ⊥
some_text n t lt is = omega (arith, lt, ap length is)

sink_cause : (o : OutcomeOf) (e : SinkError) (r0 r1 n : SinkSays) → (report_of o ≡ [] → ⊥) → (e ≡ sink.Failed → Rose r0.faults r1.faults) → IsFrameFailure o (sink_failure e) r0 r1 n n
sink_cause o sink.Failed r0 r1 n some rose = inr (inl (refl, some, rose refl))
sink_cause o sink.Memory r0 r1 n some rose = inl refl

not_of_notes : (e : SinkError) → sink_failure e ≡ NotesFault → ⊥
not_of_notes sink.Failed is = absurd cc
not_of_notes sink.Memory is = absurd cc

pub unwritten : (head text : List ℕ) (fs ns : List (List ℕ)) (e : SinkError) (r0 r1 n : SinkSays) → head ++ joined fs ≡ text → head ++ joined (take 1 fs) ≡ text → Writes r0 r1 (Err e) text
    → LeavesTexts (texts_told head fs ns) (Err (sink_failure e)) r0 r1 n n
unwritten head text fs ns e r0 r1 n whole first w =
    let (m, lt, part) = w.err in
    unnoted head fs ns (sink_failure e) r0 r1 n (subst (AppendsPrefix r0 r1) (sym first) (m, omega (arith, lt), part)) (not_of_notes e)
    (sink_cause (texts_told head fs ns) e r0 r1 n (λ none. some_text m text lt (sym whole ∙ none)) (λ is. w.failed (ap Err is))) w.faults_stay

-- a frame's lines were written, and then its notes' lines noted, or a beginning of them that isn't the whole
pub frame_stands : (text live : List ℕ) (r0 r1 n0 n1 : SinkSays) → Appends r0 r1 text → r0.faults ≤ r1.faults → Appends n0 n1 live → CountsStay n0 n1 → Stands (texts_told [] (text ∷ []) (live ∷ [])) r0 r1 n0 n1
frame_stands text live r0 r1 n0 n1 reported stays noted stay = record {
  reported = subst (Appends r0 r1) (sym (append-nil text)) reported;
  noted = subst (Appends n0 n1) (sym (append-nil live)) noted;
  report_stays = stays;
  stay = stay;
}

notes_cause : (o : OutcomeOf) (f : Failure) (r0 r1 n0 n1 : SinkSays) → (f ≡ Memory) ⊎ ((f ≡ NotesFault) × Rose n0.faults n1.faults) → IsFrameFailure o f r0 r1 n0 n1
notes_cause o f r0 r1 n0 n1 h = elim h [ inl memory ↦ inl memory | inr notes ↦ inr (inr notes) ]

-- lines that couldn't be noted are no report that couldn't be written
lines_written : (f : Failure) (n0 n1 : SinkSays) → (f ≡ Memory) ⊎ ((f ≡ NotesFault) × Rose n0.faults n1.faults) → f ≡ ReportFault → ⊥
lines_written f n0 n1 h is = elim h [ inl memory ↦ absurd cc | inr notes ↦ let x = notes.0 in absurd cc ]

notes_fail : (text live : List ℕ) (f : Failure) (r0 r1 n0 n1 : SinkSays) → Appends r0 r1 text → r0.faults ≤ r1.faults → NotesLines n0 n1 (Err f) live → LeavesTexts (texts_told [] (text ∷ []) (live ∷ [])) (Err f) r0 r1 n0 n1
notes_fail text live f r0 r1 n0 n1 reported stays notes =
    let o = texts_told [] (text ∷ []) (live ∷ []) in
    let cause = notes_cause o f r0 r1 n0 n1 notes.cause in
    let cut = cut_by o f r0 r1 n0 n1 cause in
    let (m, lt, part) = notes.err in
    let whole : Appends r0 r1 (text ++ []) = subst (Appends r0 r1) (sym (append-nil text)) reported in
    record {
      leaves = inr (
        cut.0,
        record {
          frame = 0;
          is_frame = λ some. some;
          reported = all_is_front r0 r1 (text ++ []) whole;
          earlier = λ some. absurd (omega arith);
          size = m;
          within = omega (arith, lt);
          whole = λ some. whole;
          noted_is = record { gained = part; note_is = cut.1; stay = notes.stay };
          of_report = λ is. absurd (lines_written f n0 n1 notes.cause (report_failed f is));
          of_notes = λ is. (whole, lt);
        },
      );
      cause = cause;
      report_stays = stays;
    }

pub frame_noted : (text live : List ℕ) (result : Result (Unit {0}) Failure) (r0 r1 n0 n1 : SinkSays) → Appends r0 r1 text → r0.faults ≤ r1.faults → NotesLines n0 n1 result live
    → LeavesTexts (texts_told [] (text ∷ []) (live ∷ [])) result r0 r1 n0 n1
frame_noted text live (Ok x) r0 r1 n0 n1 reported stays notes = whole_leaves [] (text ∷ []) (live ∷ []) r0 r1 n0 n1 x (frame_stands text live r0 r1 n0 n1 reported stays notes.ok notes.stay)
frame_noted text live (Err f) r0 r1 n0 n1 reported stays notes = notes_fail text live f r0 r1 n0 n1 reported stays notes

-- ---- where nothing is noted

-- no place of these texts has anything
abbrev pub AreEmpty : List (List ℕ) → Type 0
AreEmpty texts = (k : ℕ) → (joined (take k texts) ≡ []) × (slice_index_or texts k [] ≡ [])

-- the same without them
pub without_notes : (head : List ℕ) (fs ns : List (List ℕ)) (result : Result (Unit {0}) Failure) (r0 r1 n0 n1 : SinkSays) → AreEmpty ns → LeavesTexts (texts_told head fs ns) result r0 r1 n0 n1
    → LeavesTexts (texts_told head fs []) result r0 r1 n0 n1
without_notes head fs ns result r0 r1 n0 n1 none l = record {
  leaves = elim l.leaves [
    | inl whole ↦
        let w = whole.1 in
        let all : joined ns ≡ [] = ap joined (sym (take-length ns)) ∙ (none (length ns)).0 in
        inl (whole.0, record { reported = w.reported; noted_is = subst (λ (t : List ℕ). AwaitsNote result n0 n1 t []) all w.noted_is })
    | inr front ↦
        let w = front.1 in
        let k = w.frame in
        let short : w.size ≡ 0 = omega (arith, w.within, ap length (none k).1) in
        let text : joined (take k ns) ++ take w.size (slice_index_or ns k []) ≡ joined (take k []) ++ take 0 (slice_index_or [] k []) =
        ap (λ (t : List ℕ). t ++ take w.size (slice_index_or ns k [])) (none k).0 ∙ ap (λ (n : ℕ). take n (slice_index_or ns k [])) short ∙ sym (ap (λ (t : List ℕ). t ++ []) (none_before k)) in
        inr (
          front.0,
          record {
            frame = k;
            is_frame = w.is_frame;
            reported = w.reported;
            earlier = w.earlier;
            size = 0;
            within = omega arith;
            whole = λ lt. absurd (omega arith);
            noted_is = subst (λ (t : List ℕ). AwaitsNote result n0 n1 t (status_text (status_by result))) text w.noted_is;
            of_report = λ is. refl;
            of_notes = λ is. let x = w.of_notes is in absurd (omega (arith, x.1, ap length (none k).1));
          },
        )
  ];
  cause = by result l.cause;
  report_stays = l.report_stays;
}
  where
    by : (r : Result (Unit {0}) Failure) → IfErr r (λ f. IsFrameFailure (texts_told head fs ns) f r0 r1 n0 n1) → IfErr r (λ f. IsFrameFailure (texts_told head fs []) f r0 r1 n0 n1)
    by (Ok x) h = h
    by (Err f) h = h

-- and as one text, without frames
pub as_one_text : (head : List ℕ) (fs : List (List ℕ)) (result : Result (Unit {0}) Failure) (r0 r1 n0 n1 : SinkSays) → LeavesTexts (texts_told head fs []) result r0 r1 n0 n1
    → LeavesTexts (text_alone (head ++ joined fs)) result r0 r1 n0 n1
as_one_text head fs result r0 r1 n0 n1 l = record {
  leaves = elim l.leaves [
    | inl whole ↦ let w = whole.1 in inl (whole.0, record { reported = subst (Appends r0 r1) (sym (append-nil (head ++ joined fs))) w.reported; noted_is = w.noted_is })
    | inr front ↦
        let w = front.1 in
        let k = w.frame in
        let rest = joined (drop (k + 1) fs) in
        let split : (head ++ joined (take (k + 1) fs)) ++ rest ≡ (head ++ joined fs) ++ [] =
        sym (report_add head (take (k + 1) fs) (drop (k + 1) fs)) ∙ ap (λ (texts : List (List ℕ)). head ++ joined texts) (take-append-drop (k + 1) fs) ∙ sym (append-nil (head ++ joined fs)) in
        let no_line : notes_at (texts_told head fs []) k ≡ [] = none_at (texts_told head fs []) k refl in
        let text : joined (take k []) ++ take w.size (notes_at (texts_told head fs []) k) ≡ [] =
        ap (λ (t : List ℕ). t ++ take w.size (notes_at (texts_told head fs []) k)) (none_before k) ∙ take_none w.size (notes_at (texts_told head fs []) k) no_line in
        inr (
          front.0,
          record {
            frame = 0;
            is_frame = λ some. some;
            reported = subst (AppendsPrefix r0 r1) split (front_of_more r0 r1 (head ++ joined (take (k + 1) fs)) rest w.reported);
            earlier = λ lt. absurd (omega arith);
            size = 0;
            within = omega arith;
            whole = λ lt. absurd (omega arith);
            noted_is = subst (λ (t : List ℕ). AwaitsNote result n0 n1 t (status_text (status_by result))) text w.noted_is;
            of_report = λ is. refl;
            of_notes = λ is. let x = w.of_notes is in absurd (omega (arith, x.1, ap length no_line));
          },
        )
  ];
  cause = by result l.cause;
  report_stays = l.report_stays;
}
  where
    still : (report_of (texts_told head fs []) ≡ [] → ⊥) → report_of (text_alone (head ++ joined fs)) ≡ [] → ⊥
    still some is = some (sym (append-nil (head ++ joined fs)) ∙ is)

    by : (r : Result (Unit {0}) Failure) → IfErr r (λ f. IsFrameFailure (texts_told head fs []) f r0 r1 n0 n1) → IfErr r (λ f. IsFrameFailure (text_alone (head ++ joined fs)) f r0 r1 n0 n1)
    by (Ok x) h = h
    by (Err f) h = cause_later (texts_told head fs []) (text_alone (head ++ joined fs)) f r0 r0 r1 n0 n0 n1 still (omega arith) (omega arith) h
