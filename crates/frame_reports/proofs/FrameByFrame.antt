-- What is left of frames, one after the other.
use Rattle.std.proofs.Common.{◌≡◌, ℕ, zero, suc, ◌+◌, ◌-◌, ◌<◌, ◌≤◌, ◌++◌, List, [], ◌∷◌, length, map, true, false, nat_lt, Bool, cond, arith, refl, sym, ap, ◌∙◌, subst, inl, inr, Result, Ok, Err}
use Rattle.std.specs.List.{range_with_len}
use Rattle.std.proofs.lemmas.Bool.{cases_lt}
use Rattle.std.proofs.lemmas.Bool.Decides.{nat_tests}
use Rattle.std.proofs.lemmas.List.{append-nil}
use Rattle.std.proofs.lemmas.List.FromFn.{length-map-range_with_len}
use Rattle.cull_base.specs.Stream.{SinkSays, Appends, Writes}
use Rattle.cull_base.specs.declared.memory.SinkError.{SinkError}
use Rattle.cull_base.specs.declared.scene_types.Verdict.{Verdict}
use Rattle.scene_reader.specs.Layout.{Parts}
use Rattle.cull_report.specs.Live.{Counts, LiveLineOf, text_of_line}
use Rattle.cull_report.specs.Scene.{frame_pieces, frame_verdicts}
use Rattle.std.specs.List.{flat_map}
use Rattle.group_query.specs.Text.{frame_groups}
use Rattle.frame_reports.specs.FrameRuns.{LeavesFrames, LeavesTexts, frames_told, texts_told}
use Rattle.frame_reports.specs.Frames.{AreSeen, IsRisingBeside, lines_by, lines_of, noted_of}
use Rattle.frame_reports.specs.NotedLines.{NotesLines}
use Rattle.frame_reports.specs.Failures.{sink_failure}
use Rattle.frame_reports.specs.OutcomeOf.{OutcomeOf}
use Rattle.frame_reports.specs.declared.failure.Failure.{Failure}
use Rattle.frame_reports.specs.declared.failure.Failure.TheVariants.{Memory}
use Rattle.frame_reports.specs.declared.frames.Beside.{Beside}
use Rattle.frame_reports.specs.declared.frames.Beside.TheVariants.{Nothing, Looks, Groups}
use Rattle.frame_reports.specs.declared.frames.FrameLines.{FrameLines}
use Rattle.frame_reports.proofs.Fronts.{nothing_appended}
use Rattle.frame_reports.proofs.FrameTexts.{AreEmpty, Stands, counts_same, frame_noted, frame_stands, leaves_after, leaves_no_more, leaves_whole, no_memory, stands_then, unwritten, whole_leaves}
use Rattle.frame_reports.proofs.LiveLooks.{with_at, at_same, at_other}

-- ---- stretches of numbers

map-add : (f : ℕ → List ℕ) (a k m : ℕ) → map f (range_with_len a (k + m)) ≡ map f (range_with_len a k) ++ map f (range_with_len (a + k) m)
map-add f a zero m =
    let e : zero + m ≡ m = omega arith in
    let z : a ≡ a + zero = omega arith in
    ap (λ n. map f (range_with_len a n)) e ∙ ap (λ b. map f (range_with_len b m)) z
map-add f a (suc k) m =
    let e : suc k + m ≡ suc (k + m) = omega arith in
    let b : (a + 1) + k ≡ a + suc k = omega arith in
    ap (λ n. map f (range_with_len a n)) e
    ∙ ap (λ (t : List (List ℕ)). f a ∷ t) (map-add f (a + 1) k m ∙ ap (λ n. map f (range_with_len (a + 1) k) ++ map f (range_with_len n m)) b)

-- functions that agree on a stretch
map-alike : (f g : ℕ → List ℕ) (a n : ℕ) → ((i : ℕ) → a ≤ i → i < a + n → f i ≡ g i) → map f (range_with_len a n) ≡ map g (range_with_len a n)
map-alike f g a zero same = refl
map-alike f g a (suc n) same =
    let here = same a (omega arith) (omega arith) in
    let rest = map-alike f g (a + 1) n (λ i le lt. same i (omega arith) (omega arith)) in
    ap (λ (t : List ℕ). t ∷ map f (range_with_len (a + 1) n)) here ∙ ap (λ (t : List (List ℕ)). g a ∷ t) rest

-- texts of which each is empty
pub are_empty : (a n : ℕ) → AreEmpty (map (λ (frame : ℕ). []) (range_with_len a n))
are_empty a zero zero = (refl, refl)
are_empty a zero (suc k) = (refl, refl)
are_empty a (suc n) zero = (refl, refl)
are_empty a (suc n) (suc k) = are_empty (a + 1) n k

-- ---- counts of frames before a place, and of those from there on

pub split : ℕ → Counts → Counts → Counts
split place c d frame = cond (nat_lt frame place) (c frame) (d frame)

split_before : (place : ℕ) (c d : Counts) (frame : ℕ) → frame < place → split place c d frame ≡ c frame
unfolding split
split_before place c d frame lt =
    let e : nat_lt frame place ≡ true = grind (arith, nat_tests) in
    ap (λ (b : Bool). cond b (c frame) (d frame)) e

split_from : (place : ℕ) (c d : Counts) (frame : ℕ) → place ≤ frame → split place c d frame ≡ d frame
unfolding split
split_from place c d frame le =
    let e : nat_lt frame place ≡ false = grind (arith, nat_tests) in
    ap (λ (b : Bool). cond b (c frame) (d frame)) e

abbrev pub AreRising : Beside → Parts → Counts → Type 0
AreRising beside s counts = (frame : ℕ) → IsRisingBeside beside s frame (counts frame)

split_rises : (beside : Beside) (s : Parts) (place : ℕ) (c d : Counts) → AreRising beside s c → AreRising beside s d → AreRising beside s (split place c d)
split_rises beside s place c d before from frame = elim (cases_lt frame place) [
  | inl less ↦ subst (IsRisingBeside beside s frame) (sym (split_before place c d frame less)) (before frame)
  | inr not_less ↦ subst (IsRisingBeside beside s frame) (sym (split_from place c d frame (omega arith))) (from frame)
]

pub unseen : Counts
unseen frame r o t = 0

none_rise : (beside : Beside) (s : Parts) (frame : ℕ) → IsRisingBeside beside s frame (λ r o t. 0)
none_rise Nothing s frame = tt
none_rise (Groups most) s frame = tt
none_rise (Looks rounds watch) s frame = record { within = λ r o t is stated. omega arith; rises = λ r o p q t is then before stated stated_then. omega arith }

pub unseen_rises : (beside : Beside) (s : Parts) → AreRising beside s unseen
unfolding unseen
unseen_rises beside s frame = none_rise beside s frame

-- a frame's own
one_rises : (beside : Beside) (s : Parts) (k : ℕ) (c : ℕ → ℕ → ℕ → ℕ) → IsRisingBeside beside s k c → AreRising beside s (with_at unseen k c)
one_rises beside s k c rising frame = elim (cases_lt frame k) [
  | inl less ↦ subst (IsRisingBeside beside s frame) (sym (at_other unseen k c frame (λ e. omega arith))) (unseen_rises beside s frame)
  | inr not_less ↦ elim (cases_lt k frame) [
    | inl more ↦ subst (IsRisingBeside beside s frame) (sym (at_other unseen k c frame (λ e. omega arith))) (unseen_rises beside s frame)
    | inr same ↦
        let is : frame ≡ k = omega arith in
        subst (IsRisingBeside beside s frame) (sym (at_same unseen k c frame is)) (subst (λ n. IsRisingBeside beside s n c) (sym is) rising)
  ]
]

-- ---- stretches of frames

abbrev texts : FrameLines → Parts → ℕ → ℕ → List (List ℕ)
texts lines s first count = map (lines_of lines s) (range_with_len first count)

abbrev lives : Beside → Parts → Counts → ℕ → ℕ → List (List ℕ)
lives beside s counts first count = map (λ frame. noted_of beside s (counts frame) frame) (range_with_len first count)

even : (lines : FrameLines) (beside : Beside) (s : Parts) (counts : Counts) (first count : ℕ) → length (lives beside s counts first count) ≡ length (texts lines s first count)
even lines beside s counts first count =
    length-map-range_with_len (λ frame. noted_of beside s (counts frame) frame) first count ∙ sym (length-map-range_with_len (lines_of lines s) first count)

-- the frames of two stretches, by the counts of each
told_add : (head : List ℕ) (lines : FrameLines) (beside : Beside) (s : Parts) (c d : Counts) (first k m : ℕ)
    → frames_told head lines beside s (split (first + k) c d) first (k + m)
    ≡ texts_told head (texts lines s first k ++ texts lines s (first + k) m) (lives beside s c first k ++ lives beside s d (first + k) m)
told_add head lines beside s c d first k m =
    let both : ℕ → List ℕ = λ frame. noted_of beside s (split (first + k) c d frame) frame in
    let before : map both (range_with_len first k) ≡ lives beside s c first k =
    map-alike both (λ frame. noted_of beside s (c frame) frame) first k
    (λ i le lt. ap (λ (counts : ℕ → ℕ → ℕ → ℕ). noted_of beside s counts i) (split_before (first + k) c d i lt)) in
    let from : map both (range_with_len (first + k) m) ≡ lives beside s d (first + k) m =
    map-alike both (λ frame. noted_of beside s (d frame) frame) (first + k) m
    (λ i le lt. ap (λ (counts : ℕ → ℕ → ℕ → ℕ). noted_of beside s counts i) (split_from (first + k) c d i le)) in
    let frames = map-add (lines_of lines s) first k m in
    let notes : lives beside s (split (first + k) c d) first (k + m) ≡ lives beside s c first k ++ lives beside s d (first + k) m =
    map-add both first k m ∙ ap (λ (t : List (List ℕ)). t ++ map both (range_with_len (first + k) m)) before ∙ ap (λ (t : List (List ℕ)). lives beside s c first k ++ t) from in
    λ i. texts_told head (frames i) (notes i)

-- and by the same counts
told_more : (head : List ℕ) (lines : FrameLines) (beside : Beside) (s : Parts) (c : Counts) (first k m : ℕ)
    → frames_told head lines beside s c first (k + m)
    ≡ texts_told head (texts lines s first k ++ texts lines s (first + k) m) (lives beside s c first k ++ lives beside s c (first + k) m)
told_more head lines beside s c first k m =
    let frames = map-add (lines_of lines s) first k m in
    let notes = map-add (λ frame. noted_of beside s (c frame) frame) first k m in
    λ i. texts_told head (frames i) (notes i)

-- so many frames from a first on stand whole
pub record Wrote (head : List ℕ) (lines : FrameLines) (beside : Beside) (s : Parts) (first count : ℕ) (r0 r1 n0 n1 : SinkSays) : Type 0 where
  pub counts : Counts
  pub rising : AreRising beside s counts
  pub stands : Stands (frames_told head lines beside s counts first count) r0 r1 n0 n1

pub wrote_head : (head : List ℕ) (lines : FrameLines) (beside : Beside) (s : Parts) (first : ℕ) (r0 r1 n : SinkSays) → Appends r0 r1 (head ++ []) → r0.faults ≤ r1.faults → Wrote head lines beside s first 0 r0 r1 n n
wrote_head head lines beside s first r0 r1 n reported stays = record {
  counts = unseen;
  rising = unseen_rises beside s;
  stands = record { reported = reported; noted = nothing_appended n; report_stays = stays; stay = counts_same n };
}

pub wrote_none : (lines : FrameLines) (beside : Beside) (s : Parts) (first count : ℕ) (r n : SinkSays) → count ≡ 0 → Wrote [] lines beside s first count r r n n
wrote_none lines beside s first count r n none = subst (λ k. Wrote [] lines beside s first k r r n n) (sym none) (wrote_head [] lines beside s first r r n (nothing_appended r) (omega arith))

pub wrote_all : {head : List ℕ} {lines : FrameLines} {beside : Beside} {s : Parts} {first k count : ℕ} {r0 r1 n0 n1 : SinkSays} (x : Unit {0}) → k ≡ count → Wrote head lines beside s first k r0 r1 n0 n1
    → LeavesFrames head lines beside s first count (Ok x) r0 r1 n0 n1
wrote_all {head} {lines} {beside} {s} {first} {k} {count} {r0} {r1} {n0} {n1} x is w =
    subst (λ n. LeavesFrames head lines beside s first n (Ok x) r0 r1 n0 n1) is
    (record { counts = w.counts; rising = w.rising; texts = whole_leaves head (texts lines s first k) (lives beside s w.counts first k) r0 r1 n0 n1 x w.stands })

pub written : {head : List ℕ} {lines : FrameLines} {beside : Beside} {s : Parts} {first count : ℕ} {r0 r1 n0 n1 : SinkSays} (x : Unit {0}) → LeavesFrames head lines beside s first count (Ok x) r0 r1 n0 n1
    → Wrote head lines beside s first count r0 r1 n0 n1
written {head} {lines} {beside} {s} {first} {count} {r0} {r1} {n0} {n1} x l =
    record { counts = l.counts; rising = l.rising; stands = leaves_whole (frames_told head lines beside s l.counts first count) r0 r1 n0 n1 x l.texts }

-- more frames after them
pub wrote_more : {head : List ℕ} {lines : FrameLines} {beside : Beside} {s : Parts} {first k m place next : ℕ} {r0 r1 r2 n0 n1 n2 : SinkSays} (x : Unit {0}) → place ≡ first + k → next ≡ k + m
    → Wrote head lines beside s first k r0 r1 n0 n1 → LeavesFrames [] lines beside s place m (Ok x) r1 r2 n1 n2 → Wrote head lines beside s first next r0 r2 n0 n2
wrote_more {head} {lines} {beside} {s} {first} {k} {m} {place} {next} {r0} {r1} {r2} {n0} {n1} {n2} x at is a l = subst (λ n. Wrote head lines beside s first n r0 r2 n0 n2) (sym is) more
  where
    b : Wrote [] lines beside s (first + k) m r1 r2 n1 n2
    b = subst (λ n. Wrote [] lines beside s n m r1 r2 n1 n2) at (written x l)

    more : Wrote head lines beside s first (k + m) r0 r2 n0 n2
    more = record {
      counts = split (first + k) a.counts b.counts;
      rising = split_rises beside s (first + k) a.counts b.counts a.rising b.rising;
      stands = subst (λ (o : OutcomeOf). Stands o r0 r2 n0 n2) (sym (told_add head lines beside s a.counts b.counts first k m))
          (stands_then head (texts lines s first k) (lives beside s a.counts first k) (texts lines s (first + k) m) (lives beside s b.counts (first + k) m) r0 r1 r2 n0 n1 n2 a.stands b.stands);
    }

-- a call that failed in some frames left no more of those behind them
pub front_of_frames : {head : List ℕ} {lines : FrameLines} {beside : Beside} {s : Parts} {first k count : ℕ} {r0 r1 n0 n1 : SinkSays} (f : Failure) → k ≤ count
    → LeavesFrames head lines beside s first k (Err f) r0 r1 n0 n1 → LeavesFrames head lines beside s first count (Err f) r0 r1 n0 n1
front_of_frames {head} {lines} {beside} {s} {first} {k} {count} {r0} {r1} {n0} {n1} f le l =
    let m = count - k in
    let is : k + m ≡ count = omega arith in
    let c = l.counts in
    subst (λ n. LeavesFrames head lines beside s first n (Err f) r0 r1 n0 n1) is
    (record {
      counts = c;
      rising = l.rising;
      texts = subst (λ (o : OutcomeOf). LeavesTexts o (Err f) r0 r1 n0 n1) (sym (told_more head lines beside s c first k m))
          (leaves_no_more head (texts lines s first k) (lives beside s c first k) (texts lines s (first + k) m) (lives beside s c (first + k) m) f r0 r1 n0 n1 (even lines beside s c first k) l.texts);
    })

-- a call failed behind frames that stand
pub wrote_front : {head : List ℕ} {lines : FrameLines} {beside : Beside} {s : Parts} {first k m place count : ℕ} {r0 r1 r2 n0 n1 n2 : SinkSays} (f : Failure) → place ≡ first + k → k + m ≤ count
    → Wrote head lines beside s first k r0 r1 n0 n1 → LeavesFrames [] lines beside s place m (Err f) r1 r2 n1 n2 → LeavesFrames head lines beside s first count (Err f) r0 r2 n0 n2
wrote_front {head} {lines} {beside} {s} {first} {k} {m} {place} {count} {r0} {r1} {r2} {n0} {n1} {n2} f at le a l = front_of_frames f le here
  where
    b : LeavesFrames [] lines beside s (first + k) m (Err f) r1 r2 n1 n2
    b = subst (λ n. LeavesFrames [] lines beside s n m (Err f) r1 r2 n1 n2) at l

    here : LeavesFrames head lines beside s first (k + m) (Err f) r0 r2 n0 n2
    here = record {
      counts = split (first + k) a.counts b.counts;
      rising = split_rises beside s (first + k) a.counts b.counts a.rising b.rising;
      texts = subst (λ (o : OutcomeOf). LeavesTexts o (Err f) r0 r2 n0 n2) (sym (told_add head lines beside s a.counts b.counts first k m))
          (leaves_after head (texts lines s first k) (lives beside s a.counts first k) (texts lines s (first + k) m) (lives beside s b.counts (first + k) m) f r0 r1 r2 n0 n1 n2
          (even lines beside s a.counts first k) (even lines beside s b.counts (first + k) m) a.stands b.texts);
    }

-- the rest of the frames behind those that stand
pub wrote_then : {head : List ℕ} {lines : FrameLines} {beside : Beside} {s : Parts} {first k m place count : ℕ} {r0 r1 r2 n0 n1 n2 : SinkSays} (r : Result (Unit {0}) Failure) → place ≡ first + k → count ≡ k + m
    → Wrote head lines beside s first k r0 r1 n0 n1 → LeavesFrames [] lines beside s place m r r1 r2 n1 n2 → LeavesFrames head lines beside s first count r r0 r2 n0 n2
wrote_then (Ok x) at is a l = wrote_all x refl (wrote_more x at is a l)
wrote_then (Err f) at is a l = wrote_front f at (omega (arith, is)) a l

-- ---- failures before the frames

pub frames_no_memory : (head : List ℕ) (lines : FrameLines) (beside : Beside) (s : Parts) (first count : ℕ) (r n : SinkSays) → LeavesFrames head lines beside s first count (Err Memory) r r n n
frames_no_memory head lines beside s first count r n =
    record { counts = unseen; rising = unseen_rises beside s; texts = no_memory head (texts lines s first count) (lives beside s unseen first count) r n }

-- the head couldn't be written
pub head_unwritten : (head : List ℕ) (lines : FrameLines) (beside : Beside) (s : Parts) (count : ℕ) (e : SinkError) (r0 r1 n : SinkSays) → Writes r0 r1 (Err e) head
    → LeavesFrames head lines beside s 0 count (Err (sink_failure e)) r0 r1 n n
head_unwritten head lines beside s count e r0 r1 n w = front_of_frames {head = head} {lines = lines} {beside = beside} {s = s} {first = 0} {k = 0} {count = count} {r0 = r0} {r1 = r1} {n0 = n} {n1 = n} (sink_failure e) (omega arith)
    (record { counts = unseen; rising = unseen_rises beside s; texts = unwritten head head [] [] e r0 r1 n (append-nil head) (append-nil head) w })

-- ---- a frame

-- its lines by its pieces and verdicts
pub lines_are : (lines : FrameLines) (s : Parts) (frame pieces : ℕ) (verdicts : List Verdict) → pieces ≡ length (frame_pieces s frame) → verdicts ≡ frame_verdicts s frame
    → lines_by lines frame pieces verdicts ≡ lines_of lines s frame
lines_are lines s frame pieces verdicts e g = λ i. lines_by lines frame (e i) (g i)

pub frame_unwritten : (lines : FrameLines) (beside : Beside) (s : Parts) (frame : ℕ) (e : SinkError) (r0 r1 n : SinkSays) → Writes r0 r1 (Err e) (lines_of lines s frame)
    → LeavesFrames [] lines beside s frame 1 (Err (sink_failure e)) r0 r1 n n
frame_unwritten lines beside s frame e r0 r1 n w =
    let text = lines_of lines s frame in
    record {
      counts = unseen;
      rising = unseen_rises beside s;
      texts = unwritten [] text (texts lines s frame 1) (lives beside s unseen frame 1) e r0 r1 n (append-nil text) (append-nil text) w;
    }

-- written, and nothing is to note
pub frame_written : (lines : FrameLines) (s : Parts) (frame : ℕ) (x : Unit {0}) (r0 r1 n : SinkSays) → Appends r0 r1 (lines_of lines s frame) → r0.faults ≤ r1.faults
    → LeavesFrames [] lines Nothing s frame 1 (Ok x) r0 r1 n n
frame_written lines s frame x r0 r1 n reported stays =
    let text = lines_of lines s frame in
    record {
      counts = unseen;
      rising = unseen_rises Nothing s;
      texts = whole_leaves [] (texts lines s frame 1) (lives Nothing s unseen frame 1) r0 r1 n n x (frame_stands text [] r0 r1 n n reported stays (nothing_appended n) (counts_same n));
    }

-- written, and its looks noted
pub looks_noted : (lines : FrameLines) (s : Parts) (rounds watch frame : ℕ) (result : Result (Unit {0}) Failure) (seen : List LiveLineOf) (r0 r1 n0 n1 : SinkSays) → Appends r0 r1 (lines_of lines s frame) → r0.faults ≤ r1.faults
    → AreSeen (Looks rounds watch) s frame seen → NotesLines n0 n1 result (flat_map text_of_line seen) → LeavesFrames [] lines (Looks rounds watch) s frame 1 result r0 r1 n0 n1
looks_noted lines s rounds watch frame result seen r0 r1 n0 n1 reported stays live notes =
    let beside = Looks rounds watch in
    let counts = with_at unseen frame live.counts in
    let own : noted_of beside s (counts frame) frame ≡ flat_map text_of_line seen =
    ap (λ (c : ℕ → ℕ → ℕ → ℕ). noted_of beside s c frame) (at_same unseen frame live.counts frame refl) ∙ sym live.spelled in
    record {
      counts = counts;
      rising = one_rises beside s frame live.counts live.rising;
      texts = frame_noted (lines_of lines s frame) (noted_of beside s (counts frame) frame) result r0 r1 n0 n1 reported stays (subst (NotesLines n0 n1 result) (sym own) notes);
    }

-- written, and the line of its groups noted
pub groups_noted : (lines : FrameLines) (s : Parts) (most frame : ℕ) (result : Result (Unit {0}) Failure) (r0 r1 n0 n1 : SinkSays) → Appends r0 r1 (lines_of lines s frame) → r0.faults ≤ r1.faults
    → NotesLines n0 n1 result (frame_groups s most frame) → LeavesFrames [] lines (Groups most) s frame 1 result r0 r1 n0 n1
groups_noted lines s most frame result r0 r1 n0 n1 reported stays notes =
    record {
      counts = unseen;
      rising = unseen_rises (Groups most) s;
      texts = frame_noted (lines_of lines s frame) (frame_groups s most frame) result r0 r1 n0 n1 reported stays notes;
    }
