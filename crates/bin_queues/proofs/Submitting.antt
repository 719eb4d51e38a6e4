-- A submitter that pushes the parts of a batch.
use Rattle.std.proofs.Common.{◌≡◌, ℕ, zero, suc, ◌+◌, ◌*◌, ◌<◌, ◌≤◌, inl, inr, List, [], ◌∷◌, drop, length, map, set, length-set, arith, refl, ap, ◌∙◌, sym, subst}
use Rattle.std.specs.Prelude.{slice_index_or}
use Rattle.std.proofs.Math.Nat.{mul-le-mul_right}
use Rattle.std.proofs.lemmas.Bool.{cases_lt}
use Rattle.std.proofs.lemmas.List.FromFn.{get_or-map-range_with_len, length-map-range_with_len}
use Rattle.atomic_table.specs.Seated.{TableId}
use Rattle.crossbeam_queue.specs.Passes.{view, IsSamePass}
use Rattle.crossbeam_utils.specs.Seq.{cell_view}
use Rattle.binning.specs.Cut.{IsCut, bin_count_of}
use Rattle.binning.specs.Parts.{PartOf, part, part_of, parts_of}
use Rattle.cull_base.proofs.Lists.{set_each, turn}
use Rattle.bin_queues.specs.declared.queue_rule.View.{View}
use Rattle.bin_queues.specs.declared.number_rule.NumberView.{NumberView}
use Rattle.bin_queues.specs.NumberRule.{publisher}
use Rattle.bin_queues.specs.QueueParts.{BatchedFrame, IsBatched, batches_in, bin_of_frame, nth_part}
use Rattle.bin_queues.specs.QueueRule.{submitter, IsSubmitter}
use Rattle.bin_queues.specs.Intakes.{QueueToken, NumberToken}
use Rattle.bin_queues.specs.Submitters.{AreSubmitting, HavePushed, frame_of, queues_of, submitting}

-- identities that agree, place by place
pub same_id : {X Y : Type 0} (f : X → TableId) (g : Y → TableId) (xs : List X) (ys : List Y) (i : ℕ) (d : X) (e : Y) → map f xs ≡ map g ys → i < length xs
    → f (slice_index_or xs i d) ≡ g (slice_index_or ys i e)
same_id f g [] ys i d e same lt = absurd (omega arith)
same_id f g (x ∷ xs) [] i d e same lt = absurd cc
same_id f g (x ∷ xs) (y ∷ ys) zero d e same lt = let h : f x ≡ g y = cc in h
same_id f g (x ∷ xs) (y ∷ ys) (suc i) d e same lt = let h : map f xs ≡ map g ys = cc in same_id f g xs ys i d e h (omega arith)

pub same_length : {X Y : Type 0} (f : X → TableId) (g : Y → TableId) (xs : List X) (ys : List Y) → map f xs ≡ map g ys → length xs ≡ length ys
same_length f g [] [] same = refl
same_length f g [] (y ∷ ys) same = absurd cc
same_length f g (x ∷ xs) [] same = absurd cc
same_length f g (x ∷ xs) (y ∷ ys) same = let h : map f xs ≡ map g ys = cc in ap suc (same_length f g xs ys h)

-- an identity that stays where an element is put
pub map_kept : {X : Type 0} (f : X → TableId) (xs : List X) (i : ℕ) (y d : X) → i < length xs → f y ≡ f (slice_index_or xs i d) → map f (set xs i y) ≡ map f xs
map_kept f [] i y d lt e = absurd (omega arith)
map_kept f (x ∷ xs) zero y d lt e = ap (λ z. z ∷ map f xs) e
map_kept f (x ∷ xs) (suc i) y d lt e = ap (λ l. f x ∷ l) (map_kept f xs i y d (omega arith) e)

some_bins : (c r : ℕ) → 1 ≤ c → 1 ≤ r → 0 < c * r
some_bins (suc c) (suc r) p q = omega arith
some_bins zero r p q = absurd (omega arith)
some_bins (suc c) zero p q = absurd (omega arith)

-- the passes tell which frame they are of
pub frame_kept : (frame : BatchedFrame) (k n : ℕ) (ps : List QueueToken) → IsCut frame.cut.columns frame.cut.rows → HavePushed frame k n ps → frame_of ps ≡ frame
frame_kept frame k n [] valid at = let none = at.count in absurd (let some = some_bins frame.cut.columns frame.cut.rows valid.some_columns valid.some_rows in omega (arith, none, some))
frame_kept frame k n (p ∷ ps) valid at = elim (cases_lt 0 n) [
  | inl more ↦ ap (λ (v : View). v.of.frame) (at.more 0 p (omega arith) more)
  | inr left ↦ ap (λ (v : View). v.of.frame) (at.left 0 p (omega arith) left)
]

-- one part more is pushed
pub pushed_one : (frame : BatchedFrame) (k b : ℕ) (ps : List QueueToken) (p' d : QueueToken) → HavePushed frame k b ps → b < length ps → IsSamePass (slice_index_or ps b d) p' → view p' ≡ submitter (bin_of_frame frame b) (k + 1)
    → HavePushed frame k (b + 1) (set ps b p')
pushed_one frame k b ps p' d at lt same pushed = record {
  count = length-set ps b p' ∙ at.count;
  more = λ j e jl jn. set_each (λ i (p : QueueToken). i < b + 1 → view p ≡ submitter (bin_of_frame frame i) (k + 1)) ps b p' (length ps) lt
      (λ i f il ne h. at.more i f il (omega (arith, h, ne))) (λ _. pushed) j e (let n = length-set ps b p' in omega (arith, jl, n)) jn;
  left = λ j e jl jn. set_each (λ i (p : QueueToken). b + 1 ≤ i → view p ≡ submitter (bin_of_frame frame i) k) ps b p' (length ps) lt
      (λ i f il ne h. at.left i f il (omega (arith, h))) (λ h. absurd (omega (arith, h))) j e (let n = length-set ps b p' in omega (arith, jl, n)) jn;
  free = λ j e jl. set_each (λ i (p : QueueToken). p.me.1 ≡ []) ps b p' (length ps) lt
      (λ i f il ne. at.free i f il) (same.2 ∙ at.free b d lt) j e (let n = length-set ps b p' in omega (arith, jl, n));
}

-- when all parts of a batch are pushed
pub pushed_all : (frame : BatchedFrame) (k n : ℕ) (ps : List QueueToken) → HavePushed frame k n ps → length ps ≤ n → HavePushed frame (k + 1) 0 ps
pushed_all frame k n ps at le = record {
  count = at.count;
  more = λ b d bl h. absurd (omega (arith, h));
  left = λ b d bl h. at.more b d bl (omega (arith, bl, le));
  free = at.free;
}

-- the part of a batch for a bin
pub part_at : (frame : BatchedFrame) (k b : ℕ) (parts : List PartOf) (x : PartOf) → parts ≡ parts_of frame.list frame.cut frame.size k → x ≡ slice_index_or parts b x → b < bin_count_of frame.cut → x ≡ nth_part (bin_of_frame frame b) k
part_at frame k b parts x are is lt =
    let f : ℕ → PartOf = λ bin. part bin k (part_of frame.list frame.cut frame.size k bin) in
    is ∙ ap (λ (l : List PartOf). slice_index_or l b x) are ∙ get_or-map-range_with_len f 0 (bin_count_of frame.cut) b b x lt (let z : 0 + b ≡ b = omega arith in z)

pub parts_length : (frame : BatchedFrame) (k : ℕ) (parts : List PartOf) → parts ≡ parts_of frame.list frame.cut frame.size k → length parts ≡ bin_count_of frame.cut
parts_length frame k parts are =
    let f : ℕ → PartOf = λ bin. part bin k (part_of frame.list frame.cut frame.size k bin) in
    ap length are ∙ length-map-range_with_len f 0 (bin_count_of frame.cut)

-- a submitter after one batch more
pub submitted : (k : ℕ) (ps ps' : List QueueToken) (n n' : NumberToken) → AreSubmitting k ps n → k < batches_in (frame_of ps) → HavePushed (frame_of ps) (k + 1) 0 ps' → cell_view n' ≡ publisher (k + 1) → AreSubmitting (k + 1) ps' n'
submitted k ps ps' n n' at lt pushed published =
    let same = frame_kept (frame_of ps) (k + 1) 0 ps' at.batched.is_cut pushed in
    record {
      batched = subst IsBatched (sym same) at.batched;
      pushed = subst (λ (f : BatchedFrame). HavePushed f (k + 1) 0 ps') (sym same) pushed;
      published = published;
      within = subst (λ (f : BatchedFrame). k + 1 ≤ batches_in f) (sym same) (omega (arith, lt));
    }

pub submitting_on : (k : ℕ) (ps ps' : List QueueToken) (n n' : NumberToken) → AreSubmitting k ps n → HavePushed (frame_of ps) (k + 1) 0 ps' → queues_of ps' ≡ queues_of ps → n'.table_id ≡ n.table_id → cell_view n' ≡ publisher (k + 1)
    → let s = submitting ps n in submitting ps' n' ≡ record { queues = s.queues; number = s.number; frame = s.frame; batches = s.batches + 1 }
submitting_on k ps ps' n n' at pushed same id published =
    let kept = frame_kept (frame_of ps) (k + 1) 0 ps' at.batched.is_cut pushed in
    let counted : (cell_view n').number ≡ (cell_view n).number + 1 = ap (λ (v : NumberView). v.number) published ∙ ap (λ (v : NumberView). v.number + 1) (sym at.published) in
    λ i. record { queues = same i; number = id i; frame = kept i; batches = counted i }

few_bins : (c r : ℕ) → c ≤ 8 → r ≤ 8 → c * r ≤ 64
few_bins c r p q = let h : c * r ≤ 8 * r = mul-le-mul_right r p in omega (arith, h)

-- the place of a part whose turn it is
pub record HasPlace (b : ℕ) (passes queues : ℕ) : Type 0 where
  pub pass : b < passes
  pub queue : b < queues
  pub few : b < 64

pub has_place : {Q : Type 0} (id : Q → TableId) (qs : List Q) (ps old : List QueueToken) (parts rest : List PartOf) (frame : BatchedFrame) (k b : ℕ) (x : PartOf) (ys : List PartOf) → IsBatched frame → queues_of old ≡ map id qs
    → parts ≡ parts_of frame.list frame.cut frame.size k → rest ≡ drop b parts → rest ≡ x ∷ ys → queues_of ps ≡ queues_of old → HavePushed frame k b ps → HasPlace b (length ps) (length qs)
has_place id qs ps old parts rest frame k b x ys batched own are left is same at =
    let t = turn parts b x ys (sym left ∙ is) in
    let lt = t.2 in
    let whole = parts_length frame k parts are in
    let count = at.count in
    let queues = same_length (λ (p : QueueToken). p.table_id) id ps qs (same ∙ own) in
    let valid = batched.is_cut in
    let few = few_bins frame.cut.columns frame.cut.rows valid.few_columns valid.few_rows in
    record { pass = omega (arith, lt, whole, count); queue = omega (arith, lt, whole, count, queues); few = omega (arith, lt, whole, few) }

-- what the pass of its bin is good for
pub record MayPush {Q : Type 0} (id : Q → TableId) (room : Q → ℕ) (frame : BatchedFrame) (k b : ℕ) (p : QueueToken) (q : Q) (x : PartOf) : Type 0 where
  pub own : p.table_id ≡ id q
  pub free : p.me.1 ≡ []
  pub submits : IsSubmitter (view p)
  pub next : x ≡ nth_part (view p).of (view p).number
  pub short : (view p).number < batches_in (view p).of.frame
  pub roomy : batches_in (view p).of.frame ≤ room q
  pub named : (view p).of ≡ bin_of_frame frame b
  pub counted : (view p).number ≡ k

pub may_push : {Q : Type 0} (id : Q → TableId) (room : Q → ℕ) (qs : List Q) (ps old : List QueueToken) (parts rest : List PartOf) (frame : BatchedFrame) (k b : ℕ) (x : PartOf) (ys : List PartOf) (p : QueueToken) (q : Q) → IsBatched frame → queues_of old ≡ map id qs
    → ((n : ℕ) (d : Q) → n < length qs → batches_in frame ≤ room (slice_index_or qs n d)) → k < batches_in frame
    → parts ≡ parts_of frame.list frame.cut frame.size k → rest ≡ drop b parts → rest ≡ x ∷ ys → queues_of ps ≡ queues_of old → HavePushed frame k b ps
    → p ≡ slice_index_or ps b p → q ≡ slice_index_or qs b q → MayPush id room frame k b p q x
may_push {Q} id room qs ps old parts rest frame k b x ys p q batched own rooms short are left is same at p_is q_is =
    let t = turn parts b x ys (sym left ∙ is) in
    let place = has_place id qs ps old parts rest frame k b x ys batched own are left is same at in
    let v : view p ≡ submitter (bin_of_frame frame b) k = ap (λ (z : QueueToken). view z) p_is ∙ at.left b p place.pass (omega arith) in
    let named : (view p).of ≡ bin_of_frame frame b = ap (λ (w : View). w.of) v in
    let counted : (view p).number ≡ k = ap (λ (w : View). w.number) v in
    let lt = t.2 in
    let whole = parts_length frame k parts are in
    let the : x ≡ nth_part (bin_of_frame frame b) k = part_at frame k b parts x are t.1 (omega (arith, lt, whole)) in
    record {
      own = ap (λ (z : QueueToken). z.table_id) p_is ∙ same_id (λ (z : QueueToken). z.table_id) id ps qs b p q (same ∙ own) place.pass ∙ ap id (sym q_is);
      free = ap (λ (z : QueueToken). z.me.1) p_is ∙ at.free b p place.pass;
      submits = subst IsSubmitter (sym v) refl;
      next = the ∙ (λ i. nth_part (sym named i) (sym counted i));
      short = rw (named, counted) short;
      roomy = rw named (subst (λ (z : Q). batches_in frame ≤ room z) (sym q_is) (rooms b q place.queue));
      named = named;
      counted = counted;
    }

-- the pass of a bin's queue by which the submitter tells
pub record MayTell (frame : BatchedFrame) (k b : ℕ) (p : QueueToken) : Type 0 where
  pub submits : view p ≡ submitter (bin_of_frame frame b) k
  pub free : p.me.1 ≡ []

pub may_tell : (k b : ℕ) (ps : List QueueToken) (n : NumberToken) (p : QueueToken) → AreSubmitting k ps n → b < length ps → p ≡ slice_index_or ps b p → MayTell (frame_of ps) k b p
may_tell k b ps n p at lt is = record {
  submits = ap (λ (z : QueueToken). view z) is ∙ at.pushed.left b p lt (omega arith);
  free = ap (λ (z : QueueToken). z.me.1) is ∙ at.pushed.free b p lt;
}

-- a pass by which it told is the same
still_pushed : (frame : BatchedFrame) (k b : ℕ) (ps : List QueueToken) (p' d : QueueToken) → HavePushed frame k 0 ps → b < length ps → IsSamePass (slice_index_or ps b d) p' → view p' ≡ submitter (bin_of_frame frame b) k → HavePushed frame k 0 (set ps b p')
still_pushed frame k b ps p' d at lt same told = record {
  count = length-set ps b p' ∙ at.count;
  more = λ j e jl jn. absurd (omega (arith, jn));
  left = λ j e jl jn. set_each (λ i (p : QueueToken). view p ≡ submitter (bin_of_frame frame i) k) ps b p' (length ps) lt
      (λ i f il ne. at.left i f il (omega arith)) told j e (let n = length-set ps b p' in omega (arith, jl, n));
  free = λ j e jl. set_each (λ i (p : QueueToken). p.me.1 ≡ []) ps b p' (length ps) lt
      (λ i f il ne. at.free i f il) (same.2 ∙ at.free b d lt) j e (let n = length-set ps b p' in omega (arith, jl, n));
}

-- so is the submitter
pub told_on : (k b : ℕ) (ps : List QueueToken) (n : NumberToken) (p p' : QueueToken) → AreSubmitting k ps n → b < length ps → p ≡ slice_index_or ps b p → IsSamePass p p' → view p' ≡ view p
    → AreSubmitting k (set ps b p') n × (submitting (set ps b p') n ≡ submitting ps n)
told_on k b ps n p p' at lt is same told =
    let frame = frame_of ps in
    let named = (may_tell k b ps n p at lt is).submits in
    let pushed = still_pushed frame k b ps p' p at.pushed lt (subst (λ (z : QueueToken). IsSamePass z p') is same) (told ∙ named) in
    let kept = frame_kept frame k 0 (set ps b p') at.batched.is_cut pushed in
    let queues : queues_of (set ps b p') ≡ queues_of ps = map_kept (λ (z : QueueToken). z.table_id) ps b p' p lt (same.0 ∙ ap (λ (z : QueueToken). z.table_id) is) in (
      record {
        batched = subst IsBatched (sym kept) at.batched;
        pushed = subst (λ (f : BatchedFrame). HavePushed f k 0 (set ps b p')) (sym kept) pushed;
        published = at.published;
        within = subst (λ (f : BatchedFrame). k ≤ batches_in f) (sym kept) at.within;
      },
      λ i. record { queues = queues i; number = n.table_id; frame = kept i; batches = (cell_view n).number },
    )
