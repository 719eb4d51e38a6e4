-- Headers: their faults by their fields, and what an accepted one says.
use Rattle.std.proofs.Common.{◌≡◌, ℕ, ◌+◌, ◌<◌, ◌≤◌, ◌++◌, List, length, take, drop, arith, refl, sym, ap, ◌∙◌, Bool, true, false, Option, Some, None, w16, w32, rules, inl, inr}
use Rattle.std.specs.Prelude.{not, ◌==◌, nat_eq, nat_lt, slice_index, IfSome, length, if◌then◌else◌}
use Rattle.std.specs.List.{starts_with}
use Rattle.std.specs.Option.{option_or}
use Rattle.std.specs.Int.{from_le_bytes}
use Rattle.std.proofs.lemmas.Bool.{or_from, or_parts, le-ltb, ltb-false, eqb-true, eq-eqb, ne_eqb, not-false, not_from_true, cases_eq, cond-true, cond-false, cond_both}
use Rattle.std.proofs.lemmas.List.{drop-append-le, take-append-le, length-append, length-drop, get_or_append_left}
use Rattle.cull_base.specs.Screen.{IsSize}
use Rattle.scene_reader.specs.declared.error.SceneError.{SceneError}
use Rattle.scene_reader.specs.declared.error.SceneError.TheVariants.{BadMagic, BadWinding, BadReserved, BadGrade}
use Rattle.scene_reader.specs.declared.header.Counts.{Counts}
use Rattle.scene_reader.specs.Layout.{magic}
use Rattle.scene_reader.specs.Length.{header_length}
use Rattle.scene_reader.specs.Fault.{fault_if, short_at, word_at, version_at, batch_count_at, counts_with, counts_at, version_fault, start_fault, short_fault, screen_fault, flags_fault, count_fault, fields_fault, header_fault, IsRefusal}
use Rattle.scene_reader.specs.Header.{AreCounts}
use Rattle.scene_reader.proofs.Valid.{size_valid, size_good}

-- ---- what is so in one version and not in the other

pub at_first : {A : Type 0} (version : ℕ) (x y : A) → version ≡ 1 → (if version == 1 then x else y) ≡ x
at_first version x y e = cond-true (version == 1) x y (eq-eqb version 1 e)

pub at_second : {A : Type 0} (version : ℕ) (x y : A) → (version ≡ 1 → ⊥) → (if version == 1 then x else y) ≡ y
at_second version x y ne = cond-false (version == 1) x y (ne_eqb version 1 ne)

pub length_first : (version : ℕ) → version ≡ 1 → header_length version ≡ 32
length_first version e = at_first version 32 36 e

pub length_second : (version : ℕ) → (version ≡ 1 → ⊥) → header_length version ≡ 36
length_second version ne = at_second version 32 36 ne

pub length_some : (version : ℕ) → 32 ≤ header_length version
length_some version = cond_both (version == 1) 32 36 (λ k. 32 ≤ k) (λ _. omega arith) (λ _. omega arith)

pub length_within : (version : ℕ) → header_length version ≤ 36
length_within version = cond_both (version == 1) 32 36 (λ k. k ≤ 36) (λ _. omega arith) (λ _. omega arith)

-- ---- faults in turn

pub or_parts_none : {F : Type 0} (o p : Option F) → option_or o p ≡ None → (o ≡ None) × (p ≡ None)
or_parts_none None p e = (refl, e)
or_parts_none (Some x) p e = absurd cc

pub option_or_assoc : (a b c : Option SceneError) → option_or (option_or a b) c ≡ option_or a (option_or b c)
option_or_assoc None b c = refl
option_or_assoc (Some e) b c = refl

pub or_none_from : (o p : Option SceneError) → o ≡ None → p ≡ None → option_or o p ≡ None
or_none_from o p e f = rw (e, f) refl

pub or_first : (o p : Option SceneError) (e : SceneError) → o ≡ Some e → option_or o p ≡ Some e
or_first o p e h = rw h refl

pub or_second : {F : Type 0} (o p : Option F) → o ≡ None → option_or o p ≡ p
or_second o p e = rw e refl

pub fault_none : {F : Type 0} (b : Bool) (e : F) → fault_if b e ≡ None → b ≡ false
fault_none true e h = absurd cc
fault_none false e h = refl

pub fault_none_from : (b : Bool) (e : SceneError) → b ≡ false → fault_if b e ≡ None
fault_none_from b e h = rw h refl

-- ---- a refusal is one of the answers that speak of bytes

pub or_refusal : (o p : Option SceneError) → IfSome o IsRefusal → IfSome p IsRefusal → IfSome (option_or o p) IsRefusal
or_refusal None p h k = k
or_refusal (Some e) p h k = h

pub fault_refusal : (b : Bool) (e : SceneError) → IsRefusal e → IfSome (fault_if b e) IsRefusal
fault_refusal true e h = h
fault_refusal false e h = tt

-- the flags' faults of either version
abbrev first_flags : ℕ → ℕ → Option SceneError
first_flags winding grade = option_or (fault_if (nat_lt 2 winding) (BadWinding winding)) (fault_if (not (grade == 0)) (BadReserved grade))

abbrev second_flags : ℕ → ℕ → Option SceneError
second_flags winding grade = option_or (fault_if (not (winding == 0)) (BadWinding winding)) (fault_if (nat_lt 1 grade) (BadGrade grade))

pub start_refusal : (b : List ℕ) → IfSome (start_fault b) IsRefusal
unfolding start_fault
start_refusal b = search (rules, or_refusal, fault_refusal)

screen_refusal : (w h n : ℕ) → IfSome (screen_fault w h n) IsRefusal
unfolding screen_fault
screen_refusal w h n = search (rules, or_refusal, fault_refusal)

flags_refusal : (v w g : ℕ) → IfSome (flags_fault v w g) IsRefusal
flags_refusal v w g = cond_both (v == 1) (first_flags w g) (second_flags w g) (λ o. IfSome o IsRefusal) (λ _. search (rules, or_refusal, fault_refusal)) (λ _. search (rules, or_refusal, fault_refusal))

count_refusal : (n : Counts) → IfSome (count_fault n) IsRefusal
unfolding count_fault
count_refusal n = search (rules, or_refusal, fault_refusal) depth 10

pub fields_refusal : (b : List ℕ) (n : ℕ) → IfSome (fields_fault b n) IsRefusal
unfolding fields_fault
fields_refusal b n =
    or_refusal (screen_fault (short_at 6 b) (short_at 8 b) (short_at 10 b)) (option_or (flags_fault (version_at b) (slice_index b 12) (slice_index b 13)) (count_fault (counts_with n b)))
    (screen_refusal (short_at 6 b) (short_at 8 b) (short_at 10 b))
    (or_refusal (flags_fault (version_at b) (slice_index b 12) (slice_index b 13)) (count_fault (counts_with n b)) (flags_refusal (version_at b) (slice_index b 12) (slice_index b 13)) (count_refusal (counts_with n b)))

-- ---- a header by its fields

start_by : Bool → ℕ → Option SceneError
start_by begins version = option_or (fault_if (not begins) BadMagic) (version_fault version)

start_is : (b : List ℕ) → 32 ≤ length b → start_fault b ≡ start_by (starts_with nat_eq b magic) (version_at b)
unfolding start_fault start_by
start_is b long = rw (le-ltb (length b) 32 long) refl

fields_by : ℕ → ℕ → ℕ → ℕ → ℕ → ℕ → Counts → Option SceneError
fields_by version width height near winding grade counts = option_or (screen_fault width height near) (option_or (flags_fault version winding grade) (count_fault counts))

fields_is : (b : List ℕ) (n : ℕ) → fields_fault b n ≡ fields_by (version_at b) (short_at 6 b) (short_at 8 b) (short_at 10 b) (slice_index b 12) (slice_index b 13) (counts_with n b)
unfolding fields_fault fields_by
fields_is b n = refl

-- what lies within the front of bytes is read there
pub part_front : (place n : ℕ) (front rest : List ℕ) → place + n ≤ length front → take n (drop place (front ++ rest)) ≡ take n (drop place front)
part_front place n front rest h =
    ap (take n) (drop-append-le place front rest (omega (arith, h))) ∙ take-append-le n (drop place front) rest (omega (arith, length-drop place front, h))

pub short_front : (place : ℕ) (front rest : List ℕ) → place + 2 ≤ length front → short_at place (front ++ rest) ≡ short_at place front
short_front place front rest h = ap (from_le_bytes w16) (part_front place 2 front rest h)

pub word_front : (place : ℕ) (front rest : List ℕ) → place + 4 ≤ length front → word_at place (front ++ rest) ≡ word_at place front
word_front place front rest h = ap (from_le_bytes w32) (part_front place 4 front rest h)

pub version_front : (front rest : List ℕ) → 32 ≤ length front → version_at (front ++ rest) ≡ version_at front
version_front front rest h = short_front 4 front rest (omega (arith, h))

pub byte_front : (place : ℕ) (front rest : List ℕ) → place < 32 → 32 ≤ length front → slice_index (front ++ rest) place ≡ slice_index front place
byte_front place front rest lt h = get_or_append_left front rest 0 place (omega (arith, lt, h))

pub counts_with_front : (front rest : List ℕ) (n : ℕ) → 32 ≤ length front → counts_with n (front ++ rest) ≡ counts_with n front
counts_with_front front rest n h =
    rw (short_front 14 front rest (omega (arith, h)), word_front 16 front rest (omega (arith, h)), word_front 20 front rest (omega (arith, h)), word_front 24 front rest (omega (arith, h)), word_front 28 front rest (omega (arith, h))) refl

batch_count_front : (front rest : List ℕ) → length front ≡ header_length (version_at front) → batch_count_at (front ++ rest) ≡ batch_count_at front
batch_count_front front rest h =
    let v = version_at front in
    let long : 32 ≤ length front = omega (arith, h, length_some v) in
    let same : version_at (front ++ rest) ≡ v = version_front front rest long in
    elim (cases_eq v 1) [
      | inl one ↦ at_first (version_at (front ++ rest)) 0 (word_at 32 (front ++ rest)) (same ∙ one) ∙ sym (at_first v 0 (word_at 32 front) one)
      | inr other ↦
          at_second (version_at (front ++ rest)) 0 (word_at 32 (front ++ rest)) (λ e. other (sym same ∙ e))
          ∙ word_front 32 front rest (omega (arith, h, length_second v other))
          ∙ sym (at_second v 0 (word_at 32 front) other)
    ]

pub counts_front : (front rest : List ℕ) → length front ≡ header_length (version_at front) → counts_at (front ++ rest) ≡ counts_at front
counts_front front rest h =
    ap (λ (n : ℕ). counts_with n (front ++ rest)) (batch_count_front front rest h)
    ∙ counts_with_front front rest (batch_count_at front) (omega (arith, h, length_some (version_at front)))

pub starts_front : (front rest : List ℕ) → 32 ≤ length front → starts_with nat_eq (front ++ rest) magic ≡ starts_with nat_eq front magic
starts_front front rest h = rw (take-append-le 4 front rest (omega (arith, h))) refl

pub start_front : (front rest : List ℕ) → 32 ≤ length front → start_fault (front ++ rest) ≡ start_fault front
start_front front rest h =
    start_is (front ++ rest) (omega (arith, length-append front rest, h))
    ∙ ap (λ (b : Bool). start_by b (version_at (front ++ rest))) (starts_front front rest h)
    ∙ ap (λ (v : ℕ). start_by (starts_with nat_eq front magic) v) (version_front front rest h)
    ∙ sym (start_is front h)

pub fields_front : (front rest : List ℕ) (n : ℕ) → 32 ≤ length front → fields_fault (front ++ rest) n ≡ fields_fault front n
fields_front front rest n h =
    let b = front ++ rest in
    fields_is b n
    ∙ ap (λ (v : ℕ). fields_by v (short_at 6 b) (short_at 8 b) (short_at 10 b) (slice_index b 12) (slice_index b 13) (counts_with n b)) (version_front front rest h)
    ∙ ap (λ (w : ℕ). fields_by (version_at front) w (short_at 8 b) (short_at 10 b) (slice_index b 12) (slice_index b 13) (counts_with n b)) (short_front 6 front rest (omega (arith, h)))
    ∙ ap (λ (w : ℕ). fields_by (version_at front) (short_at 6 front) w (short_at 10 b) (slice_index b 12) (slice_index b 13) (counts_with n b)) (short_front 8 front rest (omega (arith, h)))
    ∙ ap (λ (w : ℕ). fields_by (version_at front) (short_at 6 front) (short_at 8 front) w (slice_index b 12) (slice_index b 13) (counts_with n b)) (short_front 10 front rest (omega (arith, h)))
    ∙ ap (λ (w : ℕ). fields_by (version_at front) (short_at 6 front) (short_at 8 front) (short_at 10 front) w (slice_index b 13) (counts_with n b)) (byte_front 12 front rest (omega arith) h)
    ∙ ap (λ (w : ℕ). fields_by (version_at front) (short_at 6 front) (short_at 8 front) (short_at 10 front) (slice_index front 12) w (counts_with n b)) (byte_front 13 front rest (omega arith) h)
    ∙ ap (λ (m : Counts). fields_by (version_at front) (short_at 6 front) (short_at 8 front) (short_at 10 front) (slice_index front 12) (slice_index front 13) m) (counts_with_front front rest n h)
    ∙ sym (fields_is front n)

-- a header that the input doesn't end within
pub header_is : (b : List ℕ) → header_length (version_at b) ≤ length b → header_fault b ≡ option_or (start_fault b) (fields_fault b (batch_count_at b))
unfolding header_fault
header_is b long = ap (option_or (start_fault b)) (or_second (short_fault b) (fields_fault b (batch_count_at b)) (fault_none_from _ _ (le-ltb (length b) (header_length (version_at b)) long)))

pub header_front : (front rest : List ℕ) → length front ≡ header_length (version_at front) → header_fault (front ++ rest) ≡ header_fault front
header_front front rest h =
    let long : 32 ≤ length front = omega (arith, h, length_some (version_at front)) in
    let same = version_front front rest long in
    let within : header_length (version_at (front ++ rest)) ≤ length (front ++ rest) = rw same (omega (arith, length-append front rest, h)) in
    header_is (front ++ rest) within
    ∙ ap (λ (o : Option SceneError). option_or o (fields_fault (front ++ rest) (batch_count_at (front ++ rest)))) (start_front front rest long)
    ∙ ap (λ (n : ℕ). option_or (start_fault front) (fields_fault (front ++ rest) n)) (batch_count_front front rest h)
    ∙ ap (option_or (start_fault front)) (fields_front front rest (batch_count_at front) long)
    ∙ sym (header_is front (omega (arith, h)))

-- ---- what an accepted header says

-- two bytes that are a winding in version 1, and a grade in version 2
pub record FlagsFine (version winding grade : ℕ) : Type 0 where
  pub winding_known : winding ≤ 2
  pub grade_known : grade ≤ 1
  pub first : version ≡ 1 → grade ≡ 0
  pub second : (version ≡ 1 → ⊥) → winding ≡ 0

pub record Accepted (b : List ℕ) : Type 0 where
  pub long : header_length (version_at b) ≤ length b
  pub begins : starts_with nat_eq b magic ≡ true
  pub version_some : 1 ≤ version_at b
  pub version_known : version_at b ≤ 2
  pub size : IsSize (short_at 6 b) (short_at 8 b)
  pub near_some : 1 ≤ short_at 10 b
  pub near_within : short_at 10 b ≤ 1024
  pub flags : FlagsFine (version_at b) (slice_index b 12) (slice_index b 13)
  pub counts : AreCounts (counts_at b)

pub version_valid : (v : ℕ) → version_fault v ≡ None → (1 ≤ v) × (v ≤ 2)
version_valid v e = let p = or_parts _ _ (fault_none _ _ e) in (ltb-false v 1 p.0, ltb-false 2 v p.1)

pub version_good : (v : ℕ) → 1 ≤ v → v ≤ 2 → version_fault v ≡ None
version_good v some known = fault_none_from _ _ (or_from _ _ (le-ltb v 1 some) (le-ltb 2 v known))

pub screen_valid : (w h n : ℕ) → screen_fault w h n ≡ None → IsSize w h × (1 ≤ n) × (n ≤ 1024)
unfolding screen_fault
screen_valid w h n e =
    let p = or_parts_none _ _ e in
    let near = or_parts _ _ (fault_none _ _ p.1) in
    (size_valid w h (fault_none _ _ p.0), ltb-false n 1 near.0, ltb-false 1024 n near.1)

pub screen_good : (w h n : ℕ) → IsSize w h → 1 ≤ n → n ≤ 1024 → screen_fault w h n ≡ None
unfolding screen_fault
screen_good w h n size some within = or_none_from _ _ (fault_none_from _ _ (size_good w h size)) (fault_none_from _ _ (or_from _ _ (le-ltb n 1 some) (le-ltb 1024 n within)))

pub flags_valid : (v w g : ℕ) → flags_fault v w g ≡ None → FlagsFine v w g
flags_valid v w g e = elim (cases_eq v 1) [
  | inl one ↦
      let p = or_parts_none (fault_if (nat_lt 2 w) (BadWinding w)) (fault_if (not (g == 0)) (BadReserved g)) (sym (at_first v (first_flags w g) (second_flags w g) one) ∙ e) in
      let none : g ≡ 0 = eqb-true g 0 (not-false _ (fault_none _ _ p.1)) in
      record { winding_known = ltb-false 2 w (fault_none _ _ p.0); grade_known = omega (arith, none); first = λ _. none; second = λ other. absurd (other one) }
  | inr other ↦
      let p = or_parts_none (fault_if (not (w == 0)) (BadWinding w)) (fault_if (nat_lt 1 g) (BadGrade g)) (sym (at_second v (first_flags w g) (second_flags w g) other) ∙ e) in
      let none : w ≡ 0 = eqb-true w 0 (not-false _ (fault_none _ _ p.0)) in
      record { winding_known = omega (arith, none); grade_known = ltb-false 1 g (fault_none _ _ p.1); first = λ one. absurd (other one); second = λ _. none }
]

pub flags_good : (v w g : ℕ) → FlagsFine v w g → flags_fault v w g ≡ None
flags_good v w g f = elim (cases_eq v 1) [
  | inl one ↦
      at_first v (first_flags w g) (second_flags w g) one
      ∙ or_none_from _ _ (fault_none_from _ _ (le-ltb 2 w f.winding_known)) (fault_none_from _ _ (not_from_true _ (eq-eqb g 0 (f.first one))))
  | inr other ↦
      at_second v (first_flags w g) (second_flags w g) other
      ∙ or_none_from _ _ (fault_none_from _ _ (not_from_true _ (eq-eqb w 0 (f.second other)))) (fault_none_from _ _ (le-ltb 1 g f.grade_known))
]

pub counts_valid : (n : Counts) → count_fault n ≡ None → AreCounts n
unfolding count_fault
counts_valid n e =
    let p = or_parts_none _ _ e in
    let q = or_parts_none _ _ p.1 in
    let r = or_parts_none _ _ q.1 in
    let s = or_parts_none _ _ r.1 in
    let t = or_parts_none _ _ s.1 in
    let f = or_parts _ _ (fault_none _ _ p.0) in
    record {
      some_frames = ltb-false n.frames 1 f.0;
      few_frames = ltb-false 256 n.frames f.1;
      few_vertices = ltb-false 262144 n.vertices (fault_none _ _ q.0);
      few_occluders = ltb-false 65536 n.occluders (fault_none _ _ r.0);
      few_object_tris = ltb-false 262144 n.object_tris (fault_none _ _ s.0);
      few_objects = ltb-false 65536 n.objects (fault_none _ _ t.0);
      few_batches = ltb-false 4096 n.batches (fault_none _ _ t.1);
    }

pub counts_good : (n : Counts) → AreCounts n → count_fault n ≡ None
unfolding count_fault
counts_good n h =
    or_none_from _ _ (fault_none_from _ _ (or_from _ _ (le-ltb n.frames 1 h.some_frames) (le-ltb 256 n.frames h.few_frames)))
    (or_none_from _ _ (fault_none_from _ _ (le-ltb 262144 n.vertices h.few_vertices))
    (or_none_from _ _ (fault_none_from _ _ (le-ltb 65536 n.occluders h.few_occluders))
    (or_none_from _ _ (fault_none_from _ _ (le-ltb 262144 n.object_tris h.few_object_tris))
    (or_none_from _ _ (fault_none_from _ _ (le-ltb 65536 n.objects h.few_objects))
    (fault_none_from _ _ (le-ltb 4096 n.batches h.few_batches))))))

pub header_accepted : (b : List ℕ) → header_fault b ≡ None → Accepted b
unfolding header_fault start_fault fields_fault
header_accepted b e =
    let p = or_parts_none _ _ e in
    let start = or_parts_none _ _ p.0 in
    let id = or_parts_none _ _ start.1 in
    let version = version_valid (version_at b) id.1 in
    let q = or_parts_none _ _ p.1 in
    let r = or_parts_none _ _ q.1 in
    let screen = screen_valid (short_at 6 b) (short_at 8 b) (short_at 10 b) r.0 in
    let s = or_parts_none _ _ r.1 in
    record {
      long = ltb-false (length b) (header_length (version_at b)) (fault_none _ _ q.0);
      begins = not-false _ (fault_none _ _ id.0);
      version_some = version.0;
      version_known = version.1;
      size = screen.0;
      near_some = screen.1;
      near_within = screen.2;
      flags = flags_valid (version_at b) (slice_index b 12) (slice_index b 13) s.0;
      counts = counts_valid (counts_at b) s.1;
    }

pub header_fine : (b : List ℕ) → Accepted b → header_fault b ≡ None
unfolding header_fault start_fault fields_fault
header_fine b a =
    or_none_from _ _ (or_none_from _ _ (fault_none_from _ _ (le-ltb (length b) 32 (omega (arith, a.long, length_some (version_at b))))) (or_none_from _ _ (fault_none_from _ _ (not_from_true _ a.begins)) (version_good (version_at b) a.version_some a.version_known)))
    (or_none_from _ _ (fault_none_from _ _ (le-ltb (length b) (header_length (version_at b)) a.long))
    (or_none_from _ _ (screen_good (short_at 6 b) (short_at 8 b) (short_at 10 b) a.size a.near_some a.near_within)
    (or_none_from _ _ (flags_good (version_at b) (slice_index b 12) (slice_index b 13) a.flags)
    (counts_good (counts_at b) a.counts))))
