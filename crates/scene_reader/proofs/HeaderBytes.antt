-- Headers as bytes, and back.
use Rattle.std.proofs.Common.{◌≡◌, ℕ, ◌+◌, ◌≤◌, ◌++◌, ◌∷◌, List, [], length, get_or, take, drop, arith, refl, sym, ap, ◌∙◌, subst, true, All, inl, inr, w32}
use Rattle.std.specs.Prelude.{slice_index, nat_eq, ◌==◌}
use Rattle.std.specs.List.{starts_with}
use Rattle.std.specs.Int.{from_le_bytes}
use Rattle.std.specs.Cmp.Lexicographic.{same_text}
use Rattle.std.proofs.Math.Seq.{take-add}
use Rattle.std.proofs.lemmas.Bool.{cases_eq, cond_both}
use Rattle.std.proofs.lemmas.List.{take_all, drop_more, drop_all, drop_at, take-append-drop, length-append, length-drop}
use Rattle.cull_base.specs.declared.nearness.Grade.{Grade}
use Rattle.cull_base.specs.declared.nearness.Grade.TheVariants.{Narrow, Wide}
use Rattle.cull_base.specs.declared.scene_types.Batch.{Batch}
use Rattle.scene_reader.specs.declared.header.Counts.{Counts}
use Rattle.scene_reader.specs.Layout.{Parts, IsScene, magic, short_bytes, word_bytes, winding_code, grade_code, winding_byte, stored_batches, batch_count_bytes, header_bytes}
use Rattle.scene_reader.specs.Length.{header_length}
use Rattle.scene_reader.specs.Fault.{version_at, short_at, word_at, batch_count_at, counts_with, counts_at}
use Rattle.scene_reader.specs.Header.{AreCounts}
use Rattle.cull_base.proofs.Takes.{IsByte}
use Rattle.scene_reader.proofs.Codes.{short_again, word_again, short_back, word_back}
use Rattle.scene_reader.proofs.BatchTable.{winding_small, byte_second}
use Rattle.scene_reader.proofs.Headers.{Accepted, FlagsFine, at_first, at_second, length_some, length_first, length_second, version_front, short_front, word_front, byte_front, starts_front}

grow : (a n m : ℕ) (h pre part : List ℕ) → a + n ≡ m → take a h ≡ pre → take n (drop a h) ≡ part → take m h ≡ pre ++ part
grow a n m h pre part sum before more = ap (λ (k : ℕ). take k h) (sym sum) ∙ take-add a n h ∙ ap (λ (t : List ℕ). t ++ take n (drop a h)) before ∙ ap (λ (t : List ℕ). pre ++ t) more

two_at : (k : ℕ) (h : List ℕ) → k + 2 ≤ length h → take 2 (drop k h) ≡ slice_index h k ∷ slice_index h (k + 1) ∷ []
two_at k h long = ap (take 2) (drop_more h k 0 (omega arith)) ∙ ap (λ (t : List ℕ). get_or h k 0 ∷ take 1 t) (drop_more h (k + 1) 0 (omega arith))

-- how many entries each table has
unfoldable pub counts_of : Parts → Counts
counts_of p = record { frames = length p.cameras; vertices = length p.vertices; occluders = length p.occluders; batches = length (stored_batches p.version p.batches); object_tris = length p.object_tris; objects = length p.objects }

-- the header says these parts' version, size, near distance, flags and counts
pub record HeaderSays (h : List ℕ) (p : Parts) : Type 0 where
  pub version : version_at h ≡ p.version
  pub width : short_at 6 h ≡ p.width
  pub height : short_at 8 h ≡ p.height
  pub near : short_at 10 h ≡ p.near
  pub winding : slice_index h 12 ≡ winding_byte p.version p.batches
  pub grade : slice_index h 13 ≡ grade_code p.grade
  pub frames : short_at 14 h ≡ length p.cameras
  pub vertices : word_at 16 h ≡ length p.vertices
  pub occluders : word_at 20 h ≡ length p.occluders
  pub object_tris : word_at 24 h ≡ length p.object_tris
  pub objects : word_at 28 h ≡ length p.objects
  pub batches : batch_count_at h ≡ length (stored_batches p.version p.batches)

-- ---- the first 32 bytes, and what follows them in version 2

front_bytes : Parts → List ℕ
front_bytes p =
    magic ++ short_bytes p.version ++ short_bytes p.width ++ short_bytes p.height ++ short_bytes p.near
    ++ winding_byte p.version p.batches ∷ grade_code p.grade ∷ [] ++ short_bytes (length p.cameras)
    ++ word_bytes (length p.vertices) ++ word_bytes (length p.occluders)
    ++ word_bytes (length p.object_tris) ++ word_bytes (length p.objects)

two_parts : (p : Parts) → header_bytes p ≡ front_bytes p ++ batch_count_bytes p.version p.batches
unfolding header_bytes front_bytes
two_parts p = refl

front_long : (p : Parts) → length (front_bytes p) ≡ 32
unfolding front_bytes
front_long p = refl

-- the bytes behind the first 32
count_back : (p : Parts) (h : List ℕ) → length h ≡ header_length p.version → All IsByte h → HeaderSays h p → drop 32 h ≡ batch_count_bytes p.version p.batches
count_back p h len fits says = elim (cases_eq p.version 1) [
  | inl one ↦ drop_all 32 h (omega (arith, len, length_first p.version one)) ∙ sym (at_first p.version [] (word_bytes (length p.batches)) one)
  | inr other ↦
      let long : length h ≡ 36 = omega (arith, len, length_second p.version other) in
      let told : word_at 32 h ≡ length p.batches =
      sym (at_second (version_at h) 0 (word_at 32 h) (λ e. other (sym says.version ∙ e))) ∙ says.batches ∙ ap (λ (bs : List Batch). length bs) (at_second p.version [] p.batches other) in
      sym (take_all 4 (drop 32 h) (omega (arith, length-drop 32 h, long)))
      ∙ sym (word_back 32 h (omega (arith, long)) fits)
      ∙ ap word_bytes told
      ∙ sym (at_second p.version [] (word_bytes (length p.batches)) other)
]

pub header_back : (p : Parts) (h : List ℕ) → length h ≡ header_length p.version → All IsByte h → Accepted h → HeaderSays h p → h ≡ header_bytes p
unfolding front_bytes
header_back p h len fits a says =
    let long : 32 ≤ length h = omega (arith, len, length_some p.version) in
    let short : (k : ℕ) → k + 2 ≤ 32 → (n : ℕ) → short_at k h ≡ n → take 2 (drop k h) ≡ short_bytes n = λ k le n e. sym (short_back k h (omega (arith, long, le)) fits) ∙ ap short_bytes e in
    let word : (k : ℕ) → k + 4 ≤ 32 → (n : ℕ) → word_at k h ≡ n → take 4 (drop k h) ≡ word_bytes n = λ k le n e. sym (word_back k h (omega (arith, long, le)) fits) ∙ ap word_bytes e in
    let p4 : take 4 h ≡ magic = sym (same_text magic (take 4 h) (sym a.begins)) in
    let p6 = grow 4 2 6 h magic (short_bytes p.version) refl p4 (short 4 (omega arith) p.version says.version) in
    let p8 = grow 6 2 8 h _ (short_bytes p.width) refl p6 (short 6 (omega arith) p.width says.width) in
    let p10 = grow 8 2 10 h _ (short_bytes p.height) refl p8 (short 8 (omega arith) p.height says.height) in
    let p12 = grow 10 2 12 h _ (short_bytes p.near) refl p10 (short 10 (omega arith) p.near says.near) in
    let w = winding_byte p.version p.batches in
    let flags : take 2 (drop 12 h) ≡ w ∷ grade_code p.grade ∷ [] = two_at 12 h (omega (arith, long)) ∙ ap (λ (x : ℕ). x ∷ slice_index h 13 ∷ []) says.winding ∙ ap (λ (x : ℕ). w ∷ x ∷ []) says.grade in
    let p14 = grow 12 2 14 h _ (w ∷ grade_code p.grade ∷ []) refl p12 flags in
    let p16 = grow 14 2 16 h _ (short_bytes (length p.cameras)) refl p14 (short 14 (omega arith) (length p.cameras) says.frames) in
    let p20 = grow 16 4 20 h _ (word_bytes (length p.vertices)) refl p16 (word 16 (omega arith) (length p.vertices) says.vertices) in
    let p24 = grow 20 4 24 h _ (word_bytes (length p.occluders)) refl p20 (word 20 (omega arith) (length p.occluders) says.occluders) in
    let p28 = grow 24 4 28 h _ (word_bytes (length p.object_tris)) refl p24 (word 24 (omega arith) (length p.object_tris) says.object_tris) in
    let p32 : take 32 h ≡ front_bytes p = grow 28 4 32 h _ (word_bytes (length p.objects)) refl p28 (word 28 (omega arith) (length p.objects) says.objects) in
    sym (take-append-drop 32 h)
    ∙ ap (λ (t : List ℕ). t ++ drop 32 h) p32
    ∙ ap (λ (t : List ℕ). front_bytes p ++ t) (count_back p h len fits says)
    ∙ sym (two_parts p)

grade_small : (g : Grade) → grade_code g ≤ 1
grade_small Narrow = omega arith
grade_small Wide = omega arith

byte_small : (version : ℕ) (bs : List Batch) → winding_byte version bs ≤ 2
byte_small version [] = omega arith
byte_small version (b ∷ bs) = cond_both (version == 1) (winding_code b.winding) 0 (λ k. k ≤ 2) (λ _. winding_small b.winding) (λ _. omega arith)

word_long : (n : ℕ) → length (word_bytes n) ≡ 4
word_long n = refl

count_long : (version : ℕ) (bs : List Batch) → 32 + length (batch_count_bytes version bs) ≡ header_length version
count_long version bs = elim (cases_eq version 1) [
  | inl one ↦ omega (arith, ap length (at_first version [] (word_bytes (length bs)) one), length_first version one)
  | inr other ↦ omega (arith, ap length (at_second version [] (word_bytes (length bs)) other), word_long (length bs), length_second version other)
]

pub header_long : (p : Parts) → length (header_bytes p) ≡ header_length p.version
header_long p = ap length (two_parts p) ∙ omega (arith, length-append (front_bytes p) (batch_count_bytes p.version p.batches), front_long p, count_long p.version p.batches)

-- what the first 32 bytes say
record FrontSays (h : List ℕ) (p : Parts) : Type 0 where
  version : version_at h ≡ p.version
  width : short_at 6 h ≡ p.width
  height : short_at 8 h ≡ p.height
  near : short_at 10 h ≡ p.near
  winding : slice_index h 12 ≡ winding_byte p.version p.batches
  grade : slice_index h 13 ≡ grade_code p.grade
  frames : short_at 14 h ≡ length p.cameras
  vertices : word_at 16 h ≡ length p.vertices
  occluders : word_at 20 h ≡ length p.occluders
  object_tris : word_at 24 h ≡ length p.object_tris
  objects : word_at 28 h ≡ length p.objects
  begins : starts_with nat_eq h magic ≡ true

front_says : (p : Parts) → IsScene p → FrontSays (front_bytes p) p
unfolding front_bytes
front_says p s = record {
  version = short_again p.version (omega (arith, s.version_known));
  width = short_again p.width (omega (arith, s.size.within_width));
  height = short_again p.height (omega (arith, s.size.within_height));
  near = short_again p.near (omega (arith, s.near_within));
  winding = refl;
  grade = refl;
  frames = short_again (length p.cameras) (omega (arith, s.few_frames));
  vertices = word_again (length p.vertices) (omega (arith, s.few_vertices));
  occluders = word_again (length p.occluders) (omega (arith, s.few_occluders));
  object_tris = word_again (length p.object_tris) (omega (arith, s.few_object_tris));
  objects = word_again (length p.objects) (omega (arith, s.few_objects));
  begins = refl;
}

-- the same of the first 32 bytes and more
says_on : (front rest : List ℕ) (p : Parts) → length front ≡ 32 → FrontSays front p → FrontSays (front ++ rest) p
says_on front rest p len says = record {
  version = version_front front rest (omega (arith, len)) ∙ says.version;
  width = short_front 6 front rest (omega (arith, len)) ∙ says.width;
  height = short_front 8 front rest (omega (arith, len)) ∙ says.height;
  near = short_front 10 front rest (omega (arith, len)) ∙ says.near;
  winding = byte_front 12 front rest (omega arith) (omega (arith, len)) ∙ says.winding;
  grade = byte_front 13 front rest (omega arith) (omega (arith, len)) ∙ says.grade;
  frames = short_front 14 front rest (omega (arith, len)) ∙ says.frames;
  vertices = word_front 16 front rest (omega (arith, len)) ∙ says.vertices;
  occluders = word_front 20 front rest (omega (arith, len)) ∙ says.occluders;
  object_tris = word_front 24 front rest (omega (arith, len)) ∙ says.object_tris;
  objects = word_front 28 front rest (omega (arith, len)) ∙ says.objects;
  begins = starts_front front rest (omega (arith, len)) ∙ says.begins;
}

-- the number of batches that the header's end says
count_says : (p : Parts) → IsScene p → version_at (header_bytes p) ≡ p.version → batch_count_at (header_bytes p) ≡ length (stored_batches p.version p.batches)
count_says p s same = elim (cases_eq p.version 1) [
  | inl one ↦
      at_first (version_at (header_bytes p)) 0 (word_at 32 (header_bytes p)) (same ∙ one)
      ∙ sym (ap (λ (bs : List Batch). length bs) (at_first p.version [] p.batches one))
  | inr other ↦
      let tail : drop 32 (header_bytes p) ≡ word_bytes (length p.batches) =
      ap (drop 32) (two_parts p) ∙ drop_at (front_bytes p) (batch_count_bytes p.version p.batches) 32 (front_long p) ∙ at_second p.version [] (word_bytes (length p.batches)) other in
      at_second (version_at (header_bytes p)) 0 (word_at 32 (header_bytes p)) (λ e. other (sym same ∙ e))
      ∙ ap (λ (t : List ℕ). from_le_bytes w32 (take 4 t)) tail
      ∙ ap (from_le_bytes w32) (take_all 4 (word_bytes (length p.batches)) (omega (arith, word_long (length p.batches))))
      ∙ word_again (length p.batches) (omega (arith, s.few_batches))
      ∙ sym (ap (λ (bs : List Batch). length bs) (at_second p.version [] p.batches other))
]

whole_says : (p : Parts) → IsScene p → FrontSays (header_bytes p) p
whole_says p s = subst (λ (h : List ℕ). FrontSays h p) (sym (two_parts p)) (says_on (front_bytes p) (batch_count_bytes p.version p.batches) p (front_long p) (front_says p s))

pub header_says : (p : Parts) → IsScene p → HeaderSays (header_bytes p) p
header_says p s =
    let says = whole_says p s in
    record {
      version = says.version;
      width = says.width;
      height = says.height;
      near = says.near;
      winding = says.winding;
      grade = says.grade;
      frames = says.frames;
      vertices = says.vertices;
      occluders = says.occluders;
      object_tris = says.object_tris;
      objects = says.objects;
      batches = count_says p s says.version;
    }

pub says_counts : (h : List ℕ) (p : Parts) → HeaderSays h p → counts_at h ≡ counts_of p
unfolding counts_of
says_counts h p s =
    ap (λ (n : ℕ). counts_with n h) s.batches
    ∙ (rw (s.frames, s.vertices, s.occluders, s.object_tris, s.objects) refl)

-- no more batches are stored than there are
pub stored_few : (version : ℕ) (bs : List Batch) → length (stored_batches version bs) ≤ length bs
stored_few version bs = cond_both (version == 1) [] bs (λ xs. length xs ≤ length bs) (λ _. omega arith) (λ _. omega arith)

scene_counts : (p : Parts) → IsScene p → AreCounts (counts_of p)
unfolding counts_of
scene_counts p s = record {
  some_frames = s.some_frames;
  few_frames = s.few_frames;
  few_vertices = s.few_vertices;
  few_occluders = s.few_occluders;
  few_batches = omega (arith, stored_few p.version p.batches, s.few_batches);
  few_object_tris = s.few_object_tris;
  few_objects = s.few_objects;
}

-- the flags of a scene are those of its version
scene_flags : (p : Parts) → IsScene p → FlagsFine p.version (winding_byte p.version p.batches) (grade_code p.grade)
scene_flags p s = record {
  winding_known = byte_small p.version p.batches;
  grade_known = grade_small p.grade;
  first = λ one. ap grade_code (s.narrow one);
  second = λ other. byte_second p.version p.batches other;
}

pub scene_accepted : (p : Parts) → IsScene p → Accepted (header_bytes p)
scene_accepted p s =
    let says = header_says p s in
    let flags = scene_flags p s in
    record {
      long = rw says.version (omega (arith, header_long p));
      begins = (whole_says p s).begins;
      version_some = omega (arith, says.version, s.version_some);
      version_known = omega (arith, says.version, s.version_known);
      size = rw (says.width, says.height) s.size;
      near_some = omega (arith, says.near, s.near_some);
      near_within = omega (arith, says.near, s.near_within);
      flags = rw (says.version, says.winding, says.grade) flags;
      counts = rw (says_counts (header_bytes p) p says) (scene_counts p s);
    }
