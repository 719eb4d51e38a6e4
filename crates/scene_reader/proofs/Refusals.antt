-- What reading answers, from what was taken.
use Rattle.std.proofs.Common.{◌≡◌, ℕ, ℤ, ◌+◌, ◌-◌, ◌<◌, ◌≤◌, ◌++◌, ◌∷◌, List, [], length, take, drop, map, arith, refl, sym, ap, ◌∙◌, subst, All, append_assoc, Option, Some, None, Result, Err, rules, inl, inr, is_some, w32}
use Rattle.std.specs.Prelude.{IfSome, nat_lt, slice_index, ◌==◌, if◌then◌else◌}
use Rattle.std.specs.Option.{option_or, option_map}
use Rattle.std.specs.Int.{from_le_bytes}
use Rattle.std.proofs.lemmas.Bool.{le-ltb, lt-ltb, cases_eq, cond-true, cond-false, cond_both}
use Rattle.std.proofs.lemmas.List.{length-append, append-nil, drop_at, drop_all, length-map}
use Rattle.std.proofs.lemmas.Option.{same_Some}
use Rattle.cull_base.specs.Batches.{AreBatchesOf}
use Rattle.cull_base.specs.Stream.{SourceSays, Takes, IsAtEnd}
use Rattle.cull_base.specs.declared.scene_types.Tri.{Tri}
use Rattle.scene_reader.specs.declared.error.SceneError.{SceneError}
use Rattle.scene_reader.specs.declared.error.SceneError.TheVariants.{Truncated, Trailing, Read, BadVertex, BadIndex, BadCamera, BadBatch}
use Rattle.scene_reader.specs.declared.header.Header.{Header}
use Rattle.scene_reader.specs.declared.header.Counts.{Counts}
use Rattle.scene_reader.specs.Layout.{Parts, IsScene, IsObject, raw_object, raw_batch, layout, winding_code, grade_code, stored_batches}
use Rattle.scene_reader.specs.Length.{header_length, scene_length}
use Rattle.scene_reader.specs.Fault.{IsRefusal, fault_if, first_among, version_at, word_at, batch_count_at, counts_with, counts_at, start_fault, short_fault, fields_fault, header_fault, header_taken, length_fault, batches_told, tables_fault, first_fault, vertex_fault, index_fault, batch_fault, split_fault, sum_fault, batches_fault, object_fault, camera_fault}
use Rattle.scene_reader.specs.Header.{AreFieldsOf, IsHeaderOf}
use Rattle.scene_reader.specs.PartsFault.{AreTables}
use Rattle.scene_reader.specs.Reading.{EndsWithin, IsDone, TakesParts, batches_of, Refuses, ReadsScene}
use Rattle.cull_base.proofs.Takes.{takes_then}
use Rattle.scene_reader.proofs.Headers.{at_first, at_second, length_some, or_first, or_second, or_refusal, or_none_from, fault_refusal, version_front, short_front, byte_front, counts_with_front, start_front, fields_front, header_is, header_front, header_accepted, counts_front, fault_none_from}
use Rattle.scene_reader.proofs.BatchTable.{batches_valid, stored_is, byte_told}
use Rattle.scene_reader.proofs.SevenPieces.{Sized, joined_first, joined_length}
use Rattle.scene_reader.proofs.BytesToLayout.{joined_layout}
use Rattle.scene_reader.proofs.SceneFrom.{table_count, Fits, fits_from, scene_from}
use Rattle.scene_reader.proofs.LayoutFirst.{scene_first}
use Rattle.scene_reader.proofs.OnlyScene.{layout_one}

-- ---- refusals aren't faults of the source

pub not_read : (o : Option SceneError) (e : SceneError) → IfSome o IsRefusal → o ≡ Some e → e ≡ Read → ⊥
not_read None e h k r = cc
not_read (Some f) e h k r = subst IsRefusal (same_Some f Read (k ∙ ap Some r)) h

first_refusal : {X : Type 0} (fault : ℕ → X → Option SceneError) → ((i : ℕ) (x : X) → IfSome (fault i x) IsRefusal) → (i : ℕ) (xs : List X) → IfSome (first_among fault i xs) IsRefusal
first_refusal fault each i [] = tt
first_refusal fault each i (x ∷ xs) = or_refusal (fault i x) (first_among fault (i + 1) xs) (each i x) (first_refusal fault each (i + 1) xs)

batches_refusal : (version tris : ℕ) (bs : List (ℕ × ℕ)) → IfSome (batches_fault version tris bs) IsRefusal
unfolding batches_fault sum_fault
batches_refusal version tris bs =
    or_refusal (split_fault version tris bs) (sum_fault tris bs) (fault_refusal _ (BadBatch 0) tt)
    (or_refusal (first_among (batch_fault tris bs) 0 bs) _ (first_refusal (batch_fault tris bs) (λ i b. fault_refusal _ (BadBatch i) tt) 0 bs) (fault_refusal _ (BadBatch (length bs)) tt))

pub tables_refusal : (version : ℕ) (vs : List (List ℤ)) (os : List Tri) (bs : List (ℕ × ℕ)) (ts : List Tri) (raws : List (ℕ × List ℤ)) (cs : List (List ℤ)) → IfSome (tables_fault version vs os bs ts raws cs) IsRefusal
unfolding tables_fault
tables_refusal version vs os bs ts raws cs =
    let last = first_among camera_fault 0 cs in
    let objects = option_or (first_among (object_fault (length ts)) 0 raws) last in
    let tris = option_or (first_among (index_fault 1 (length vs)) 0 ts) objects in
    let batches = option_or (batches_fault version (length os) bs) tris in
    or_refusal (first_among vertex_fault 0 vs) (option_or (first_among (index_fault 0 (length vs)) 0 os) batches)
    (first_refusal vertex_fault (λ i row. fault_refusal _ (BadVertex i) tt) 0 vs)
    (or_refusal (first_among (index_fault 0 (length vs)) 0 os) batches
    (first_refusal (index_fault 0 (length vs)) (λ i t. fault_refusal _ (BadIndex 0 i) tt) 0 os)
    (or_refusal (batches_fault version (length os) bs) tris
    (batches_refusal version (length os) bs)
    (or_refusal (first_among (index_fault 1 (length vs)) 0 ts) objects
    (first_refusal (index_fault 1 (length vs)) (λ i t. fault_refusal _ (BadIndex 1 i) tt) 0 ts)
    (or_refusal (first_among (object_fault (length ts)) 0 raws) last
    (first_refusal (object_fault (length ts)) (λ i raw. object_refusal (length ts) i raw) 0 raws)
    (first_refusal camera_fault (λ i row. fault_refusal _ (BadCamera i) tt) 0 cs)))))
  where
    object_refusal : (m i : ℕ) (raw : ℕ × List ℤ) → IfSome (object_fault m i raw) IsRefusal
    object_refusal m i raw = search (rules, or_refusal, fault_refusal)

-- ---- bytes that are told

-- what holds of the bytes that were taken and those that are left is a refusal of the bytes
refuses_bytes : (before after : Option (List ℕ)) (x : List ℕ) (e : SceneError) → before ≡ option_map (λ rest. x ++ rest) after
    → ((rest : List ℕ) → after ≡ Some rest → (first_fault (x ++ rest) ≡ Some e) × (header_fault (x ++ rest) ≡ Some e → rest ≡ drop (header_taken (x ++ rest)) (x ++ rest))) → Refuses before after e
refuses_bytes None after x e h k = tt
refuses_bytes (Some b) None x e h k = absurd cc
refuses_bytes (Some b) (Some r) x e h k =
    let same : x ++ r ≡ b = sym (same_Some b (x ++ r) h) in
    let both = k r refl in
    subst (λ (y : List ℕ). (first_fault y ≡ Some e) × (header_fault y ≡ Some e → Some r ≡ Some (drop (header_taken y) y))) same (both.0, λ f. ap Some (both.1 f))

-- ---- what is taken of a header that is refused

taken_some : (b : List ℕ) → 32 ≤ header_taken b
taken_some b = cond_both (is_some (start_fault b)) 32 (header_length (version_at b)) (λ k. 32 ≤ k) (λ _. omega arith) (λ _. length_some (version_at b))

taken_start : (b : List ℕ) (e : SceneError) → start_fault b ≡ Some e → header_taken b ≡ 32
taken_start b e h = cond-true (is_some (start_fault b)) 32 (header_length (version_at b)) (ap (λ (o : Option SceneError). is_some o) h)

taken_whole : (b : List ℕ) → start_fault b ≡ None → header_taken b ≡ header_length (version_at b)
taken_whole b h = cond-false (is_some (start_fault b)) 32 (header_length (version_at b)) (ap (λ (o : Option SceneError). is_some o) h)

-- ---- a header that is short or refused

first_of_header : (b : List ℕ) (e : SceneError) → header_fault b ≡ Some e → first_fault b ≡ Some e
unfolding first_fault
first_of_header b e h = or_first (header_fault b) _ e h

header_of_start : (b : List ℕ) (e : SceneError) → start_fault b ≡ Some e → header_fault b ≡ Some e
unfolding header_fault
header_of_start b e h = or_first (start_fault b) _ e h

short_start : (b : List ℕ) → length b < 32 → start_fault b ≡ Some (Truncated 32 (length b))
unfolding start_fault
short_start b few = rw (lt-ltb (length b) 32 few) refl

short_whole : (b : List ℕ) → start_fault b ≡ None → length b < header_length (version_at b) → header_fault b ≡ Some (Truncated (header_length (version_at b)) (length b))
unfolding header_fault
short_whole b fine few =
    or_second (start_fault b) _ fine
    ∙ or_first (short_fault b) (fields_fault b (batch_count_at b)) (Truncated (header_length (version_at b)) (length b)) (rw (lt-ltb (length b) (header_length (version_at b)) few) refl)

-- a source that is read to its end has no other end
pub only_end : (n : ℕ) (after : Option (List ℕ)) → IsDone None n after → IsAtEnd after
only_end n after d = elim d [ inl e ↦ e | inr whole ↦ let bad : ◌≡◌ {A = Option ℕ} None (Some n) = whole in absurd cc ]

at_end : (after : Option (List ℕ)) (rest : List ℕ) → IsAtEnd after → after ≡ Some rest → rest ≡ []
at_end after rest h e = subst (λ (o : Option (List ℕ)). IfSome o (λ r. r ≡ [])) e h

-- fewer than 32 bytes
pub refuses_short : (before after : SourceSays) (wanted : ℕ) (e : SceneError) → wanted ≡ 32 → EndsWithin None wanted 32 0 before after e → Refuses before.left after.left e
refuses_short before after wanted e all s = refuses_bytes before.left after.left s.bytes e s.takes.front (λ rest told.
    let none = at_end after.left rest (only_end _ after.left s.ended) told in
    let whole : s.bytes ++ rest ≡ s.bytes = ap (λ (r : List ℕ). s.bytes ++ r) none ∙ append-nil s.bytes in
    let few : length s.bytes < 32 = omega (arith, s.few, all) in
    let is : e ≡ Truncated 32 (length s.bytes) = s.truncated ∙ ap (Truncated 32) (omega arith) in
    let fault : header_fault (s.bytes ++ rest) ≡ Some e = ap header_fault whole ∙ header_of_start s.bytes _ (short_start s.bytes few) ∙ ap Some (sym is) in
    (first_of_header (s.bytes ++ rest) e fault, λ f. none ∙ sym (drop_all (header_taken (s.bytes ++ rest)) (s.bytes ++ rest) (omega (arith, few, ap length whole, taken_some (s.bytes ++ rest))))))

-- 32 bytes that are refused up to the version
pub refuses_start : (before after : Option (List ℕ)) (h : List ℕ) (e : SceneError) → length h ≡ 32 → Takes before after h → start_fault h ≡ Some e → Refuses before after e
refuses_start before after h e len t f = refuses_bytes before after h e t.front (λ rest told.
    let fault = start_front h rest (omega (arith, len)) ∙ f in
    (first_of_header (h ++ rest) e (header_of_start (h ++ rest) e fault), λ g. sym (ap (λ (k : ℕ). drop k (h ++ rest)) (taken_start (h ++ rest) e fault) ∙ drop_at h rest 32 len)))

-- 32 bytes whose version has a longer header
pub refuses_rest : (before : Option (List ℕ)) (mid after : SourceSays) (h : List ℕ) (e : SceneError) → length h ≡ 32 → start_fault h ≡ None → (version_at h ≡ 1 → ⊥)
    → Takes before mid.left h → EndsWithin None 4 (header_length (version_at h)) 32 mid after e → Refuses before after.left e
refuses_rest before mid after h e len fine other t s =
    let x = h ++ s.bytes in
    let both = takes_then before mid.left after.left h s.bytes t s.takes in
    let version = version_front h s.bytes (omega (arith, len)) in
    let long : header_length (version_at h) ≡ 36 = at_second (version_at h) 32 36 other in
    let few : length x < header_length (version_at x) = rw version (omega (arith, length-append h s.bytes, len, s.few, long)) in
    let start : start_fault x ≡ None = start_front h s.bytes (omega (arith, len)) ∙ fine in
    let is : e ≡ Truncated (header_length (version_at x)) (length x) =
    s.truncated ∙ ap (Truncated (header_length (version_at h))) (omega (arith, length-append h s.bytes, len)) ∙ ap (λ (v : ℕ). Truncated (header_length v) (length x)) (sym version) in
    refuses_bytes before after.left x e both.front (λ rest told.
    let none = at_end after.left rest (only_end _ after.left s.ended) told in
    let whole : x ++ rest ≡ x = ap (λ (r : List ℕ). x ++ r) none ∙ append-nil x in
    let fault : header_fault (x ++ rest) ≡ Some e = ap header_fault whole ∙ short_whole x start few ∙ ap Some (sym is) in
    let taken : header_taken (x ++ rest) ≡ header_length (version_at x) = ap header_taken whole ∙ taken_whole x start in
    (first_of_header (x ++ rest) e fault, λ f. none ∙ sym (drop_all (header_taken (x ++ rest)) (x ++ rest) (omega (arith, few, ap length whole, taken)))))

-- a whole header that is refused behind the version
pub refuses_fields : (before after : Option (List ℕ)) (h : List ℕ) (e : SceneError) → length h ≡ header_length (version_at h) → start_fault h ≡ None → Takes before after h → fields_fault h (batch_count_at h) ≡ Some e → Refuses before after e
refuses_fields before after h e len fine t f = refuses_bytes before after h e t.front (λ rest told.
    let some : 32 ≤ length h = omega (arith, len, length_some (version_at h)) in
    let fault = header_front h rest len ∙ header_is h (omega (arith, len)) ∙ or_second (start_fault h) (fields_fault h (batch_count_at h)) fine ∙ f in
    let taken : header_taken (h ++ rest) ≡ length h = taken_whole (h ++ rest) (start_front h rest some ∙ fine) ∙ ap header_length (version_front h rest some) ∙ sym len in
    (first_of_header (h ++ rest) e fault, λ g. sym (ap (λ (k : ℕ). drop k (h ++ rest)) taken ∙ drop_at h rest (length h) refl)))

-- ---- a header of 32 bytes and what its version has behind them

module _ (front more : List ℕ) (version batches : ℕ) (len : length front ≡ 32) (same : version ≡ version_at front) (long : 32 + length more ≡ header_length version) (says : batches ≡ (if version == 1 then 0 else word_at 0 more)) where
  joined_long : length (front ++ more) ≡ header_length (version_at (front ++ more))
  joined_long = omega (arith, length-append front more, len, long) ∙ ap header_length (same ∙ sym (version_front front more (omega (arith, len))))

  joined_count : batches ≡ batch_count_at (front ++ more)
  joined_count =
      let version_is = version_front front more (omega (arith, len)) in
      elim (cases_eq version 1) [
        | inl one ↦ says ∙ at_first version 0 (word_at 0 more) one ∙ sym (at_first (version_at (front ++ more)) 0 (word_at 32 (front ++ more)) (version_is ∙ sym same ∙ one))
        | inr other ↦
            says ∙ at_second version 0 (word_at 0 more) other
            ∙ ap (λ (t : List ℕ). from_le_bytes w32 (take 4 t)) (sym (drop_at front more 32 len))
            ∙ sym (at_second (version_at (front ++ more)) 0 (word_at 32 (front ++ more)) (λ e. other (same ∙ sym version_is ∙ e)))
      ]

  joined_fields : fields_fault (front ++ more) (batch_count_at (front ++ more)) ≡ fields_fault front batches
  joined_fields = ap (fields_fault (front ++ more)) (sym joined_count) ∙ fields_front front more batches (omega (arith, len))

  pub refuses_header : (before after : Option (List ℕ)) (e : SceneError) → start_fault front ≡ None → Takes before after (front ++ more) → fields_fault front batches ≡ Some e → Refuses before after e
  refuses_header before after e fine t f =
      refuses_fields before after (front ++ more) e joined_long (start_front front more (omega (arith, len)) ∙ fine) t (joined_fields ∙ f)

  pub header_whole : (h : Header) → AreFieldsOf front batches h → length (front ++ more) ≡ header_length h.version
  header_whole h f = omega (arith, length-append front more, len, long) ∙ ap header_length (same ∙ sym f.version)

  pub header_says : (h : Header) → start_fault front ≡ None → AreFieldsOf front batches h → IsHeaderOf (front ++ more) h
  header_says h fine f =
      let some : 32 ≤ length front = omega (arith, len) in
      record {
        accepted = header_is (front ++ more) (omega (arith, joined_long)) ∙ or_none_from _ _ (start_front front more some ∙ fine) (joined_fields ∙ f.accepted);
        version = f.version ∙ sym (version_front front more some);
        width = f.width ∙ sym (short_front 6 front more (omega (arith, len)));
        height = f.height ∙ sym (short_front 8 front more (omega (arith, len)));
        near = f.near ∙ sym (short_front 10 front more (omega (arith, len)));
        flags = record {
          winding = f.flags.winding ∙ sym (byte_front 12 front more (omega arith) some);
          grade = f.flags.grade ∙ sym (byte_front 13 front more (omega arith) some);
        };
        counts = f.counts ∙ ap (λ (n : ℕ). counts_with n front) joined_count ∙ sym (counts_with_front front more (batch_count_at (front ++ more)) some);
      }

-- ---- a length that isn't the announced one

first_of_length : (h rest : List ℕ) (e : SceneError) → length h ≡ header_length (version_at h) → header_fault h ≡ None → length_fault (h ++ rest) ≡ Some e → first_fault (h ++ rest) ≡ Some e
unfolding first_fault
first_of_length h rest e len fine f = or_second (header_fault (h ++ rest)) _ (header_front h rest len ∙ fine) ∙ or_first (length_fault (h ++ rest)) _ e f

need_of : (h rest : List ℕ) (v : ℕ) (n : Counts) → length h ≡ header_length (version_at h) → version_at h ≡ v → counts_at h ≡ n → scene_length (version_at (h ++ rest)) (counts_at (h ++ rest)) ≡ scene_length v n
need_of h rest v n len version counts =
    ap (λ (w : ℕ). scene_length w (counts_at (h ++ rest))) (version_front h rest (omega (arith, len, length_some (version_at h))) ∙ version)
    ∙ ap (scene_length v) (counts_front h rest len ∙ counts)

too_short : (h rest : List ℕ) (v : ℕ) (n : Counts) → length h ≡ header_length (version_at h) → version_at h ≡ v → counts_at h ≡ n → length (h ++ rest) < scene_length v n → length_fault (h ++ rest) ≡ Some (Truncated (scene_length v n) (length (h ++ rest)))
unfolding length_fault
too_short h rest v n len version counts lt =
    let need = need_of h rest v n len version counts in
    ap (λ (k : ℕ). option_or (fault_if (nat_lt (length (h ++ rest)) k) (Truncated k (length (h ++ rest)))) (fault_if (nat_lt k (length (h ++ rest))) Trailing)) need
    ∙ or_first (fault_if (nat_lt (length (h ++ rest)) (scene_length v n)) (Truncated (scene_length v n) (length (h ++ rest)))) _ _ (rw (lt-ltb (length (h ++ rest)) (scene_length v n) lt) refl)

too_long : (h rest : List ℕ) (v : ℕ) (n : Counts) → length h ≡ header_length (version_at h) → version_at h ≡ v → counts_at h ≡ n → scene_length v n < length (h ++ rest) → length_fault (h ++ rest) ≡ Some Trailing
unfolding length_fault
too_long h rest v n len version counts lt =
    let need = need_of h rest v n len version counts in
    ap (λ (k : ℕ). option_or (fault_if (nat_lt (length (h ++ rest)) k) (Truncated k (length (h ++ rest)))) (fault_if (nat_lt k (length (h ++ rest))) Trailing)) need
    ∙ or_second (fault_if (nat_lt (length (h ++ rest)) (scene_length v n)) (Truncated (scene_length v n) (length (h ++ rest)))) _ (fault_none_from _ _ (le-ltb (length (h ++ rest)) (scene_length v n) (omega arith)))
    ∙ (rw (lt-ltb (scene_length v n) (length (h ++ rest)) lt) refl)

no_header_fault : {P : Type 0} (h rest : List ℕ) (e : SceneError) → length h ≡ header_length (version_at h) → header_fault h ≡ None → header_fault (h ++ rest) ≡ Some e → P
no_header_fault h rest e len fine f = let no : ◌≡◌ {A = Option SceneError} None (Some e) = sym fine ∙ sym (header_front h rest len) ∙ f in absurd cc

-- ---- what follows a header that is accepted

header_len : {h : List ℕ} {hd : Header} → length h ≡ header_length hd.version → IsHeaderOf h hd → length h ≡ header_length (version_at h)
header_len whole is = whole ∙ ap header_length is.version

module _ {before : Option (List ℕ)} {mid : SourceSays} {h : List ℕ} {hd : Header} (whole : length h ≡ header_length hd.version) (th : Takes before mid.left h) (is : IsHeaderOf h hd) where
  pub refuses_body : (after : SourceSays) (e : SceneError) → EndsWithin None (scene_length hd.version hd.counts - header_length hd.version) (scene_length hd.version hd.counts) (header_length hd.version) mid after e → Refuses before after.left e
  refuses_body after e s =
      let v = hd.version in
      let n = hd.counts in
      let len = header_len whole is in
      let both = takes_then before mid.left after.left h s.bytes th s.takes in
      refuses_bytes before after.left (h ++ s.bytes) e both.front (λ rest told.
      let none = at_end after.left rest (only_end _ after.left s.ended) told in
      let all : (h ++ s.bytes) ++ rest ≡ h ++ s.bytes = ap (λ (r : List ℕ). (h ++ s.bytes) ++ r) none ∙ append-nil (h ++ s.bytes) in
      let few : length (h ++ s.bytes) < scene_length v n = omega (arith, s.few, length-append h s.bytes, whole) in
      let named : e ≡ Truncated (scene_length v n) (length (h ++ s.bytes)) = s.truncated ∙ ap (Truncated (scene_length v n)) (omega (arith, length-append h s.bytes, whole)) in
      (rw (all, named) (first_of_length h s.bytes _ len is.accepted (too_short h s.bytes v n len (sym is.version) (sym is.counts) few)), λ f. no_header_fault h (s.bytes ++ rest) e len is.accepted (subst (λ (b : List ℕ). header_fault b ≡ Some e) (append_assoc h s.bytes rest) f)))

module _ {before middle : Option (List ℕ)} {h : List ℕ} {hd : Header} (whole : length h ≡ header_length hd.version) (th : Takes before middle h) (is : IsHeaderOf h hd) where
  pub refuses_trailing : (last after : Option (List ℕ)) (body more : List ℕ) → length (h ++ body) ≡ scene_length hd.version hd.counts → Takes middle last body → Takes last after more → 0 < length more → Refuses before after Trailing
  refuses_trailing last after body more size tb tm some =
      let v = hd.version in
      let n = hd.counts in
      let len = header_len whole is in
      let all = takes_then before middle after h (body ++ more) th (takes_then middle last after body more tb tm) in
      refuses_bytes before after (h ++ (body ++ more)) Trailing all.front (λ rest told.
      let joined : (h ++ (body ++ more)) ++ rest ≡ h ++ ((body ++ more) ++ rest) = append_assoc h (body ++ more) rest in
      let long : scene_length v n < length (h ++ ((body ++ more) ++ rest)) = omega (arith, length-append h ((body ++ more) ++ rest), length-append (body ++ more) rest, length-append body more, length-append h body, size, some) in
      (rw joined (first_of_length h ((body ++ more) ++ rest) Trailing len is.accepted (too_long h ((body ++ more) ++ rest) v n len (sym is.version) (sym is.counts) long)), λ f. no_header_fault h ((body ++ more) ++ rest) Trailing len is.accepted (subst (λ (b : List ℕ). header_fault b ≡ Some Trailing) joined f)))

-- ---- a whole body

module _ {before : Option (List ℕ)} {mid last : SourceSays} {h : List ℕ} {hd : Header} {p : Parts} {at_batches at_objects : Option SceneError} (whole : length h ≡ header_length hd.version) (th : Takes before mid.left h) (is : IsHeaderOf h hd) (t : TakesParts hd mid last p at_batches at_objects) where
  long : length h ≡ header_length (version_at h)
  long = whole ∙ ap header_length is.version

  sized : Sized hd.counts h t.vertex_bytes t.occluder_bytes t.batch_bytes t.object_tri_bytes t.object_bytes t.camera_bytes
  sized = record {
    header = long;
    counts = sym is.counts;
    vertices = t.vertices.whole;
    occluders = t.occluders.whole;
    batches = t.batches.whole;
    object_tris = t.object_tris.whole;
    objects = t.objects.whole;
    cameras = t.cameras.whole;
  }

  pub whole_length : length (h ++ (t.vertex_bytes ++ (t.occluder_bytes ++ (t.batch_bytes ++ (t.object_tri_bytes ++ (t.object_bytes ++ t.camera_bytes)))))) ≡ scene_length hd.version hd.counts
  whole_length = joined_length hd.counts h t.vertex_bytes t.occluder_bytes t.batch_bytes t.object_tri_bytes t.object_bytes t.camera_bytes sized ∙ ap (λ (v : ℕ). scene_length v hd.counts) (sym is.version)

  tris_count : length p.object_tris ≡ hd.counts.object_tris
  tris_count = table_count _ _ _ _ _ t.object_tris

  occluders_count : length p.occluders ≡ hd.counts.occluders
  occluders_count = table_count _ _ _ _ _ t.occluders

  pub objects_first : at_objects ≡ first_among (object_fault (length p.object_tris)) 0 t.raws
  objects_first = t.first ∙ ap (λ (m : ℕ). first_among (object_fault m) 0 t.raws) (sym tris_count)

  pub batches_first : at_batches ≡ batches_fault p.version (length p.occluders) (batches_of hd t.stored)
  batches_first =
      t.batches_first
      ∙ ap (λ (v : ℕ). batches_fault v hd.counts.occluders (batches_of hd t.stored)) (sym t.header.0)
      ∙ ap (λ (m : ℕ). batches_fault p.version m (batches_of hd t.stored)) (sym occluders_count)

  whole_first : first_fault (h ++ (t.vertex_bytes ++ (t.occluder_bytes ++ (t.batch_bytes ++ (t.object_tri_bytes ++ (t.object_bytes ++ t.camera_bytes)))))) ≡ tables_fault p.version p.vertices p.occluders (batches_of hd t.stored) p.object_tris t.raws p.cameras
  whole_first =
      joined_first hd.counts h t.vertex_bytes t.occluder_bytes t.batch_bytes t.object_tri_bytes t.object_bytes t.camera_bytes sized p.vertices p.occluders t.stored p.object_tris t.raws p.cameras is.accepted t.vertices t.occluders t.batches t.object_tris t.objects t.cameras
      ∙ ap (λ (v : ℕ). tables_fault v p.vertices p.occluders (batches_told v (slice_index h 12) hd.counts.occluders t.stored) p.object_tris t.raws p.cameras) (sym is.version)
      ∙ ap (λ (w : ℕ). tables_fault hd.version p.vertices p.occluders (batches_told hd.version w hd.counts.occluders t.stored) p.object_tris t.raws p.cameras) (sym is.flags.winding)
      ∙ ap (λ (v : ℕ). tables_fault v p.vertices p.occluders (batches_of hd t.stored) p.object_tris t.raws p.cameras) (sym t.header.0)

  pub refuses_tables : (after : Option (List ℕ)) (e : SceneError) → Takes last.left after [] → IsAtEnd after → tables_fault p.version p.vertices p.occluders (batches_of hd t.stored) p.object_tris t.raws p.cameras ≡ Some e → Refuses before after e
  refuses_tables after e te ended f =
      let all = takes_then before mid.left after h _ th (takes_then mid.left last.left after _ [] t.takes te) in
      refuses_bytes before after _ e all.front (λ rest told.
      let none = at_end after rest ended told in
      let bare = t.vertex_bytes ++ (t.occluder_bytes ++ (t.batch_bytes ++ (t.object_tri_bytes ++ (t.object_bytes ++ t.camera_bytes)))) in
      let joined : (h ++ (bare ++ [])) ++ rest ≡ h ++ bare = ap (λ (r : List ℕ). (h ++ (bare ++ [])) ++ r) none ∙ append-nil (h ++ (bare ++ [])) ∙ ap (λ (r : List ℕ). h ++ r) (append-nil bare) in
      (rw joined (whole_first ∙ f), λ g. no_header_fault h bare e long is.accepted (subst (λ (b : List ℕ). header_fault b ≡ Some e) joined g)))

  -- the batches that were told, by the version of the parts
  told_as : at_batches ≡ None → map raw_batch p.batches ≡ batches_told p.version (winding_code hd.flags.winding) hd.counts.occluders t.stored
  told_as clear = t.batches_whole clear ∙ ap (λ (v : ℕ). batches_told v (winding_code hd.flags.winding) hd.counts.occluders t.stored) (sym t.header.0)

  -- version 1 has no table of them
  none_stored : p.version ≡ 1 → length t.stored ≡ 0
  none_stored one =
      table_count _ _ _ _ _ t.batches ∙ ap (λ (n : Counts). n.batches) is.counts
      ∙ at_first (version_at h) 0 (word_at 32 h) (sym is.version ∙ sym t.header.0 ∙ one)

  stored_as : at_batches ≡ None → map raw_batch (stored_batches p.version p.batches) ≡ t.stored
  stored_as clear = stored_is p.version (winding_code hd.flags.winding) hd.counts.occluders p.batches t.stored (told_as clear) none_stored

  parts_fit : at_batches ≡ None → at_objects ≡ None → Fits h p
  parts_fit batches objects =
      let a = header_accepted h is.accepted in
      let winding = winding_code hd.flags.winding in
      let second : (p.version ≡ 1 → ⊥) → winding ≡ 0 = λ other. is.flags.winding ∙ a.flags.second (λ e. other (t.header.0 ∙ is.version ∙ e)) in
      fits_from h hd.counts p a (sym is.counts) (sym is.version ∙ sym t.header.0)
      (sym is.width ∙ sym t.header.1) (sym is.height ∙ sym t.header.2) (sym is.near ∙ sym t.header.3)
      (sym is.flags.winding ∙ sym (byte_told p.version winding hd.counts.occluders p.batches t.stored (told_as batches) second))
      (sym is.flags.grade ∙ ap grade_code (sym t.header.4))
      (table_count _ _ _ _ _ t.cameras) (table_count _ _ _ _ _ t.vertices) occluders_count
      (sym (length-map (stored_batches p.version p.batches) raw_batch) ∙ ap length (stored_as batches) ∙ table_count _ _ _ _ _ t.batches) tris_count
      (sym (length-map p.objects raw_object) ∙ ap length (t.whole objects) ∙ table_count _ _ _ _ _ t.objects)

  -- the batches have all triangles, and in version 1 they are one
  parts_batches : at_batches ≡ None → AreBatchesOf p.batches (length p.occluders) × (p.version ≡ 1 → length p.batches ≡ 1)
  parts_batches clear =
      let same : map raw_batch p.batches ≡ batches_of hd t.stored = t.batches_whole clear in
      batches_valid p.version (length p.occluders) p.batches (ap (batches_fault p.version (length p.occluders)) same ∙ sym batches_first ∙ clear)

  pub parts_scene : AreTables p → at_batches ≡ None → at_objects ≡ None → IsScene p
  parts_scene tables batches objects =
      let b = parts_batches batches in
      scene_from h p (parts_fit batches objects) tables b.0 b.1 (subst (λ (m : ℕ). All (IsObject m) p.objects) (sym tris_count) t.valid)

  pub reads : (after : Option (List ℕ)) → Takes last.left after [] → IsAtEnd after → AreTables p → at_batches ≡ None → at_objects ≡ None → tables_fault p.version p.vertices p.occluders (batches_of hd t.stored) p.object_tris t.raws p.cameras ≡ None → ReadsScene before after p
  reads after te ended tables batches objects fine =
      let bare = t.vertex_bytes ++ (t.occluder_bytes ++ (t.batch_bytes ++ (t.object_tri_bytes ++ (t.object_bytes ++ t.camera_bytes)))) in
      let all = takes_then before mid.left after h (bare ++ []) th (takes_then mid.left last.left after bare [] t.takes te) in
      let takes : Takes before after (h ++ bare) = subst (λ (b : List ℕ). Takes before after (h ++ b)) (append-nil bare) all in
      record {
        bytes = h ++ bare;
        takes = takes;
        ended = ended;
        scene = parts_scene tables batches objects;
        whole = joined_layout hd.counts h t.vertex_bytes t.occluder_bytes t.batch_bytes t.object_tri_bytes t.object_bytes t.camera_bytes p t.stored t.raws sized takes.fits is.accepted (parts_fit batches objects).says t.vertices t.occluders t.batches t.object_tris t.objects t.cameras (stored_as batches) (t.whole objects);
        first = whole_first ∙ fine;
      }

pub err_is : {T : Type 0} (a b : SceneError) → ◌≡◌ {A = Result T SceneError} (Err a) (Err b) → a ≡ b
err_is a b e = cc

pub refuses_same : (before after : Option (List ℕ)) (e f : SceneError) → e ≡ f → Refuses before after f → Refuses before after e
refuses_same before after e f is h = subst (λ (x : SceneError). Refuses before after x) (sym is) h

-- ---- the promises about told bytes

pub bytes_layout : (before after : Option (List ℕ)) (s : Parts) → ReadsScene before after s → IfSome before (λ bytes. (bytes ≡ layout s) × (after ≡ Some []))
bytes_layout None after s r = tt
bytes_layout (Some b) None s r = let no = r.takes.front in absurd cc
bytes_layout (Some b) (Some rest) s r =
    let none : rest ≡ [] = r.ended in
    (same_Some b (r.bytes ++ rest) r.takes.front ∙ ap (λ (x : List ℕ). r.bytes ++ x) none ∙ append-nil r.bytes ∙ r.whole, ap Some none)

pub bytes_first : (before after : Option (List ℕ)) (s : Parts) → ReadsScene before after s → IfSome before (λ bytes. first_fault bytes ≡ None)
bytes_first None after s r = tt
bytes_first (Some b) after s r = let l = bytes_layout (Some b) after s r in ap first_fault (l.0 ∙ sym r.whole) ∙ r.first

pub bytes_only : (before after : Option (List ℕ)) (s : Parts) → ReadsScene before after s → IfSome before (λ bytes. (t : Parts) → IsScene t → bytes ≡ layout t → t ≡ s)
bytes_only None after s r = tt
bytes_only (Some b) after s r = λ t scene is. let l = bytes_layout (Some b) after s r in layout_one t s scene r.scene (sym is ∙ l.0)

pub bytes_refused : (before after : Option (List ℕ)) (e : SceneError) → Refuses before after e → IfSome before (λ bytes. first_fault bytes ≡ Some e)
bytes_refused None after e h = tt
bytes_refused (Some b) after e h = h.0

pub bytes_header : (before after : Option (List ℕ)) (e : SceneError) → Refuses before after e → IfSome before (λ bytes. header_fault bytes ≡ Some e → after ≡ Some (drop (header_taken bytes) bytes))
bytes_header None after e h = tt
bytes_header (Some b) after e h = h.1

pub bytes_never : (before after : Option (List ℕ)) (e : SceneError) → Refuses before after e → IfSome before (λ bytes. (t : Parts) → IsScene t → bytes ≡ layout t → ⊥)
bytes_never None after e h = tt
bytes_never (Some b) after e h = λ t scene is. let no : ◌≡◌ {A = Option SceneError} None (Some e) = sym (scene_first t scene) ∙ ap first_fault (sym is) ∙ h.0 in cc
