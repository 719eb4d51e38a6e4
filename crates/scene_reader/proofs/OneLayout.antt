-- Bytes without a fault are the layout of a scene.
use Rattle.std.proofs.Common.{◌≡◌, ℕ, ℤ, ◌+◌, ◌*◌, ◌≤◌, ◌++◌, ◌∷◌, List, [], length, take, drop, map, arith, refl, sym, ap, ◌∙◌, subst, false, All, take-append-drop, Option, None}
use Rattle.std.specs.Prelude.{slice_index, nat_lt, not}
use Rattle.std.specs.List.{AllByRecursion, list_any}
use Rattle.std.proofs.lemmas.Bool.{ltb-false}
use Rattle.std.proofs.lemmas.List.{length-take, length-drop, length-map}
use Rattle.std.proofs.lemmas.List.FromFn.{length-map-range_with_len}
use Rattle.std.proofs.lemmas.List.Elements.{All-from_recursion}
use Rattle.cull_base.specs.declared.scene_types.Tri.{Tri}
use Rattle.scene_reader.specs.declared.error.SceneError.{SceneError}
use Rattle.scene_reader.specs.declared.error.SceneError.TheVariants.{Truncated, Trailing}
use Rattle.scene_reader.specs.declared.header.Counts.{Counts}
use Rattle.scene_reader.specs.Layout.{Parts, IsScene, IsRow, IsTri, IsObject, raw_object, raw_batch, stored_batches, layout}
use Rattle.scene_reader.specs.Length.{header_length, scene_length}
use Rattle.scene_reader.specs.Fault.{fault_if, first_among, version_at, short_at, word_at, counts_at, entries, row_of, tri_of, raw_of, raw_batch_of, batches_told, words_in, header_fault, length_fault, tables_fault, first_fault, vertex_fault, index_fault, batches_fault, object_fault, camera_fault, is_bad_row, is_bad_object}
use Rattle.scene_reader.specs.Law.{IsLayoutOf}
use Rattle.scene_reader.specs.PartsFault.{AreTables}
use Rattle.scene_reader.specs.Reading.{IsTable}
use Rattle.cull_base.proofs.Takes.{IsByte}
use Rattle.scene_reader.proofs.Valid.{row_within, indices_within}
use Rattle.scene_reader.proofs.Headers.{at_first, length_some, or_parts_none, fault_none, header_accepted, header_front, version_front, counts_front}
use Rattle.scene_reader.proofs.BatchTable.{windings_known, batches_valid, stored_is, byte_told}
use Rattle.scene_reader.proofs.SevenPieces.{Sized, seven_pieces, joined_first}
use Rattle.scene_reader.proofs.LayoutFirst.{scene_first}
use Rattle.scene_reader.proofs.BytesToLayout.{joined_layout}
use Rattle.scene_reader.proofs.OnlyScene.{layout_one}
use Rattle.scene_reader.proofs.SceneFrom.{table_count, Fits, scene_from, fits_from}
use Rattle.scene_reader.proofs.ObjectsFrom.{objects_made, batches_made, grade_of, grade_is}

first_valid : {X : Type 0} (P : X → Type 0) (fault : ℕ → X → Option SceneError) → ((i : ℕ) (x : X) → fault i x ≡ None → P x) → (i : ℕ) (xs : List X) → first_among fault i xs ≡ None → AllByRecursion P xs
first_valid P fault gives i [] e = tt
first_valid P fault gives i (x ∷ xs) e = let p = or_parts_none _ _ e in (gives i x p.0, first_valid P fault gives (i + 1) xs p.1)

each_of : {X : Type 0} (P : X → Type 0) (read : List ℕ → X) → ((e : List ℕ) → P (read e)) → (es : List (List ℕ)) → AllByRecursion P (map read es)
each_of P read gives [] = tt
each_of P read gives (e ∷ es) = (gives e, each_of P read gives es)

both : {X : Type 0} (P Q R : X → Type 0) → ((x : X) → P x → Q x → R x) → (xs : List X) → AllByRecursion P xs → AllByRecursion Q xs → AllByRecursion R xs
both P Q R join [] p q = tt
both P Q R join (x ∷ xs) p q = (join x p.0 q.0, both P Q R join xs p.1 q.1)

row_len : (n : ℕ) (e : List ℕ) → length (row_of n e) ≡ n
unfolding row_of
row_len n e = length-map-range_with_len _ 0 n

tri_len : (e : List ℕ) → length (tri_of e).0 ≡ 3
unfolding words_in
tri_len e = refl

object_checks : (m i : ℕ) (raw : ℕ × List ℤ) → object_fault m i raw ≡ None → (raw.0 ≤ 2) × (is_bad_object m raw.0 raw.1 ≡ false)
object_checks m i raw e = let p = or_parts_none _ _ e in (ltb-false 2 raw.0 (fault_none _ _ p.0), fault_none _ _ p.1)

rows_valid : (n : ℕ) (xs : List (List ℤ)) → AllByRecursion (λ row. is_bad_row row ≡ false) xs → AllByRecursion (λ row. length row ≡ n) xs → All (IsRow n) xs
rows_valid n xs good len = All-from_recursion (IsRow n) xs (both (λ row. is_bad_row row ≡ false) (λ row. length row ≡ n) (IsRow n) (λ row g l. (l, row_within row g)) xs good len)

tris_valid : (n : ℕ) (xs : List Tri) → AllByRecursion (λ t. list_any (λ v. not (nat_lt v n)) t.0 ≡ false) xs → AllByRecursion (λ t. length t.0 ≡ 3) xs → All (IsTri n) xs
tris_valid n xs good len = All-from_recursion (IsTri n) xs (both (λ t. list_any (λ v. not (nat_lt v n)) t.0 ≡ false) (λ t. length t.0 ≡ 3) (IsTri n) (λ t g l. (l, indices_within n t.0 g)) xs good len)

module _ (n : Counts) (h v o b t j c : List ℕ) (s : Sized n h v o b t j c) (fits : All IsByte (seven_pieces h v o b t j c)) (fine : header_fault h ≡ None) where
  exists_joined : first_fault (seven_pieces h v o b t j c) ≡ None → (p : Parts) × IsLayoutOf (seven_pieces h v o b t j c) p
  unfolding tables_fault
  exists_joined e =
      let version = version_at h in
      let winding = slice_index h 12 in
      let vs = map (row_of 3) (entries 12 n.vertices v) in
      let os = map tri_of (entries 12 n.occluders o) in
      let stored = map raw_batch_of (entries 5 n.batches b) in
      let told = batches_told version winding n.occluders stored in
      let ts = map tri_of (entries 12 n.object_tris t) in
      let raws = map raw_of (entries 25 n.objects j) in
      let cs = map (row_of 12) (entries 48 n.frames c) in
      let tv : IsTable 12 n.vertices (row_of 3) v vs = record { whole = s.vertices; each = refl } in
      let to : IsTable 12 n.occluders tri_of o os = record { whole = s.occluders; each = refl } in
      let tb : IsTable 5 n.batches raw_batch_of b stored = record { whole = s.batches; each = refl } in
      let tt' : IsTable 12 n.object_tris tri_of t ts = record { whole = s.object_tris; each = refl } in
      let tj : IsTable 25 n.objects raw_of j raws = record { whole = s.objects; each = refl } in
      let tc : IsTable 48 n.frames (row_of 12) c cs = record { whole = s.cameras; each = refl } in
      let none : tables_fault version vs os told ts raws cs ≡ None = sym (joined_first n h v o b t j c s vs os stored ts raws cs fine tv to tb tt' tj tc) ∙ e in
      let p1 = or_parts_none (first_among vertex_fault 0 vs) _ none in
      let p2 = or_parts_none (first_among (index_fault 0 (length vs)) 0 os) _ p1.1 in
      let pb = or_parts_none (batches_fault version (length os) told) _ p2.1 in
      let p3 = or_parts_none (first_among (index_fault 1 (length vs)) 0 ts) _ pb.1 in
      let p4 = or_parts_none (first_among (object_fault (length ts)) 0 raws) (first_among camera_fault 0 cs) p3.1 in
      let a = header_accepted h fine in
      let made = batches_made told (windings_known version (length os) told pb.0) in
      let batches = batches_valid version (length os) made.0 (ap (batches_fault version (length os)) made.1 ∙ pb.0) in
      let few : length stored ≡ n.batches = table_count 5 n.batches raw_batch_of b stored tb in
      let told_as = stored_is version winding n.occluders made.0 stored made.1 (λ one. few ∙ sym (ap (λ (m : Counts). m.batches) s.counts) ∙ at_first version 0 (word_at 32 h) one) in
      let objects = objects_made (length ts) raws (first_valid _ (object_fault (length ts)) (object_checks (length ts)) 0 raws p4.0) (each_of (λ raw. length raw.1 ≡ 6) raw_of (λ e. row_len 6 (drop 1 e)) (entries 25 n.objects j)) in
      let p : Parts = record { version = version; width = short_at 6 h; height = short_at 8 h; near = short_at 10 h; grade = grade_of (slice_index h 13); vertices = vs; occluders = os; batches = made.0; object_tris = ts; objects = objects.0; cameras = cs } in
      let tables : AreTables p = record {
        vertices = rows_valid 3 vs (first_valid (λ row. is_bad_row row ≡ false) vertex_fault (λ i row f. fault_none _ _ f) 0 vs p1.0) (each_of (λ row. length row ≡ 3) (row_of 3) (λ e. row_len 3 e) (entries 12 n.vertices v));
        occluders = tris_valid (length vs) os (first_valid (λ x. list_any (λ v. not (nat_lt v (length vs))) x.0 ≡ false) (index_fault 0 (length vs)) (λ i x f. fault_none _ _ f) 0 os p2.0) (each_of (λ x. length x.0 ≡ 3) tri_of (λ e. tri_len e) (entries 12 n.occluders o));
        object_tris = tris_valid (length vs) ts (first_valid (λ x. list_any (λ v. not (nat_lt v (length vs))) x.0 ≡ false) (index_fault 1 (length vs)) (λ i x f. fault_none _ _ f) 0 ts p3.0) (each_of (λ x. length x.0 ≡ 3) tri_of (λ e. tri_len e) (entries 12 n.object_tris t));
        cameras = rows_valid 12 cs (first_valid (λ row. is_bad_row row ≡ false) camera_fault (λ i row f. fault_none _ _ f) 0 cs p4.1) (each_of (λ row. length row ≡ 12) (row_of 12) (λ e. row_len 12 e) (entries 48 n.frames c));
      } in
      let f : Fits h p = fits_from h n p a s.counts refl refl refl refl (sym (byte_told version winding n.occluders made.0 stored made.1 a.flags.second)) (grade_is (slice_index h 13) a.flags.grade_known)
      (table_count 48 n.frames (row_of 12) c cs tc) (table_count 12 n.vertices (row_of 3) v vs tv) (table_count 12 n.occluders tri_of o os to) (sym (length-map (stored_batches version made.0) raw_batch) ∙ ap length told_as ∙ few) (table_count 12 n.object_tris tri_of t ts tt')
      (sym (length-map objects.0 raw_object) ∙ ap length objects.1 ∙ table_count 25 n.objects raw_of j raws tj) in
      let scene : IsScene p = scene_from h p f tables batches.0 batches.1 (All-from_recursion (IsObject (length ts)) objects.0 objects.2) in
      let whole : seven_pieces h v o b t j c ≡ layout p = joined_layout n h v o b t j c p stored raws s fits fine f.says tv to tb tt' tj tc told_as objects.1 in
      (p, record { scene = scene; whole = whole; only = λ q sq is. layout_one q p sq scene (sym is ∙ whole) })

-- bytes of the announced length in seven pieces
cut : (x : List ℕ) → header_length (version_at x) ≤ length x → length x ≡ scene_length (version_at x) (counts_at x) → All IsByte x → header_fault x ≡ None → first_fault x ≡ None → (p : Parts) × IsLayoutOf x p
cut x long size fits fine e =
    let k = header_length (version_at x) in
    let n = counts_at x in
    let r1 = drop k x in
    let r2 = drop (12 * n.vertices) r1 in
    let r3 = drop (12 * n.occluders) r2 in
    let r4 = drop (5 * n.batches) r3 in
    let r5 = drop (12 * n.object_tris) r4 in
    let h = take k x in
    let v = take (12 * n.vertices) r1 in
    let o = take (12 * n.occluders) r2 in
    let b = take (5 * n.batches) r3 in
    let t = take (12 * n.object_tris) r4 in
    let j = take (25 * n.objects) r5 in
    let c = drop (25 * n.objects) r5 in
    let whole : seven_pieces h v o b t j c ≡ x =
    ap (λ (y : List ℕ). h ++ (v ++ (o ++ (b ++ (t ++ y))))) (take-append-drop (25 * n.objects) r5)
    ∙ ap (λ (y : List ℕ). h ++ (v ++ (o ++ (b ++ y)))) (take-append-drop (12 * n.object_tris) r4)
    ∙ ap (λ (y : List ℕ). h ++ (v ++ (o ++ y))) (take-append-drop (5 * n.batches) r3)
    ∙ ap (λ (y : List ℕ). h ++ (v ++ y)) (take-append-drop (12 * n.occluders) r2)
    ∙ ap (λ (y : List ℕ). h ++ y) (take-append-drop (12 * n.vertices) r1)
    ∙ take-append-drop k x in
    let lh : length h ≡ k = omega (arith, length-take k x, long) in
    let some : 32 ≤ length h = omega (arith, lh, length_some (version_at x)) in
    let l1 = length-drop k x in
    let l2 = length-drop (12 * n.vertices) r1 in
    let l3 = length-drop (12 * n.occluders) r2 in
    let l4 = length-drop (5 * n.batches) r3 in
    let l5 = length-drop (12 * n.object_tris) r4 in
    let front : h ++ r1 ≡ x = take-append-drop k x in
    let version : version_at h ≡ version_at x = sym (version_front h r1 some) ∙ ap version_at front in
    let header : length h ≡ header_length (version_at h) = lh ∙ ap header_length (sym version) in
    let s : Sized n h v o b t j c = record {
      header = header;
      counts = sym (counts_front h r1 header) ∙ ap counts_at front;
      vertices = omega (arith, length-take (12 * n.vertices) r1, l1, size);
      occluders = omega (arith, length-take (12 * n.occluders) r2, l1, l2, size);
      batches = omega (arith, length-take (5 * n.batches) r3, l1, l2, l3, size);
      object_tris = omega (arith, length-take (12 * n.object_tris) r4, l1, l2, l3, l4, size);
      objects = omega (arith, length-take (25 * n.objects) r5, l1, l2, l3, l4, l5, size);
      cameras = omega (arith, length-drop (25 * n.objects) r5, l1, l2, l3, l4, l5, size);
    } in
    let found = exists_joined n h v o b t j c s (subst (λ (y : List ℕ). All IsByte y) (sym whole) fits) (sym (header_front h r1 header) ∙ ap header_fault front ∙ fine) (ap first_fault whole ∙ e) in
    (found.0, subst (λ (y : List ℕ). IsLayoutOf y found.0) whole found.1)

pub exists : (b : List ℕ) → All IsByte b → first_fault b ≡ None → (p : Parts) × IsLayoutOf b p
unfolding first_fault length_fault
exists b fits e =
    let need = scene_length (version_at b) (counts_at b) in
    let p = or_parts_none (header_fault b) _ e in
    let q = or_parts_none (length_fault b) _ p.1 in
    let l = or_parts_none (fault_if (nat_lt (length b) need) (Truncated need (length b))) (fault_if (nat_lt need (length b)) Trailing) q.0 in
    cut b (header_accepted b p.0).long (omega (arith, ltb-false (length b) need (fault_none _ _ l.0), ltb-false need (length b) (fault_none _ _ l.1))) fits p.0 e

pub of_layout : (b : List ℕ) (p : Parts) → IsLayoutOf b p → first_fault b ≡ None
of_layout b p h = ap first_fault h.whole ∙ scene_first p h.scene
