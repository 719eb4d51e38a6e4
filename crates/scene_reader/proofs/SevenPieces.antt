-- Bytes in seven pieces, a header and six tables: what is read in each, and that the tables decide.
use Rattle.std.proofs.Common.{◌≡◌, ℕ, ℤ, ◌*◌, ◌≤◌, ◌++◌, List, length, drop, map, arith, refl, sym, ap, ◌∙◌, append_assoc, None}
use Rattle.std.specs.Prelude.{slice_index}
use Rattle.std.proofs.lemmas.Bool.{le-ltb}
use Rattle.std.proofs.lemmas.List.{length-append, drop_at}
use Rattle.cull_base.specs.declared.scene_types.Tri.{Tri}
use Rattle.scene_reader.specs.declared.header.Counts.{Counts}
use Rattle.scene_reader.specs.Length.{header_length, scene_length, table_start}
use Rattle.scene_reader.specs.Fault.{version_at, counts_at, entries, row_of, tri_of, raw_batch_of, batches_told, raw_of, header_fault, length_fault, tables_fault, first_fault, table_in, vertices_in, occluders_in, stored_batches_in, batches_in, object_tris_in, objects_in, cameras_in}
use Rattle.scene_reader.specs.Reading.{IsTable}
use Rattle.scene_reader.proofs.Headers.{length_some, version_front, byte_front, header_front, counts_front, or_second, or_none_from, fault_none_from}
use Rattle.scene_reader.proofs.Pieces.{entries_front}

-- a header and six tables, of the sizes that the header announces
pub record Sized (n : Counts) (h v o b t j c : List ℕ) : Type 0 where
  pub header : length h ≡ header_length (version_at h)
  pub counts : counts_at h ≡ n
  pub vertices : length v ≡ 12 * n.vertices
  pub occluders : length o ≡ 12 * n.occluders
  pub batches : length b ≡ 5 * n.batches
  pub object_tris : length t ≡ 12 * n.object_tris
  pub objects : length j ≡ 25 * n.objects
  pub cameras : length c ≡ 48 * n.frames

abbrev pub seven_pieces : List ℕ → List ℕ → List ℕ → List ℕ → List ℕ → List ℕ → List ℕ → List ℕ
seven_pieces h v o b t j c = h ++ (v ++ (o ++ (b ++ (t ++ (j ++ c)))))

-- what is left behind a front
past : (b pre rest : List ℕ) (k : ℕ) → b ≡ pre ++ rest → length pre ≡ k → drop k b ≡ rest
past b pre rest k e len = ap (drop k) e ∙ drop_at pre rest k len

module _ (n : Counts) (h v o b t j c : List ℕ) (s : Sized n h v o b t j c) where
  long : 32 ≤ length h
  long = omega (arith, s.header, length_some (version_at h))

  pub whole_version : version_at (seven_pieces h v o b t j c) ≡ version_at h
  whole_version = version_front h (v ++ (o ++ (b ++ (t ++ (j ++ c))))) long

  whole_winding : slice_index (seven_pieces h v o b t j c) 12 ≡ slice_index h 12
  whole_winding = byte_front 12 h (v ++ (o ++ (b ++ (t ++ (j ++ c))))) (omega arith) long

  whole_counts : counts_at (seven_pieces h v o b t j c) ≡ n
  whole_counts = counts_front h (v ++ (o ++ (b ++ (t ++ (j ++ c))))) s.header ∙ s.counts

  pub joined_length : length (seven_pieces h v o b t j c) ≡ scene_length (version_at h) n
  joined_length = omega (arith, length-append h (v ++ (o ++ (b ++ (t ++ (j ++ c))))), length-append v (o ++ (b ++ (t ++ (j ++ c)))), length-append o (b ++ (t ++ (j ++ c))), length-append b (t ++ (j ++ c)), length-append t (j ++ c), length-append j c, s.header, s.vertices, s.occluders, s.batches, s.object_tris, s.objects, s.cameras)

  -- a table begins where the one before it ends
  starts : (k : ℕ) → table_in (seven_pieces h v o b t j c) k ≡ drop (table_start (version_at h) n k) (seven_pieces h v o b t j c)
  starts k =
      ap (λ (w : ℕ). drop (table_start w (counts_at (seven_pieces h v o b t j c)) k) (seven_pieces h v o b t j c)) whole_version
      ∙ ap (λ (m : Counts). drop (table_start (version_at h) m k) (seven_pieces h v o b t j c)) whole_counts

  at_vertices : table_in (seven_pieces h v o b t j c) 0 ≡ v ++ (o ++ (b ++ (t ++ (j ++ c))))
  at_vertices = starts 0 ∙ past (seven_pieces h v o b t j c) h _ (table_start (version_at h) n 0) refl s.header

  at_occluders : table_in (seven_pieces h v o b t j c) 1 ≡ o ++ (b ++ (t ++ (j ++ c)))
  at_occluders = starts 1 ∙ past (seven_pieces h v o b t j c) (h ++ v) (o ++ (b ++ (t ++ (j ++ c)))) (table_start (version_at h) n 1) (sym (append_assoc h v (o ++ (b ++ (t ++ (j ++ c)))))) (omega (arith, length-append h v, s.header, s.vertices))

  at_batches : table_in (seven_pieces h v o b t j c) 2 ≡ b ++ (t ++ (j ++ c))
  at_batches = starts 2 ∙ past (seven_pieces h v o b t j c) ((h ++ v) ++ o) (b ++ (t ++ (j ++ c))) (table_start (version_at h) n 2) (simp append_assoc) (omega (arith, length-append (h ++ v) o, length-append h v, s.header, s.vertices, s.occluders))

  at_object_tris : table_in (seven_pieces h v o b t j c) 3 ≡ t ++ (j ++ c)
  at_object_tris = starts 3 ∙ past (seven_pieces h v o b t j c) (((h ++ v) ++ o) ++ b) (t ++ (j ++ c)) (table_start (version_at h) n 3) (simp append_assoc) (omega (arith, length-append ((h ++ v) ++ o) b, length-append (h ++ v) o, length-append h v, s.header, s.vertices, s.occluders, s.batches))

  at_objects : table_in (seven_pieces h v o b t j c) 4 ≡ j ++ c
  at_objects = starts 4 ∙ past (seven_pieces h v o b t j c) ((((h ++ v) ++ o) ++ b) ++ t) (j ++ c) (table_start (version_at h) n 4) (simp append_assoc) (omega (arith, length-append (((h ++ v) ++ o) ++ b) t, length-append ((h ++ v) ++ o) b, length-append (h ++ v) o, length-append h v, s.header, s.vertices, s.occluders, s.batches, s.object_tris))

  at_cameras : table_in (seven_pieces h v o b t j c) 5 ≡ c
  at_cameras = starts 5 ∙ past (seven_pieces h v o b t j c) (((((h ++ v) ++ o) ++ b) ++ t) ++ j) c (table_start (version_at h) n 5) (simp append_assoc) (omega (arith, length-append ((((h ++ v) ++ o) ++ b) ++ t) j, length-append (((h ++ v) ++ o) ++ b) t, length-append ((h ++ v) ++ o) b, length-append (h ++ v) o, length-append h v, s.header, s.vertices, s.occluders, s.batches, s.object_tris, s.objects))

  pub joined_vertices : vertices_in (seven_pieces h v o b t j c) ≡ map (row_of 3) (entries 12 n.vertices v)
  joined_vertices =
      ap (λ (m : Counts). map (row_of 3) (entries 12 m.vertices (table_in (seven_pieces h v o b t j c) 0))) whole_counts
      ∙ ap (λ (r : List ℕ). map (row_of 3) (entries 12 n.vertices r)) at_vertices
      ∙ ap (map (row_of 3)) (entries_front 12 n.vertices v (o ++ (b ++ (t ++ (j ++ c)))) s.vertices)

  pub joined_occluders : occluders_in (seven_pieces h v o b t j c) ≡ map tri_of (entries 12 n.occluders o)
  joined_occluders =
      ap (λ (m : Counts). map tri_of (entries 12 m.occluders (table_in (seven_pieces h v o b t j c) 1))) whole_counts
      ∙ ap (λ (r : List ℕ). map tri_of (entries 12 n.occluders r)) at_occluders
      ∙ ap (map tri_of) (entries_front 12 n.occluders o (b ++ (t ++ (j ++ c))) s.occluders)

  pub joined_stored : stored_batches_in (seven_pieces h v o b t j c) ≡ map raw_batch_of (entries 5 n.batches b)
  joined_stored =
      ap (λ (m : Counts). map raw_batch_of (entries 5 m.batches (table_in (seven_pieces h v o b t j c) 2))) whole_counts
      ∙ ap (λ (r : List ℕ). map raw_batch_of (entries 5 n.batches r)) at_batches
      ∙ ap (map raw_batch_of) (entries_front 5 n.batches b (t ++ (j ++ c)) s.batches)

  pub joined_batches : batches_in (seven_pieces h v o b t j c) ≡ batches_told (version_at h) (slice_index h 12) n.occluders (map raw_batch_of (entries 5 n.batches b))
  joined_batches =
      ap (λ (x : ℕ). batches_told x (slice_index (seven_pieces h v o b t j c) 12) (counts_at (seven_pieces h v o b t j c)).occluders (stored_batches_in (seven_pieces h v o b t j c))) whole_version
      ∙ ap (λ (x : ℕ). batches_told (version_at h) x (counts_at (seven_pieces h v o b t j c)).occluders (stored_batches_in (seven_pieces h v o b t j c))) whole_winding
      ∙ ap (λ (m : Counts). batches_told (version_at h) (slice_index h 12) m.occluders (stored_batches_in (seven_pieces h v o b t j c))) whole_counts
      ∙ ap (λ (bs : List (ℕ × ℕ)). batches_told (version_at h) (slice_index h 12) n.occluders bs) joined_stored

  pub joined_object_tris : object_tris_in (seven_pieces h v o b t j c) ≡ map tri_of (entries 12 n.object_tris t)
  joined_object_tris =
      ap (λ (m : Counts). map tri_of (entries 12 m.object_tris (table_in (seven_pieces h v o b t j c) 3))) whole_counts
      ∙ ap (λ (r : List ℕ). map tri_of (entries 12 n.object_tris r)) at_object_tris
      ∙ ap (map tri_of) (entries_front 12 n.object_tris t (j ++ c) s.object_tris)

  pub joined_objects : objects_in (seven_pieces h v o b t j c) ≡ map raw_of (entries 25 n.objects j)
  joined_objects =
      ap (λ (m : Counts). map raw_of (entries 25 m.objects (table_in (seven_pieces h v o b t j c) 4))) whole_counts
      ∙ ap (λ (r : List ℕ). map raw_of (entries 25 n.objects r)) at_objects
      ∙ ap (map raw_of) (entries_front 25 n.objects j c s.objects)

  pub joined_cameras : cameras_in (seven_pieces h v o b t j c) ≡ map (row_of 12) (entries 48 n.frames c)
  joined_cameras =
      ap (λ (m : Counts). map (row_of 12) (entries 48 m.frames (table_in (seven_pieces h v o b t j c) 5))) whole_counts
      ∙ ap (λ (r : List ℕ). map (row_of 12) (entries 48 n.frames r)) at_cameras

  length_fine : length_fault (seven_pieces h v o b t j c) ≡ None
  unfolding length_fault
  length_fine =
      let all = seven_pieces h v o b t j c in
      let need : scene_length (version_at all) (counts_at all) ≡ length all =
      ap (λ (w : ℕ). scene_length w (counts_at all)) whole_version ∙ ap (scene_length (version_at h)) whole_counts ∙ sym joined_length in
      or_none_from _ _ (fault_none_from _ _ (le-ltb (length all) (scene_length (version_at all) (counts_at all)) (omega (arith, need)))) (fault_none_from _ _ (le-ltb (scene_length (version_at all) (counts_at all)) (length all) (omega (arith, need))))

  -- behind an accepted header and with the length announced the tables decide
  pub joined_first : (vs : List (List ℤ)) (os : List Tri) (bs : List (ℕ × ℕ)) (ts : List Tri) (raws : List (ℕ × List ℤ)) (cs : List (List ℤ)) → header_fault h ≡ None
      → IsTable 12 n.vertices (row_of 3) v vs → IsTable 12 n.occluders tri_of o os → IsTable 5 n.batches raw_batch_of b bs → IsTable 12 n.object_tris tri_of t ts → IsTable 25 n.objects raw_of j raws → IsTable 48 n.frames (row_of 12) c cs
      → first_fault (seven_pieces h v o b t j c) ≡ tables_fault (version_at h) vs os (batches_told (version_at h) (slice_index h 12) n.occluders bs) ts raws cs
  unfolding first_fault
  joined_first vs os bs ts raws cs fine tv to tb tt tj tc =
      let x = seven_pieces h v o b t j c in
      let told = batches_told (version_at h) (slice_index h 12) n.occluders bs in
      let ev : vertices_in x ≡ vs = joined_vertices ∙ sym tv.each in
      let eo : occluders_in x ≡ os = joined_occluders ∙ sym to.each in
      let eb : batches_in x ≡ told = joined_batches ∙ ap (λ (y : List (ℕ × ℕ)). batches_told (version_at h) (slice_index h 12) n.occluders y) (sym tb.each) in
      let et : object_tris_in x ≡ ts = joined_object_tris ∙ sym tt.each in
      let ej : objects_in x ≡ raws = joined_objects ∙ sym tj.each in
      let ec : cameras_in x ≡ cs = joined_cameras ∙ sym tc.each in
      or_second (header_fault x) _ (header_front h (v ++ (o ++ (b ++ (t ++ (j ++ c))))) s.header ∙ fine)
      ∙ or_second (length_fault x) _ length_fine
      ∙ ap (λ (w : ℕ). tables_fault w (vertices_in x) (occluders_in x) (batches_in x) (object_tris_in x) (objects_in x) (cameras_in x)) whole_version
      ∙ ap (λ (y : List (List ℤ)). tables_fault (version_at h) y (occluders_in x) (batches_in x) (object_tris_in x) (objects_in x) (cameras_in x)) ev
      ∙ ap (λ (y : List Tri). tables_fault (version_at h) vs y (batches_in x) (object_tris_in x) (objects_in x) (cameras_in x)) eo
      ∙ ap (λ (y : List (ℕ × ℕ)). tables_fault (version_at h) vs os y (object_tris_in x) (objects_in x) (cameras_in x)) eb
      ∙ ap (λ (y : List Tri). tables_fault (version_at h) vs os told y (objects_in x) (cameras_in x)) et
      ∙ ap (λ (y : List (ℕ × List ℤ)). tables_fault (version_at h) vs os told ts y (cameras_in x)) ej
      ∙ ap (λ (y : List (List ℤ)). tables_fault (version_at h) vs os told ts raws y) ec
