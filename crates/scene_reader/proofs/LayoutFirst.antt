-- The layout of a scene has no fault.
use Rattle.std.proofs.Common.{◌≡◌, ℕ, ℤ, ◌≤◌, List, [], length, map, arith, refl, sym, ap, ◌∙◌, subst, All, Option, None}
use Rattle.std.specs.Prelude.{slice_index, ◌==◌}
use Rattle.std.specs.List.{flat_map}
use Rattle.std.proofs.lemmas.Bool.{cond_both}
use Rattle.std.proofs.lemmas.List.{map-id}
use Rattle.std.proofs.lemmas.List.Elements.{All-nil, recursion_from_All}
use Rattle.std.proofs.lemmas.List.Sums.{get_or-le-sum_by, sum-map}
use Rattle.cull_base.specs.Batches.{AreBatchesOf}
use Rattle.cull_base.specs.declared.scene_types.Batch.{Batch}
use Rattle.cull_base.specs.declared.scene_types.Tri.{Tri}
use Rattle.scene_reader.specs.declared.error.SceneError.{SceneError}
use Rattle.scene_reader.specs.Layout.{Parts, IsScene, IsRow, IsTri, IsObject, row_bytes, tri_bytes, batch_bytes, object_bytes, raw_object, raw_batch, stored_batches, header_bytes, layout}
use Rattle.scene_reader.specs.Length.{header_length}
use Rattle.scene_reader.specs.Fault.{row_of, tri_of, raw_of, raw_batch_of, batches_told, tables_fault, first_fault}
use Rattle.scene_reader.specs.Reading.{IsTable}
use Rattle.scene_reader.proofs.Codes.{row_again, tri_again}
use Rattle.scene_reader.proofs.Headers.{header_fine}
use Rattle.scene_reader.proofs.Pieces.{table_flat, raw_again, batch_again, row_length, tri_length, object_length, batch_length}
use Rattle.scene_reader.proofs.BatchTable.{scene_told}
use Rattle.scene_reader.proofs.HeaderBytes.{counts_of, header_long, header_says, says_counts, scene_accepted}
use Rattle.scene_reader.proofs.SevenPieces.{Sized, joined_first}
use Rattle.scene_reader.proofs.NoFault.{scene_tables}

-- no batch has more triangles than there are
counts_few : (bs : List Batch) (n : ℕ) → AreBatchesOf bs n → n ≤ 65536 → All (λ (b : Batch). b.count ≤ 65536) bs
counts_few bs n sums few = λ k d lt. omega (arith, get_or-le-sum_by (λ (b : Batch). b.count) bs k d lt, sum-map (λ (b : Batch). b.count) bs, sums, few)

module _ (p : Parts) (s : IsScene p) where
  pub layout_vertices : IsTable 12 (length p.vertices) (row_of 3) (flat_map row_bytes p.vertices) p.vertices
  layout_vertices = subst (λ (xs : List (List ℤ)). IsTable 12 (length p.vertices) (row_of 3) (flat_map row_bytes p.vertices) xs) (map-id p.vertices) (table_flat (IsRow 3) 12 (length p.vertices) row_bytes (row_of 3) (λ x. x) (λ x h. row_length 3 x h) (λ x h. row_again 3 x h) p.vertices refl (recursion_from_All (IsRow 3) p.vertices s.vertices))

  pub layout_cameras : IsTable 48 (length p.cameras) (row_of 12) (flat_map row_bytes p.cameras) p.cameras
  layout_cameras = subst (λ (xs : List (List ℤ)). IsTable 48 (length p.cameras) (row_of 12) (flat_map row_bytes p.cameras) xs) (map-id p.cameras) (table_flat (IsRow 12) 48 (length p.cameras) row_bytes (row_of 12) (λ x. x) (λ x h. row_length 12 x h) (λ x h. row_again 12 x h) p.cameras refl (recursion_from_All (IsRow 12) p.cameras s.cameras))

  pub layout_tris : (xs : List Tri) → All (IsTri (length p.vertices)) xs → IsTable 12 (length xs) tri_of (flat_map tri_bytes xs) xs
  layout_tris xs h = subst (λ (ys : List Tri). IsTable 12 (length xs) tri_of (flat_map tri_bytes xs) ys) (map-id xs) (table_flat (IsTri (length p.vertices)) 12 (length xs) tri_bytes tri_of (λ x. x) (λ x h. tri_length (length p.vertices) x h) (λ x h. tri_again (length p.vertices) x s.few_vertices h) xs refl (recursion_from_All (IsTri (length p.vertices)) xs h))

  pub layout_objects : IsTable 25 (length p.objects) raw_of (flat_map object_bytes p.objects) (map raw_object p.objects)
  layout_objects = table_flat (IsObject (length p.object_tris)) 25 (length p.objects) object_bytes raw_of raw_object (λ x h. object_length (length p.object_tris) x s.few_object_tris h) (λ x h. raw_again (length p.object_tris) x s.few_object_tris h) p.objects refl (recursion_from_All (IsObject (length p.object_tris)) p.objects s.objects)

  stored_few : All (λ (b : Batch). b.count ≤ 65536) (stored_batches p.version p.batches)
  stored_few = cond_both (p.version == 1) [] p.batches (λ xs. All (λ (b : Batch). b.count ≤ 65536) xs) (λ _. All-nil (λ (b : Batch). b.count ≤ 65536)) (λ _. counts_few p.batches (length p.occluders) s.batches s.few_occluders)

  pub layout_batches : IsTable 5 (length (stored_batches p.version p.batches)) raw_batch_of (flat_map batch_bytes (stored_batches p.version p.batches)) (map raw_batch (stored_batches p.version p.batches))
  layout_batches =
      let stored = stored_batches p.version p.batches in
      table_flat (λ (b : Batch). b.count ≤ 65536) 5 (length stored) batch_bytes raw_batch_of raw_batch (λ b h. batch_length b) (λ b h. batch_again b (omega (arith, h))) stored refl (recursion_from_All (λ (b : Batch). b.count ≤ 65536) stored stored_few)

  pub layout_sized : Sized (counts_of p) (header_bytes p) (flat_map row_bytes p.vertices) (flat_map tri_bytes p.occluders) (flat_map batch_bytes (stored_batches p.version p.batches)) (flat_map tri_bytes p.object_tris) (flat_map object_bytes p.objects) (flat_map row_bytes p.cameras)
  unfolding counts_of
  layout_sized = record {
    header = header_long p ∙ ap header_length (sym (header_says p s).version);
    counts = says_counts (header_bytes p) p (header_says p s);
    vertices = layout_vertices.whole;
    occluders = (layout_tris p.occluders s.occluders).whole;
    batches = layout_batches.whole;
    object_tris = (layout_tris p.object_tris s.object_tris).whole;
    objects = layout_objects.whole;
    cameras = layout_cameras.whole;
  }

  pub scene_first : first_fault (layout p) ≡ None
  unfolding layout counts_of
  scene_first =
      let h = header_bytes p in
      let stored = stored_batches p.version p.batches in
      let says = header_says p s in
      let tables : List (ℕ × ℕ) → ℕ → Option SceneError = λ bs v. tables_fault v p.vertices p.occluders bs p.object_tris (map raw_object p.objects) p.cameras in
      joined_first (counts_of p) h (flat_map row_bytes p.vertices) (flat_map tri_bytes p.occluders) (flat_map batch_bytes stored) (flat_map tri_bytes p.object_tris) (flat_map object_bytes p.objects) (flat_map row_bytes p.cameras) layout_sized
      p.vertices p.occluders (map raw_batch stored) p.object_tris (map raw_object p.objects) p.cameras (header_fine h (scene_accepted p s))
      layout_vertices (layout_tris p.occluders s.occluders) layout_batches (layout_tris p.object_tris s.object_tris) layout_objects layout_cameras
      ∙ ap (λ (v : ℕ). tables (batches_told v (slice_index h 12) (length p.occluders) (map raw_batch stored)) v) says.version
      ∙ ap (λ (w : ℕ). tables (batches_told p.version w (length p.occluders) (map raw_batch stored)) p.version) says.winding
      ∙ ap (λ (bs : List (ℕ × ℕ)). tables bs p.version) (scene_told p s)
      ∙ scene_tables p s
