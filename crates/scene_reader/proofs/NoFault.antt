-- The tables and the parts of a scene have no fault.
use Rattle.std.proofs.Common.{◌≡◌, ℕ, ◌+◌, ◌≤◌, ◌∷◌, List, [], length, map, arith, refl, ap, false, Option, None, inl, inr, ◌⊎◌}
use Rattle.std.specs.Prelude.{◌==◌, ◌&&◌}
use Rattle.std.specs.List.{AllByRecursion}
use Rattle.std.proofs.lemmas.Bool.{le-ltb, ne_eqb, and_left, and_right, cases_eq}
use Rattle.std.proofs.lemmas.List.Elements.{recursion_from_All}
use Rattle.cull_base.specs.declared.nearness.Grade.{Grade}
use Rattle.cull_base.specs.declared.scene_types.Tri.{Tri}
use Rattle.cull_base.specs.declared.scene_types.Object.{Object}
use Rattle.cull_base.specs.declared.scene_types.Object.TheVariants.{Area, Block, Mesh}
use Rattle.scene_reader.specs.declared.error.SceneError.{SceneError}
use Rattle.scene_reader.specs.declared.error.SceneError.TheVariants.{BadVertex, BadIndex, BadKind, BadObject, BadCamera, BadGrade}
use Rattle.scene_reader.specs.Layout.{Parts, IsScene, IsRow, IsTri, IsObject, kind_of, numbers_of, raw_object, raw_batch, grade_code}
use Rattle.scene_reader.specs.Fault.{first_among, tables_fault, vertex_fault, index_fault, object_fault, camera_fault, is_bad_object}
use Rattle.scene_reader.specs.Header.{AreCounts}
use Rattle.scene_reader.specs.PartsFault.{count_in_32_bits, counts_of_parts, grade_fault, first_fault_of_parts}
use Rattle.scene_reader.proofs.Valid.{row_good, indices_good, area_good, block_good, mesh_good}
use Rattle.scene_reader.proofs.Headers.{or_none_from, fault_none_from, version_good, screen_good, counts_good}
use Rattle.scene_reader.proofs.BatchTable.{batches_good}

first_good : {X : Type 0} (P : X → Type 0) (fault : ℕ → X → Option SceneError) → ((i : ℕ) (x : X) → P x → fault i x ≡ None) → (i : ℕ) (xs : List X) → AllByRecursion P xs → first_among fault i xs ≡ None
first_good P fault fine i [] h = refl
first_good P fault fine i (x ∷ xs) h = or_none_from _ _ (fine i x h.0) (first_good P fault fine (i + 1) xs h.1)

first_good_map : {X Y : Type 0} (P : X → Type 0) (fault : ℕ → Y → Option SceneError) (view : X → Y) → ((i : ℕ) (x : X) → P x → fault i (view x) ≡ None) → (i : ℕ) (xs : List X) → AllByRecursion P xs → first_among fault i (map view xs) ≡ None
first_good_map P fault view fine i [] h = refl
first_good_map P fault view fine i (x ∷ xs) h = or_none_from _ _ (fine i x h.0) (first_good_map P fault view fine (i + 1) xs h.1)

kind_small : (o : Object) → kind_of o ≤ 2
kind_small (Area r w) = omega arith
kind_small (Block low high) = omega arith
kind_small (Mesh first count) = omega arith

pub object_good : (m : ℕ) (o : Object) → m ≤ 262144 → IsObject m o → is_bad_object m (kind_of o) (numbers_of o) ≡ false
object_good m (Area r w) few h = area_good m r w h
object_good m (Block low high) few h = block_good m low high h
object_good m (Mesh first count) few h = mesh_good m first count few h

object_fine : (m i : ℕ) (o : Object) → m ≤ 262144 → IsObject m o → object_fault m i (raw_object o) ≡ None
object_fine m i o few h = or_none_from _ _ (fault_none_from _ (BadKind i) (le-ltb 2 (kind_of o) (kind_small o))) (fault_none_from _ (BadObject i) (object_good m o few h))

-- an object that isn't bad has no fault
pub fine_object : (m i : ℕ) (o : Object) → is_bad_object m (kind_of o) (numbers_of o) ≡ false → object_fault m i (raw_object o) ≡ None
fine_object m i o good = or_none_from _ _ (fault_none_from _ (BadKind i) (le-ltb 2 (kind_of o) (kind_small o))) (fault_none_from _ (BadObject i) good)

pub scene_tables : (p : Parts) → IsScene p → tables_fault p.version p.vertices p.occluders (map raw_batch p.batches) p.object_tris (map raw_object p.objects) p.cameras ≡ None
unfolding tables_fault
scene_tables p s =
    let nv = length p.vertices in
    let m = length p.object_tris in
    let tri : (table i : ℕ) (t : Tri) → IsTri nv t → index_fault table nv i t ≡ None = λ table i t h. fault_none_from _ (BadIndex table i) (indices_good nv t.0 h.1) in
    or_none_from _ _ (first_good (IsRow 3) vertex_fault (λ i row h. fault_none_from _ (BadVertex i) (row_good row h.1)) 0 p.vertices (recursion_from_All (IsRow 3) p.vertices s.vertices))
    (or_none_from _ _ (first_good (IsTri nv) (index_fault 0 nv) (tri 0) 0 p.occluders (recursion_from_All (IsTri nv) p.occluders s.occluders))
    (or_none_from _ _ (batches_good p.version (length p.occluders) p.batches s.batches s.one_batch)
    (or_none_from _ _ (first_good (IsTri nv) (index_fault 1 nv) (tri 1) 0 p.object_tris (recursion_from_All (IsTri nv) p.object_tris s.object_tris))
    (or_none_from _ _ (first_good_map (IsObject m) (object_fault m) raw_object (λ i o h. object_fine m i o s.few_object_tris h) 0 p.objects (recursion_from_All (IsObject m) p.objects s.objects))
    (first_good (IsRow 12) camera_fault (λ i row h. fault_none_from _ (BadCamera i) (row_good row h.1)) 0 p.cameras (recursion_from_All (IsRow 12) p.cameras s.cameras))))))

count_small : (n limit : ℕ) → n ≤ limit → limit ≤ 262144 → count_in_32_bits n ≡ n
count_small n limit h few = omega (arith, h, few)

grade_fine : (p : Parts) → IsScene p → grade_fault p ≡ None
grade_fine p s = fault_none_from _ (BadGrade 1) (narrow (cases_eq p.version 1))
  where
    narrow : (p.version ≡ 1) ⊎ (p.version ≡ 1 → ⊥) → (p.version == 1 && grade_code p.grade == 1) ≡ false
    narrow (inl one) = and_right (p.version == 1) _ (ap (λ (g : Grade). grade_code g == 1) (s.narrow one))
    narrow (inr other) = and_left (p.version == 1) _ (ne_eqb p.version 1 other)

pub parts_fine : (p : Parts) → IsScene p → first_fault_of_parts p ≡ None
unfolding first_fault_of_parts
parts_fine p s =
    let counts : AreCounts (counts_of_parts p) = record {
      some_frames = omega (arith, count_small (length p.cameras) 256 s.few_frames (omega arith), s.some_frames);
      few_frames = omega (arith, count_small (length p.cameras) 256 s.few_frames (omega arith), s.few_frames);
      few_vertices = omega (arith, count_small (length p.vertices) 262144 s.few_vertices (omega arith), s.few_vertices);
      few_occluders = omega (arith, count_small (length p.occluders) 65536 s.few_occluders (omega arith), s.few_occluders);
      few_object_tris = omega (arith, count_small (length p.object_tris) 262144 s.few_object_tris (omega arith), s.few_object_tris);
      few_batches = omega (arith, count_small (length p.batches) 4096 s.few_batches (omega arith), s.few_batches);
      few_objects = omega (arith, count_small (length p.objects) 65536 s.few_objects (omega arith), s.few_objects);
    } in
    or_none_from _ _ (version_good p.version s.version_some s.version_known)
    (or_none_from _ _ (screen_good p.width p.height p.near s.size s.near_some s.near_within)
    (or_none_from _ _ (grade_fine p s)
    (or_none_from _ _ (counts_good (counts_of_parts p) counts) (scene_tables p s))))
