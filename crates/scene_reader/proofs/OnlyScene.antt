-- Only one scene has a layout.
use Rattle.std.proofs.Common.{◌≡◌, ℕ, ℤ, pos, negsuc, ◌≤◌, ◌++◌, ◌∷◌, List, [], length, map, arith, refl, sym, ap, ◌∙◌, subst, All}
use Rattle.std.specs.Prelude.{slice_index}
use Rattle.std.specs.List.{AllByRecursion, flat_map}
use Rattle.std.proofs.lemmas.List.Elements.{recursion_from_All}
use Rattle.cull_base.specs.declared.rect.Rect.{Rect}
use Rattle.cull_base.specs.declared.triangle.Winding.{Winding}
use Rattle.cull_base.specs.declared.triangle.Winding.TheVariants.{Both, DropClockwise, DropCounter}
use Rattle.cull_base.specs.declared.nearness.Grade.{Grade}
use Rattle.cull_base.specs.declared.nearness.Grade.TheVariants.{Narrow, Wide}
use Rattle.cull_base.specs.declared.scene_types.Batch.{Batch}
use Rattle.cull_base.specs.declared.scene_types.Tri.{Tri}
use Rattle.cull_base.specs.declared.scene_types.Object.{Object}
use Rattle.cull_base.specs.declared.scene_types.Object.TheVariants.{Area, Block, Mesh}
use Rattle.scene_reader.specs.Layout.{Parts, IsScene, IsObject, row_bytes, tri_bytes, batch_bytes, object_bytes, raw_object, raw_batch, winding_code, grade_code, stored_batches, header_bytes, layout, number_at}
use Rattle.scene_reader.specs.Fault.{version_at, short_at, batches_told, vertices_in, occluders_in, batches_in, object_tris_in, objects_in, cameras_in}
use Rattle.scene_reader.proofs.Shapes.{three}
use Rattle.scene_reader.proofs.Headers.{length_some, version_front, short_front, byte_front}
use Rattle.scene_reader.proofs.BatchTable.{scene_told}
use Rattle.scene_reader.proofs.HeaderBytes.{counts_of, header_long, header_says}
use Rattle.scene_reader.proofs.SevenPieces.{joined_vertices, joined_occluders, joined_batches, joined_object_tris, joined_objects, joined_cameras}
use Rattle.scene_reader.proofs.LayoutFirst.{layout_vertices, layout_cameras, layout_tris, layout_batches, layout_objects, layout_sized}

winding_one : (a b : Winding) → winding_code a ≡ winding_code b → a ≡ b
winding_one Both Both e = refl
winding_one Both DropClockwise e = absurd (omega (arith, e))
winding_one Both DropCounter e = absurd (omega (arith, e))
winding_one DropClockwise Both e = absurd (omega (arith, e))
winding_one DropClockwise DropClockwise e = refl
winding_one DropClockwise DropCounter e = absurd (omega (arith, e))
winding_one DropCounter Both e = absurd (omega (arith, e))
winding_one DropCounter DropClockwise e = absurd (omega (arith, e))
winding_one DropCounter DropCounter e = refl

grade_one : (a b : Grade) → grade_code a ≡ grade_code b → a ≡ b
grade_one Narrow Narrow e = refl
grade_one Narrow Wide e = absurd (omega (arith, e))
grade_one Wide Narrow e = absurd (omega (arith, e))
grade_one Wide Wide e = refl

batch_one : (a b : Batch) → raw_batch a ≡ raw_batch b → a ≡ b
batch_one a b e =
    let make : ℕ → Winding → Batch = λ n w. record { count = n; winding = w } in
    let counts : a.count ≡ b.count = ap (λ (r : ℕ × ℕ). r.0) e in
    let windings : a.winding ≡ b.winding = winding_one a.winding b.winding (ap (λ (r : ℕ × ℕ). r.1) e) in
    ap (λ (n : ℕ). make n a.winding) counts ∙ ap (make b.count) windings

batches_one : (xs ys : List Batch) → map raw_batch xs ≡ map raw_batch ys → xs ≡ ys
batches_one [] [] e = refl
batches_one [] (y ∷ ys) e = absurd cc
batches_one (x ∷ xs) [] e = absurd cc
batches_one (x ∷ xs) (y ∷ ys) e =
    let first : raw_batch x ≡ raw_batch y = cc in
    let rest : map raw_batch xs ≡ map raw_batch ys = cc in
    ap (λ (z : Batch). z ∷ xs) (batch_one x y first) ∙ ap (λ (zs : List Batch). y ∷ zs) (batches_one xs ys rest)

row_axis : (k : ℕ) (a b : ℕ × List ℤ) → a ≡ b → number_at a.1 k ≡ number_at b.1 k
row_axis k a b e = ap (λ (r : ℕ × List ℤ). number_at r.1 k) e

natural : ℤ → ℕ
natural (pos n) = n
natural (negsuc n) = 0

three_same : (xs ys : List ℤ) → length xs ≡ 3 → length ys ≡ 3 → number_at xs 0 ≡ number_at ys 0 → number_at xs 1 ≡ number_at ys 1 → number_at xs 2 ≡ number_at ys 2 → xs ≡ ys
three_same xs ys l k e0 e1 e2 = sym (three xs l) ∙ (rw (e0, e1, e2) refl) ∙ three ys k

same_rect : (r q : Rect) → r.x0 ≡ q.x0 → r.y0 ≡ q.y0 → r.x1 ≡ q.x1 → r.y1 ≡ q.y1 → r ≡ q
same_rect r q e0 e1 e2 e3 =
    let make : ℤ → ℤ → ℤ → ℤ → Rect = λ a b c d. record { x0 = a; y0 = b; x1 = c; y1 = d } in
    ap (λ (a : ℤ). make a r.y0 r.x1 r.y1) e0 ∙ ap (λ (b : ℤ). make q.x0 b r.x1 r.y1) e1 ∙ ap (λ (c : ℤ). make q.x0 q.y0 c r.y1) e2 ∙ ap (λ (d : ℤ). make q.x0 q.y0 q.x1 d) e3

stored_one : (m : ℕ) (a b : Object) → IsObject m a → IsObject m b → raw_object a ≡ raw_object b → a ≡ b
unfolding natural
stored_one m (Area r w) (Area q u) ha hb e =
    let e0 = row_axis 0 _ _ e in let e1 = row_axis 1 _ _ e in let e2 = row_axis 2 _ _ e in let e3 = row_axis 3 _ _ e in let e4 = row_axis 4 _ _ e in
    ap (λ (x : Rect). Area x w) (same_rect r q e0 e1 e2 e3) ∙ ap (Area q) e4
stored_one m (Area r w) (Block low high) ha hb e = absurd (omega (arith, ap (λ (x : ℕ × List ℤ). x.0) e))
stored_one m (Area r w) (Mesh first count) ha hb e = absurd (omega (arith, ap (λ (x : ℕ × List ℤ). x.0) e))
stored_one m (Block low high) (Area q u) ha hb e = absurd (omega (arith, ap (λ (x : ℕ × List ℤ). x.0) e))
stored_one m (Block low high) (Block low2 high2) ha hb e =
    let el = three_same low low2 ha.0.0 hb.0.0 (row_axis 0 _ _ e) (row_axis 1 _ _ e) (row_axis 2 _ _ e) in
    let eh = three_same high high2 ha.1.0 hb.1.0 (row_axis 3 _ _ e) (row_axis 4 _ _ e) (row_axis 5 _ _ e) in
    rw (el, eh) refl
stored_one m (Block low high) (Mesh first count) ha hb e = absurd (omega (arith, ap (λ (x : ℕ × List ℤ). x.0) e))
stored_one m (Mesh first count) (Area q u) ha hb e = absurd (omega (arith, ap (λ (x : ℕ × List ℤ). x.0) e))
stored_one m (Mesh first count) (Block low high) ha hb e = absurd (omega (arith, ap (λ (x : ℕ × List ℤ). x.0) e))
stored_one m (Mesh first count) (Mesh first2 count2) ha hb e =
    let ef : first ≡ first2 = ap (λ (r : ℕ × List ℤ). natural (number_at r.1 0)) e in
    let ec : count ≡ count2 = ap (λ (r : ℕ × List ℤ). natural (number_at r.1 1)) e in
    rw (ef, ec) refl

stored_each : (m : ℕ) (xs ys : List Object) → AllByRecursion (IsObject m) xs → AllByRecursion (IsObject m) ys → map raw_object xs ≡ map raw_object ys → xs ≡ ys
stored_each m [] [] hx hy e = refl
stored_each m [] (y ∷ ys) hx hy e = absurd cc
stored_each m (x ∷ xs) [] hx hy e = absurd cc
stored_each m (x ∷ xs) (y ∷ ys) hx hy e =
    let first : raw_object x ≡ raw_object y = cc in
    let rest : map raw_object xs ≡ map raw_object ys = cc in
    ap (λ (z : Object). z ∷ xs) (stored_one m x y hx.0 hy.0 first) ∙ ap (λ (zs : List Object). y ∷ zs) (stored_each m xs ys hx.1 hy.1 rest)

same_parts : (p q : Parts) → p.version ≡ q.version → p.width ≡ q.width → p.height ≡ q.height → p.near ≡ q.near → p.grade ≡ q.grade → p.vertices ≡ q.vertices → p.occluders ≡ q.occluders → p.batches ≡ q.batches → p.object_tris ≡ q.object_tris → p.objects ≡ q.objects → p.cameras ≡ q.cameras → p ≡ q
same_parts p q e0 e1 e2 e3 e4 e5 e6 e7 e8 e9 e10 =
    let make : ℕ → ℕ → ℕ → ℕ → Grade → List (List ℤ) → List Tri → List Batch → List Tri → List Object → List (List ℤ) → Parts =
    λ v a b c g d f k h i j. record { version = v; width = a; height = b; near = c; grade = g; vertices = d; occluders = f; batches = k; object_tris = h; objects = i; cameras = j } in
    ap (λ (x : ℕ). make x p.width p.height p.near p.grade p.vertices p.occluders p.batches p.object_tris p.objects p.cameras) e0
    ∙ ap (λ (x : ℕ). make q.version x p.height p.near p.grade p.vertices p.occluders p.batches p.object_tris p.objects p.cameras) e1
    ∙ ap (λ (x : ℕ). make q.version q.width x p.near p.grade p.vertices p.occluders p.batches p.object_tris p.objects p.cameras) e2
    ∙ ap (λ (x : ℕ). make q.version q.width q.height x p.grade p.vertices p.occluders p.batches p.object_tris p.objects p.cameras) e3
    ∙ ap (λ (x : Grade). make q.version q.width q.height q.near x p.vertices p.occluders p.batches p.object_tris p.objects p.cameras) e4
    ∙ ap (λ (x : List (List ℤ)). make q.version q.width q.height q.near q.grade x p.occluders p.batches p.object_tris p.objects p.cameras) e5
    ∙ ap (λ (x : List Tri). make q.version q.width q.height q.near q.grade q.vertices x p.batches p.object_tris p.objects p.cameras) e6
    ∙ ap (λ (x : List Batch). make q.version q.width q.height q.near q.grade q.vertices q.occluders x p.object_tris p.objects p.cameras) e7
    ∙ ap (λ (x : List Tri). make q.version q.width q.height q.near q.grade q.vertices q.occluders q.batches x p.objects p.cameras) e8
    ∙ ap (λ (x : List Object). make q.version q.width q.height q.near q.grade q.vertices q.occluders q.batches q.object_tris x p.cameras) e9
    ∙ ap (λ (x : List (List ℤ)). make q.version q.width q.height q.near q.grade q.vertices q.occluders q.batches q.object_tris q.objects x) e10

-- what is read in a scene's layout
record Reads (b : List ℕ) (p : Parts) : Type 0 where
  version : version_at b ≡ p.version
  width : short_at 6 b ≡ p.width
  height : short_at 8 b ≡ p.height
  near : short_at 10 b ≡ p.near
  grade : slice_index b 13 ≡ grade_code p.grade
  vertices : vertices_in b ≡ p.vertices
  occluders : occluders_in b ≡ p.occluders
  batches : batches_in b ≡ map raw_batch p.batches
  object_tris : object_tris_in b ≡ p.object_tris
  objects : objects_in b ≡ map raw_object p.objects
  cameras : cameras_in b ≡ p.cameras

layout_reads : (p : Parts) → IsScene p → Reads (layout p) p
unfolding layout counts_of
layout_reads p s =
    let stored = stored_batches p.version p.batches in
    let h = header_bytes p in
    let v = flat_map row_bytes p.vertices in
    let o = flat_map tri_bytes p.occluders in
    let b = flat_map batch_bytes stored in
    let t = flat_map tri_bytes p.object_tris in
    let j = flat_map object_bytes p.objects in
    let c = flat_map row_bytes p.cameras in
    let rest = v ++ (o ++ (b ++ (t ++ (j ++ c)))) in
    let sized = layout_sized p s in
    let says = header_says p s in
    let long : 32 ≤ length h = omega (arith, header_long p, length_some p.version) in
    record {
      version = version_front h rest long ∙ says.version;
      width = short_front 6 h rest (omega (arith, long)) ∙ says.width;
      height = short_front 8 h rest (omega (arith, long)) ∙ says.height;
      near = short_front 10 h rest (omega (arith, long)) ∙ says.near;
      grade = byte_front 13 h rest (omega arith) long ∙ says.grade;
      vertices = joined_vertices (counts_of p) h v o b t j c sized ∙ sym (layout_vertices p s).each;
      occluders = joined_occluders (counts_of p) h v o b t j c sized ∙ sym (layout_tris p s p.occluders s.occluders).each;
      batches =
          joined_batches (counts_of p) h v o b t j c sized
          ∙ ap (λ (bs : List (ℕ × ℕ)). batches_told (version_at h) (slice_index h 12) (length p.occluders) bs) (sym (layout_batches p s).each)
          ∙ ap (λ (w : ℕ). batches_told w (slice_index h 12) (length p.occluders) (map raw_batch stored)) says.version
          ∙ ap (λ (w : ℕ). batches_told p.version w (length p.occluders) (map raw_batch stored)) says.winding
          ∙ scene_told p s;
      object_tris = joined_object_tris (counts_of p) h v o b t j c sized ∙ sym (layout_tris p s p.object_tris s.object_tris).each;
      objects = joined_objects (counts_of p) h v o b t j c sized ∙ sym (layout_objects p s).each;
      cameras = joined_cameras (counts_of p) h v o b t j c sized ∙ sym (layout_cameras p s).each;
    }

-- two scenes with one layout are one
pub layout_one : (p q : Parts) → IsScene p → IsScene q → layout p ≡ layout q → p ≡ q
layout_one p q sp sq e =
    let rp = layout_reads p sp in
    let rq = layout_reads q sq in
    let et : p.object_tris ≡ q.object_tris = sym rp.object_tris ∙ ap object_tris_in e ∙ rq.object_tris in
    let eb : map raw_batch p.batches ≡ map raw_batch q.batches = sym rp.batches ∙ ap batches_in e ∙ rq.batches in
    let ej : map raw_object p.objects ≡ map raw_object q.objects = sym rp.objects ∙ ap objects_in e ∙ rq.objects in
    let valid : All (IsObject (length p.object_tris)) q.objects = subst (λ (ts : List Tri). All (IsObject (length ts)) q.objects) (sym et) sq.objects in
    same_parts p q
    (sym rp.version ∙ ap version_at e ∙ rq.version)
    (sym rp.width ∙ ap (short_at 6) e ∙ rq.width)
    (sym rp.height ∙ ap (short_at 8) e ∙ rq.height)
    (sym rp.near ∙ ap (short_at 10) e ∙ rq.near)
    (grade_one p.grade q.grade (sym rp.grade ∙ ap (λ (b : List ℕ). slice_index b 13) e ∙ rq.grade))
    (sym rp.vertices ∙ ap vertices_in e ∙ rq.vertices)
    (sym rp.occluders ∙ ap occluders_in e ∙ rq.occluders)
    (batches_one p.batches q.batches eb)
    et
    (stored_each (length p.object_tris) p.objects q.objects (recursion_from_All (IsObject (length p.object_tris)) p.objects sp.objects) (recursion_from_All (IsObject (length p.object_tris)) q.objects valid) ej)
    (sym rp.cameras ∙ ap cameras_in e ∙ rq.cameras)
