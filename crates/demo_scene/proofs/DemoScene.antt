-- The scene of a seed is valid.
use Rattle.std.proofs.Common.{◌≡◌, ℕ, ℤ, zero, suc, pos, ◌+◌, ◌*◌, ◌^◌, ◌<◌, ◌≤◌, ◌≤ℤ◌, ◌-ℤ◌, ◌+ℤ◌, List, [], ◌∷◌, length, map, get_or, arith, refl, ◌∙◌, lit≤}
use Rattle.std.specs.List.{All, flat_map, range_with_len}
use Rattle.std.proofs.lemmas.Int.{ints}
use Rattle.std.proofs.lemmas.List.{length-append}
use Rattle.std.proofs.lemmas.List.Elements.{All-nil, All-append, All-map, All-from_recursion}
use Rattle.std.proofs.lemmas.List.FromFn.{length-map-range_with_len, get_or-range_with_len, length-range_with_len}
use Rattle.cull_base.specs.Bounds.{Bounded}
use Rattle.scene_reader.specs.Layout.{IsScene, IsRow, IsTri, IsObject, InLimits}
use Rattle.demo_scene.specs.Demo.{draw, centre_x, centre_y, centre_z, vertex_of, vertices_of, triangle_of, box_of, boxes_of, camera_of, box_count, frame_count, demo_of}

-- ---- over a range

flat_length : {A : Type 0} (f : ℕ → List A) (each : ℕ) → ((i : ℕ) → length (f i) ≡ each) → (a m : ℕ) → length (flat_map f (range_with_len a m)) ≡ each * m
flat_length f each is a zero = omega arith
flat_length f each is a (suc m) =
    let e = is a in let rest = flat_length f each is (a + 1) m in let both = length-append (f a) (flat_map f (range_with_len (a + 1) m)) in
    omega (arith, e, rest, both)

flat_all : {A : Type 0} (P : A → Type 0) (f : ℕ → List A) → ((i : ℕ) → All P (f i)) → (a m : ℕ) → All P (flat_map f (range_with_len a m))
flat_all P f is a zero = All-nil P
flat_all P f is a (suc m) = All-append P (f a) (flat_map f (range_with_len (a + 1) m)) (is a) (flat_all P f is (a + 1) m)

map_all : {A : Type 0} (P : A → Type 0) (f : ℕ → A) (m : ℕ) → ((i : ℕ) → i < m → P (f i)) → All P (map f (range_with_len 0 m))
map_all P f m is = All-map P f (range_with_len 0 m) (λ k d lt.
    let below : k < m = omega (arith, length-range_with_len 0 m, lt) in
    let at : get_or (range_with_len 0 m) k d ≡ k = get_or-range_with_len 0 m k d below ∙ omega arith in
    rw at (is k below))

-- ---- each part is within its limits

row_of_three : (x y z : ℤ) → InLimits x → InLimits y → InLimits z → IsRow 3 (x ∷ y ∷ z ∷ [])
row_of_three x y z p q r = (refl, All-from_recursion InLimits (x ∷ y ∷ z ∷ []) (p, (q, (r, tt))))

vertex_is_row : (seed i j : ℕ) → IsRow 3 (vertex_of seed i j)
vertex_is_row seed i j = row_of_three _ _ _ (omega (arith, ints), omega (arith, ints)) (omega (arith, ints), omega (arith, ints)) (omega (arith, ints), omega (arith, ints))

vertices_are_rows : (seed i : ℕ) → All (IsRow 3) (vertices_of seed i)
vertices_are_rows seed i =
    All-from_recursion (IsRow 3) (vertices_of seed i) (vertex_is_row seed i 0, (vertex_is_row seed i 1, (vertex_is_row seed i 2, tt)))

is_tri : (vertices i : ℕ) → 3 * i + 3 ≤ vertices → IsTri vertices (triangle_of i)
is_tri vertices i le =
    (refl, All-from_recursion (λ v. v < vertices) ((3 * i) ∷ (3 * i + 1) ∷ (3 * i + 2) ∷ []) (omega arith, (omega arith, (omega arith, tt))))

-- a centre and half of a side
low_within : (x : ℤ) (n : ℕ) → Bounded (2 ^ 15) x → n ≤ 1000 → InLimits (x -ℤ pos n)
low_within x n p q = (omega (arith, ints), omega (arith, ints))

high_within : (x : ℤ) (n : ℕ) → Bounded (2 ^ 15) x → n ≤ 1000 → InLimits (x +ℤ pos n)
high_within x n p q = (omega (arith, ints), omega (arith, ints))

low_first : (x : ℤ) (n : ℕ) → (x -ℤ pos n) ≤ℤ (x +ℤ pos n)
low_first x n = omega (arith, ints)

is_object : (seed k : ℕ) → IsObject 0 (box_of seed k)
is_object seed k =
    let x = centre_x seed k in let y = centre_y seed k in let z = centre_z seed k in
    let px : Bounded (2 ^ 15) x = (omega (arith, ints), omega (arith, ints)) in
    let py : Bounded (2 ^ 15) y = (omega (arith, ints), omega (arith, ints)) in
    let pz : Bounded (2 ^ 15) z = (omega (arith, ints), omega (arith, ints)) in
    let few : (j : ℕ) → 20 + draw seed j 200 ≤ 1000 = λ j. omega arith in (
      row_of_three _ _ _ (low_within x _ px (few (k + 3))) (low_within y _ py (few (k + 3 + 1))) (low_within z _ pz (few (k + 3 + 2))),
      row_of_three _ _ _ (high_within x _ px (few (k + 3))) (high_within y _ py (few (k + 3 + 1))) (high_within z _ pz (few (k + 3 + 2))),
      low_first x _,
      low_first y _,
      low_first z _,
    )

boxes_are_objects : (seed k count : ℕ) → All (IsObject 0) (boxes_of seed k count)
unfolding boxes_of
boxes_are_objects seed k count = map_all (IsObject 0) (λ j. box_of seed (k + 6 * j)) count (λ j lt. is_object seed (k + 6 * j))

length-boxes_of : (seed k count : ℕ) → length (boxes_of seed k count) ≡ count
unfolding boxes_of
length-boxes_of seed k count = length-map-range_with_len (λ j. box_of seed (k + 6 * j)) 0 count

camera_is_row : (frame : ℕ) → frame < 4 → IsRow 12 (camera_of frame)
camera_is_row frame lt =
    let here : InLimits (pos 0 -ℤ pos (500 * frame)) = (omega (arith, ints), omega (arith, ints)) in
    let onward : InLimits (pos 0 -ℤ pos (100 * frame)) = (omega (arith, ints), omega (arith, ints)) in
    let number : (n : ℕ) → n ≤ 65536 → InLimits (pos n) = λ n le. (omega (arith, ints), omega (arith, ints)) in
    let nought = number 0 (lit≤ tt) in let one = number 65536 (lit≤ tt) in (
      refl,
      All-from_recursion InLimits (camera_of frame)
          (number 36864 (lit≤ tt), (nought, (nought, (here, (nought, (one, (nought, (nought, (nought, (nought, (one, (onward, tt)))))))))))),
    )

pub demo_is_scene : (seed m : ℕ) → m ≤ 65536 → IsScene (demo_of seed m)
unfolding demo_of
demo_is_scene seed m few =
    let vertices : length (flat_map (vertices_of seed) (range_with_len 0 m)) ≡ 3 * m = flat_length (vertices_of seed) 3 (λ i. refl) 0 m in
    let occluders : length (map triangle_of (range_with_len 0 m)) ≡ m = length-map-range_with_len triangle_of 0 m in
    let objects = length-boxes_of seed (12 * m) box_count in
    record {
      version_some = lit≤ tt;
      version_known = lit≤ tt;
      narrow = λ _. refl;
      one_batch = λ _. refl;
      size = record { whole_columns = refl; wide = lit≤ tt; within_width = lit≤ tt; whole_rows = refl; high = lit≤ tt; within_height = lit≤ tt };
      near_some = lit≤ tt;
      near_within = lit≤ tt;
      some_frames = lit≤ tt;
      few_frames = lit≤ tt;
      few_vertices = omega arith;
      few_occluders = omega arith;
      few_batches = lit≤ tt;
      few_object_tris = lit≤ tt;
      few_objects = omega arith;
      vertices = flat_all (IsRow 3) (vertices_of seed) (vertices_are_rows seed) 0 m;
      occluders = map_all (IsTri (length (flat_map (vertices_of seed) (range_with_len 0 m)))) triangle_of m (λ i lt. is_tri _ i (omega arith));
      batches = omega (arith, occluders);
      object_tris = All-nil (IsTri (length (flat_map (vertices_of seed) (range_with_len 0 m))));
      objects = boxes_are_objects seed (12 * m) box_count;
      cameras = map_all (IsRow 12) camera_of frame_count camera_is_row;
    }
