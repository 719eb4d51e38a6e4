-- The scene that a number makes: random triangles and boxes between near and far, and four cameras.
use Rattle.std.specs.Prelude.{ℕ, ℤ, zero, suc, pos, ◌+◌, ◌*◌, ◌^◌, ◌+ℤ◌, ◌-ℤ◌, ◌/◌, ◌%◌, List, [], ◌∷◌, map}
use Rattle.std.specs.List.{flat_map, range_with_len}
use Rattle.cull_base.specs.declared.nearness.Grade.TheVariants.{Narrow}
use Rattle.cull_base.specs.declared.scene_types.Batch.{Batch}
use Rattle.cull_base.specs.declared.scene_types.Object.{Object}
use Rattle.cull_base.specs.declared.scene_types.Object.TheVariants.{Block}
use Rattle.cull_base.specs.declared.scene_types.Tri.{Tri}
use Rattle.cull_base.specs.declared.triangle.Winding.TheVariants.{Both}
use Rattle.cull_base.specs.Bounds.{Bounded}
use Rattle.scene_reader.specs.Layout.{Parts}
use Rattle.demo_scene.specs.declared.generator.Centre.{Centre}

-- the generator's state after k draws: a linear congruential generator of 64 bits
unfoldable pub state_after : ℕ → ℕ → ℕ
state_after seed zero = seed
state_after seed (suc k) = (state_after seed k * 6364136223846793005 + 1442695040888963407) % 2 ^ 64

-- the draw after k others, of n numbers from 0 on: the state's upper 31 bits, reduced
abbrev pub draw : ℕ → ℕ → ℕ → ℕ
draw seed k n = (state_after seed (suc k) / 2 ^ 33) % n

-- a centre takes three draws, after k others
abbrev pub centre_x : ℕ → ℕ → ℤ
centre_x seed k = pos (draw seed k 16001) -ℤ pos 8000

abbrev pub centre_y : ℕ → ℕ → ℤ
centre_y seed k = pos (draw seed (k + 1) 4001) -ℤ pos 2000

abbrev pub centre_z : ℕ → ℕ → ℤ
centre_z seed k = pos (200 + draw seed (k + 2) 16000)

-- no more than 2^15 away from 0 on any axis, as each centre is
pub record IsNear (c : Centre) : Type 0 where
  pub x : Bounded (2 ^ 15) c.x
  pub y : Bounded (2 ^ 15) c.y
  pub z : Bounded (2 ^ 15) c.z

-- a vertex takes three draws, after k others: one for each of its coordinates, about those of a centre
abbrev pub vertex_about : ℕ → ℕ → ℤ → ℤ → ℤ → List ℤ
vertex_about seed k x y z =
    ((x +ℤ pos (draw seed k 801)) -ℤ pos 400)
    ∷ ((y +ℤ pos (draw seed (k + 1) 801)) -ℤ pos 400)
    ∷ ((z +ℤ pos (draw seed (k + 2) 201)) -ℤ pos 100) ∷ []

-- A triangle takes twelve draws: its centre, and three for each of its vertices. Vertex j of triangle i:
abbrev pub vertex_of : ℕ → ℕ → ℕ → List ℤ
vertex_of seed i j =
    let first = 12 * i in
    vertex_about seed (first + 3 + 3 * j) (centre_x seed first) (centre_y seed first) (centre_z seed first)

abbrev pub vertices_of : ℕ → ℕ → List (List ℤ)
vertices_of seed i = vertex_of seed i 0 ∷ vertex_of seed i 1 ∷ vertex_of seed i 2 ∷ []

abbrev pub triangle_of : ℕ → Tri
triangle_of i = record { 0 = (3 * i) ∷ (3 * i + 1) ∷ (3 * i + 2) ∷ [] }

-- one batch of so many triangles, of which none is dropped
abbrev pub whole_batch : ℕ → Batch
whole_batch triangles = record { count = triangles; winding = Both }

-- half a side of a box
abbrev pub half_side : ℕ → ℕ → ℤ
half_side seed k = pos (20 + draw seed k 200)

-- three draws, after k others, for half of each side of a box about a centre
abbrev pub box_about : ℕ → ℕ → ℤ → ℤ → ℤ → Object
box_about seed k x y z = Block
    ((x -ℤ half_side seed k) ∷ (y -ℤ half_side seed (k + 1)) ∷ (z -ℤ half_side seed (k + 2)) ∷ [])
    ((x +ℤ half_side seed k) ∷ (y +ℤ half_side seed (k + 1)) ∷ (z +ℤ half_side seed (k + 2)) ∷ [])

-- a box takes six draws, after k others: its centre, and half of each of its sides
abbrev pub box_of : ℕ → ℕ → Object
box_of seed k = box_about seed (k + 3) (centre_x seed k) (centre_y seed k) (centre_z seed k)

-- so many boxes, after k draws
unfoldable pub boxes_of : ℕ → ℕ → ℕ → List Object
boxes_of seed k count = map (λ j. box_of seed (k + 6 * j)) (range_with_len 0 count)

-- the camera of a frame looks down the z axis and moves on from frame to frame: the rows of x, y and w
abbrev pub camera_of : ℕ → List ℤ
camera_of frame =
    pos 36864 ∷ pos 0 ∷ pos 0 ∷ (pos 0 -ℤ pos (500 * frame))
    ∷ pos 0 ∷ pos 65536 ∷ pos 0 ∷ pos 0
    ∷ pos 0 ∷ pos 0 ∷ pos 65536 ∷ (pos 0 -ℤ pos (100 * frame)) ∷ []

abbrev pub box_count : ℕ
box_count = 500

abbrev pub frame_count : ℕ
frame_count = 4

-- a scene of version 1: so many triangles, then the boxes
unfoldable pub demo_of : ℕ → ℕ → Parts
demo_of seed m = record {
  version = 1;
  width = 1280;
  height = 720;
  near = 16;
  grade = Narrow;
  vertices = flat_map (vertices_of seed) (range_with_len 0 m);
  occluders = map triangle_of (range_with_len 0 m);
  batches = whole_batch m ∷ [];
  object_tris = [];
  objects = boxes_of seed (12 * m) box_count;
  cameras = map camera_of (range_with_len 0 frame_count);
}
