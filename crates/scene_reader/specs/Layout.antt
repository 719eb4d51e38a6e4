-- A scene as numbers and lists, which of them are scenes, and the one layout of each as bytes.
use Rattle.std.specs.Prelude.{ℕ, ℤ, pos, ◌≡◌, ◌+◌, ◌^◌, ◌<◌, ◌≤◌, ◌≤ℤ◌, ◌==◌, if◌then◌else◌, List, [], ◌∷◌, ◌++◌, length, slice_index_or}
use Rattle.std.specs.List.{All, flat_map}
use Rattle.std.specs.Int.{w16, w32, to_le_bytes, cast_unsigned}
use Rattle.cull_base.specs.Batches.{AreBatchesOf}
use Rattle.cull_base.specs.Bounds.{Bounded}
use Rattle.cull_base.specs.Screen.{IsSize}
use Rattle.cull_base.specs.declared.nearness.Grade.{Grade}
use Rattle.cull_base.specs.declared.nearness.Grade.TheVariants.{Narrow, Wide}
use Rattle.cull_base.specs.declared.triangle.Winding.{Winding}
use Rattle.cull_base.specs.declared.triangle.Winding.TheVariants.{Both, DropClockwise, DropCounter}
use Rattle.cull_base.specs.declared.scene_types.Batch.{Batch}
use Rattle.cull_base.specs.declared.scene_types.Tri.{Tri}
use Rattle.cull_base.specs.declared.scene_types.Object.{Object}
use Rattle.cull_base.specs.declared.scene_types.Object.TheVariants.{Area, Block, Mesh}

-- what a scene is made of: a row of a vertex has three numbers, a camera twelve
pub record Parts : Type 0 where
  pub version : ℕ
  pub width : ℕ
  pub height : ℕ
  pub near : ℕ
  pub grade : Grade
  pub vertices : List (List ℤ)
  pub occluders : List Tri
  pub batches : List Batch
  pub object_tris : List Tri
  pub objects : List Object
  pub cameras : List (List ℤ)

-- at most 2^24 away from 0
abbrev pub InLimits : ℤ → Type 0
InLimits z = Bounded (2 ^ 24) z

-- so many numbers, each within the limits
abbrev pub IsRow : ℕ → List ℤ → Type 0
IsRow n row = (length row ≡ n) × All InLimits row

-- three numbers of vertices
abbrev pub IsTri : ℕ → Tri → Type 0
IsTri vertices t = (length t.0 ≡ 3) × All (λ v. v < vertices) t.0

-- number k of a row, 0 past its end
abbrev pub number_at : List ℤ → ℕ → ℤ
number_at row k = slice_index_or row k (pos 0)

-- a rectangle runs from its first corner on, a box from its least corner to its greatest, a mesh within the object triangles
abbrev pub IsObject : ℕ → Object → Type 0
IsObject object_tris (Area r w) =
    (r.x0 ≤ℤ r.x1) × (r.y0 ≤ℤ r.y1) × InLimits r.x0 × InLimits r.y0 × InLimits r.x1 × InLimits r.y1 × InLimits w
IsObject object_tris (Block low high) =
    IsRow 3 low × IsRow 3 high
    × (number_at low 0 ≤ℤ number_at high 0)
    × (number_at low 1 ≤ℤ number_at high 1)
    × (number_at low 2 ≤ℤ number_at high 2)
IsObject object_tris (Mesh first count) = first + count ≤ object_tris

-- The parts are a valid scene, of version 1 or 2. One of version 1 is narrow, and its triangles are one batch.
pub record IsScene (p : Parts) : Type 0 where
  pub version_some : 1 ≤ p.version
  pub version_known : p.version ≤ 2
  pub narrow : p.version ≡ 1 → p.grade ≡ Narrow
  pub one_batch : p.version ≡ 1 → length p.batches ≡ 1
  pub size : IsSize p.width p.height
  pub near_some : 1 ≤ p.near
  pub near_within : p.near ≤ 1024
  pub some_frames : 1 ≤ length p.cameras
  pub few_frames : length p.cameras ≤ 256
  pub few_vertices : length p.vertices ≤ 262144
  pub few_occluders : length p.occluders ≤ 65536
  pub few_batches : length p.batches ≤ 4096
  pub few_object_tris : length p.object_tris ≤ 262144
  pub few_objects : length p.objects ≤ 65536
  pub vertices : All (IsRow 3) p.vertices
  pub occluders : All (IsTri (length p.vertices)) p.occluders
  pub batches : AreBatchesOf p.batches (length p.occluders)
  pub object_tris : All (IsTri (length p.vertices)) p.object_tris
  pub objects : All (IsObject (length p.object_tris)) p.objects
  pub cameras : All (IsRow 12) p.cameras

-- numbers as bytes, the lowest byte first
abbrev pub short_bytes : ℕ → List ℕ
short_bytes n = to_le_bytes w16 n

abbrev pub word_bytes : ℕ → List ℕ
word_bytes n = to_le_bytes w32 n

abbrev pub row_bytes : List ℤ → List ℕ
row_bytes row = flat_map (λ z. word_bytes (cast_unsigned w32 z)) row

abbrev pub tri_bytes : Tri → List ℕ
tri_bytes t = flat_map word_bytes t.0

-- an object is written as its kind and six numbers
abbrev pub kind_of : Object → ℕ
kind_of (Area r w) = 0
kind_of (Block low high) = 1
kind_of (Mesh first count) = 2

abbrev pub numbers_of : Object → List ℤ
numbers_of (Area r w) = r.x0 ∷ r.y0 ∷ r.x1 ∷ r.y1 ∷ w ∷ pos 0 ∷ []
numbers_of (Block low high) =
    number_at low 0 ∷ number_at low 1 ∷ number_at low 2 ∷ number_at high 0 ∷ number_at high 1 ∷ number_at high 2 ∷ []
numbers_of (Mesh first count) = pos first ∷ pos count ∷ pos 0 ∷ pos 0 ∷ pos 0 ∷ pos 0 ∷ []

abbrev pub raw_object : Object → ℕ × List ℤ
raw_object o = (kind_of o, numbers_of o)

-- the numbers of a box, by its two corners
abbrev pub corner_bytes : List ℤ → List ℤ → List ℕ
corner_bytes low high = row_bytes (numbers_of (Block low high))

abbrev pub object_bytes : Object → List ℕ
object_bytes o = kind_of o ∷ row_bytes (numbers_of o)

abbrev pub winding_code : Winding → ℕ
winding_code Both = 0
winding_code DropClockwise = 1
winding_code DropCounter = 2

abbrev pub grade_code : Grade → ℕ
grade_code Narrow = 0
grade_code Wide = 1

-- a batch is written as its count and the code of its winding
abbrev pub raw_batch : Batch → ℕ × ℕ
raw_batch b = (b.count, winding_code b.winding)

abbrev pub batch_bytes : Batch → List ℕ
batch_bytes b = word_bytes b.count ++ winding_code b.winding ∷ []

-- what stands behind the near distance: in version 1 the winding of the one batch
abbrev pub winding_byte : ℕ → List Batch → ℕ
winding_byte version [] = 0
winding_byte version (b ∷ bs) = if version == 1 then winding_code b.winding else 0

-- the batches that a table is written of: in version 1 none, since the header says all of the one batch
abbrev pub stored_batches : ℕ → List Batch → List Batch
stored_batches version batches = if version == 1 then [] else batches

-- what stands at the header's end: in version 2 the number of batches
abbrev pub batch_count_bytes : ℕ → List Batch → List ℕ
batch_count_bytes version batches = if version == 1 then [] else word_bytes (length batches)

-- MSOC
abbrev pub magic : List ℕ
magic = 77 ∷ 83 ∷ 79 ∷ 67 ∷ []

-- 32 bytes, in version 2 36
unfoldable pub header_bytes : Parts → List ℕ
header_bytes p =
    magic ++ short_bytes p.version ++ short_bytes p.width ++ short_bytes p.height ++ short_bytes p.near
    ++ winding_byte p.version p.batches ∷ grade_code p.grade ∷ [] ++ short_bytes (length p.cameras)
    ++ word_bytes (length p.vertices) ++ word_bytes (length p.occluders)
    ++ word_bytes (length p.object_tris) ++ word_bytes (length p.objects)
    ++ batch_count_bytes p.version p.batches

-- the header and the tables, without gaps
unfoldable pub layout : Parts → List ℕ
layout p =
    header_bytes p ++ (flat_map row_bytes p.vertices ++ (flat_map tri_bytes p.occluders
    ++ (flat_map batch_bytes (stored_batches p.version p.batches)
    ++ (flat_map tri_bytes p.object_tris ++ (flat_map object_bytes p.objects ++ flat_map row_bytes p.cameras)))))

-- the same scene in version 2
abbrev pub upgraded : Parts → Parts
upgraded p = record p { version = 2 }
