-- The first fault of parts that aren't a scene: the steps of `first_fault` that speak of parts, and those of version 1.
use Rattle.std.specs.Prelude.{ℕ, ℤ, ◌≡◌, ◌-◌, ◌^◌, min, ◌==◌, ◌&&◌, List, length, map, Option, None, Some}
use Rattle.std.specs.Option.{option_or}
use Rattle.std.specs.List.{All}
use Rattle.scene_reader.specs.declared.error.SceneError.{SceneError}
use Rattle.scene_reader.specs.declared.error.SceneError.TheVariants.{BadGrade}
use Rattle.scene_reader.specs.Layout.{Parts, IsRow, IsTri, raw_object, raw_batch, grade_code}
use Rattle.scene_reader.specs.declared.header.Counts.{Counts}
use Rattle.scene_reader.specs.Fault.{fault_if, version_fault, screen_fault, count_fault, first_among, batches_fault, object_fault, tables_fault}

-- a count, or the greatest number of 32 bits where it is too large for 32 bits
abbrev pub count_in_32_bits : ℕ → ℕ
count_in_32_bits n = min n (2 ^ 32 - 1)

abbrev pub counts_of_parts : Parts → Counts
counts_of_parts p =
    record {
      frames = count_in_32_bits (length p.cameras);
      vertices = count_in_32_bits (length p.vertices);
      occluders = count_in_32_bits (length p.occluders);
      batches = count_in_32_bits (length p.batches);
      object_tris = count_in_32_bits (length p.object_tris);
      objects = count_in_32_bits (length p.objects);
    }

-- version 1 is narrow
abbrev pub grade_fault : Parts → Option SceneError
grade_fault p = fault_if (p.version == 1 && grade_code p.grade == 1) (BadGrade 1)

unfoldable pub first_fault_of_parts : Parts → Option SceneError
first_fault_of_parts p =
    option_or (version_fault p.version)
    (option_or (screen_fault p.width p.height p.near)
    (option_or (grade_fault p)
    (option_or (count_fault (counts_of_parts p))
    (tables_fault p.version p.vertices p.occluders (map raw_batch p.batches) p.object_tris (map raw_object p.objects)
    p.cameras))))

-- parts without a fault, and parts with this first fault
abbrev pub IsFaultless : Parts → Type 0
IsFaultless p = first_fault_of_parts p ≡ None

abbrev pub IsFaulty : Parts → SceneError → Type 0
IsFaulty p e = first_fault_of_parts p ≡ Some e

-- the first fault of the tables, where those of the batches and of the objects as they stand in the bytes are given
abbrev pub IsTablesFault : Parts → Option SceneError → Option SceneError → Option SceneError → Type 0
IsTablesFault p batches objects fault =
    (told : List (ℕ × ℕ)) (raws : List (ℕ × List ℤ)) → batches ≡ batches_fault p.version (length p.occluders) told
    → objects ≡ first_among (object_fault (length p.object_tris)) 0 raws
    → fault ≡ tables_fault p.version p.vertices p.occluders told p.object_tris raws p.cameras

-- what is within the limits and refers to what is there, the batches and the objects left out
pub record AreTables (p : Parts) : Type 0 where
  pub vertices : All (IsRow 3) p.vertices
  pub occluders : All (IsTri (length p.vertices)) p.occluders
  pub object_tris : All (IsTri (length p.vertices)) p.object_tris
  pub cameras : All (IsRow 12) p.cameras
