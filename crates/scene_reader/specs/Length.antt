-- How long a scene is, by its version and by how many entries each table has.
use Rattle.std.specs.Prelude.{ℕ, ◌+◌, ◌*◌, ◌==◌, if◌then◌else◌, List, [], ◌∷◌, take}
use Rattle.scene_reader.specs.declared.header.Counts.{Counts}

-- the header of version 2 has four bytes more, with the number of batches
abbrev pub header_length : ℕ → ℕ
header_length version = if version == 1 then 32 else 36

-- the tables in their order, each as the bytes of an entry and the number of entries
abbrev pub tables : Counts → List (ℕ × ℕ)
tables n =
    (12, n.vertices) ∷ (12, n.occluders) ∷ (5, n.batches) ∷ (12, n.object_tris) ∷ (25, n.objects) ∷ (48, n.frames) ∷ []

-- where tables end of which the first begins there
abbrev pub end_of : ℕ → List (ℕ × ℕ) → ℕ
end_of start [] = start
end_of start (t ∷ ts) = end_of (start + t.0 * t.1) ts

-- where table k begins, numbered from 0
abbrev pub table_start : ℕ → Counts → ℕ → ℕ
table_start version n k = end_of (header_length version) (take k (tables n))

abbrev pub scene_length : ℕ → Counts → ℕ
scene_length version n = end_of (header_length version) (tables n)

-- as many entries as the format allows
abbrev pub most_entries : Counts
most_entries =
    record { frames = 256; vertices = 262144; occluders = 65536; batches = 4096; object_tris = 262144; objects = 65536 }

-- of the longest scene, of version 2
abbrev pub greatest_length : ℕ
greatest_length = scene_length 2 most_entries
