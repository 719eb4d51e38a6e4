-- The first fault of bytes that aren't the layout of a scene. Each step is tested over the whole before the next step.
use Rattle.std.specs.Prelude.{ℕ, zero, suc, ℤ, pos, ◌+◌, ◌*◌, ◌%◌, ◌^◌, ◌+ℤ◌, List, [], ◌∷◌, length, take, drop, map, slice_index}
use Rattle.std.specs.Prelude.{Bool, false, not, ◌||◌, ◌&&◌, ◌==◌, nat_lt, int_lt, if◌then◌else◌, Option, Some, None, is_some, sum_by}
use Rattle.std.specs.List.{list_any, starts_with, range_with_len}
use Rattle.std.specs.Option.{option_or}
use Rattle.std.specs.Prelude.{nat_eq}
use Rattle.std.specs.Int.{w16, w32, from_le_bytes, cast_signed}
use Rattle.std.specs.Ordering.{int_eq}
use Rattle.cull_base.specs.Guard.{is_beyond}
use Rattle.cull_base.specs.declared.rect.Rect.{Rect}
use Rattle.cull_base.specs.declared.scene_types.Tri.{Tri}
use Rattle.scene_reader.specs.declared.error.SceneError.{SceneError}
use Rattle.scene_reader.specs.declared.error.SceneError.TheVariants.{Truncated, BadMagic, BadVersion, BadSize, BadNear}
use Rattle.scene_reader.specs.declared.error.SceneError.TheVariants.{BadWinding, BadReserved, BadCount, Trailing, BadVertex}
use Rattle.scene_reader.specs.declared.error.SceneError.TheVariants.{BadIndex, BadKind, BadObject, BadCamera, Read, Memory}
use Rattle.scene_reader.specs.declared.error.SceneError.TheVariants.{BadGrade, BadBatch}
use Rattle.scene_reader.specs.declared.header.Counts.{Counts}
use Rattle.scene_reader.specs.Layout.{magic, number_at}
use Rattle.scene_reader.specs.Length.{header_length, scene_length, table_start}

-- an answer that speaks of the bytes: neither of a source that failed nor of want of memory
abbrev pub IsRefusal : SceneError → Type 0
IsRefusal Read = ⊥
IsRefusal Memory = ⊥
IsRefusal _ = Unit {0}

abbrev pub fault_if : {F : Type 0} → Bool → F → Option F
fault_if test fault = if test then Some fault else None

-- the first fault of the members of a list, of which i is the first one's number
abbrev pub first_among : {X F : Type 0} → (ℕ → X → Option F) → ℕ → List X → Option F
first_among fault i [] = None
first_among fault i (x ∷ xs) = option_or (fault i x) (first_among fault (i + 1) xs)

-- ---- the header

abbrev pub short_at : ℕ → List ℕ → ℕ
short_at place bytes = from_le_bytes w16 (take 2 (drop place bytes))

abbrev pub word_at : ℕ → List ℕ → ℕ
word_at place bytes = from_le_bytes w32 (take 4 (drop place bytes))

abbrev pub version_at : List ℕ → ℕ
version_at bytes = short_at 4 bytes

-- the entries of the table of batches, which version 1 doesn't have
abbrev pub batch_count_at : List ℕ → ℕ
batch_count_at bytes = if version_at bytes == 1 then 0 else word_at 32 bytes

-- the counts of the first 32 bytes, and so many batches
abbrev pub counts_with : ℕ → List ℕ → Counts
counts_with batches bytes =
    record {
      frames = short_at 14 bytes;
      vertices = word_at 16 bytes;
      occluders = word_at 20 bytes;
      batches = batches;
      object_tris = word_at 24 bytes;
      objects = word_at 28 bytes;
    }

abbrev pub counts_at : List ℕ → Counts
counts_at bytes = counts_with (batch_count_at bytes) bytes

abbrev pub version_fault : ℕ → Option SceneError
version_fault version = fault_if (nat_lt version 1 || nat_lt 2 version) (BadVersion version)

-- up to the version, which tells how long the header is
unfoldable pub start_fault : List ℕ → Option SceneError
start_fault bytes =
    option_or (fault_if (nat_lt (length bytes) (header_length 1)) (Truncated (header_length 1) (length bytes)))
    (option_or (fault_if (not (starts_with nat_eq bytes magic)) BadMagic)
    (version_fault (version_at bytes)))

-- the input ends within the header
abbrev pub short_fault : List ℕ → Option SceneError
short_fault bytes =
    let need = header_length (version_at bytes) in
    fault_if (nat_lt (length bytes) need) (Truncated need (length bytes))

-- whole subtiles, at most 2048 pixels each way
abbrev pub is_bad_size : ℕ → ℕ → Bool
is_bad_size width height =
    not (width % 8 == 0) || nat_lt width 8 || nat_lt 2048 width
    || not (height % 4 == 0) || nat_lt height 4 || nat_lt 2048 height

unfoldable pub screen_fault : ℕ → ℕ → ℕ → Option SceneError
screen_fault width height near =
    option_or (fault_if (is_bad_size width height) (BadSize width height))
    (fault_if (nat_lt near 1 || nat_lt 1024 near) (BadNear near))

-- the two bytes behind the near distance: a winding and 0 in version 1, 0 and a grade in version 2
abbrev pub flags_fault : ℕ → ℕ → ℕ → Option SceneError
flags_fault version winding grade =
    if version == 1
    then option_or (fault_if (nat_lt 2 winding) (BadWinding winding)) (fault_if (not (grade == 0)) (BadReserved grade))
    else option_or (fault_if (not (winding == 0)) (BadWinding winding)) (fault_if (nat_lt 1 grade) (BadGrade grade))

unfoldable pub count_fault : Counts → Option SceneError
count_fault n =
    option_or (fault_if (nat_lt n.frames 1 || nat_lt 256 n.frames) (BadCount 0 n.frames))
    (option_or (fault_if (nat_lt 262144 n.vertices) (BadCount 1 n.vertices))
    (option_or (fault_if (nat_lt 65536 n.occluders) (BadCount 2 n.occluders))
    (option_or (fault_if (nat_lt 262144 n.object_tris) (BadCount 3 n.object_tris))
    (option_or (fault_if (nat_lt 65536 n.objects) (BadCount 4 n.objects))
    (fault_if (nat_lt 4096 n.batches) (BadCount 5 n.batches))))))

-- the steps behind the version, of a header that tells so many batches
unfoldable pub fields_fault : List ℕ → ℕ → Option SceneError
fields_fault bytes batches =
    option_or (screen_fault (short_at 6 bytes) (short_at 8 bytes) (short_at 10 bytes))
    (option_or (flags_fault (version_at bytes) (slice_index bytes 12) (slice_index bytes 13))
    (count_fault (counts_with batches bytes)))

unfoldable pub header_fault : List ℕ → Option SceneError
header_fault bytes =
    option_or (start_fault bytes) (option_or (short_fault bytes) (fields_fault bytes (batch_count_at bytes)))

-- how many bytes are taken of a header that is refused: up to the version the same in both versions
abbrev pub header_taken : List ℕ → ℕ
header_taken bytes = if is_some (start_fault bytes) then header_length 1 else header_length (version_at bytes)

-- ---- the length

unfoldable pub length_fault : List ℕ → Option SceneError
length_fault bytes =
    let need = scene_length (version_at bytes) (counts_at bytes) in
    option_or (fault_if (nat_lt (length bytes) need) (Truncated need (length bytes)))
    (fault_if (nat_lt need (length bytes)) Trailing)

-- ---- the tables

-- the first n entries of so many bytes each
unfoldable pub entries : ℕ → ℕ → List ℕ → List (List ℕ)
entries size zero bytes = []
entries size (suc n) bytes = take size bytes ∷ entries size n (drop size bytes)

abbrev pub signed_at : ℕ → List ℕ → ℤ
signed_at place bytes = cast_signed w32 (word_at place bytes)

-- n numbers, one behind the other
unfoldable pub words_in : ℕ → List ℕ → List ℕ
words_in n bytes = map (λ k. word_at (4 * k) bytes) (range_with_len 0 n)

unfoldable pub row_of : ℕ → List ℕ → List ℤ
row_of n bytes = map (λ k. signed_at (4 * k) bytes) (range_with_len 0 n)

abbrev pub tri_of : List ℕ → Tri
tri_of bytes = record { 0 = words_in 3 bytes }

-- an object as it stands in the bytes: its kind and its six numbers
abbrev pub raw_of : List ℕ → ℕ × List ℤ
raw_of bytes = (slice_index bytes 0, row_of 6 (drop 1 bytes))

-- a batch as it stands in the bytes: its count and the code of its winding
abbrev pub raw_batch_of : List ℕ → ℕ × ℕ
raw_batch_of bytes = (word_at 0 bytes, slice_index bytes 4)

-- the bytes from a table on, numbered from 0
abbrev pub table_in : List ℕ → ℕ → List ℕ
table_in bytes k = drop (table_start (version_at bytes) (counts_at bytes) k) bytes

abbrev pub vertices_in : List ℕ → List (List ℤ)
vertices_in bytes = map (row_of 3) (entries 12 (counts_at bytes).vertices (table_in bytes 0))

abbrev pub occluders_in : List ℕ → List Tri
occluders_in bytes = map tri_of (entries 12 (counts_at bytes).occluders (table_in bytes 1))

abbrev pub stored_batches_in : List ℕ → List (ℕ × ℕ)
stored_batches_in bytes = map raw_batch_of (entries 5 (counts_at bytes).batches (table_in bytes 2))

-- the batches of a scene: in version 1 the one that its header tells, in version 2 those of the table
abbrev pub batches_told : ℕ → ℕ → ℕ → List (ℕ × ℕ) → List (ℕ × ℕ)
batches_told version winding tris stored = if version == 1 then (tris, winding) ∷ [] else stored

abbrev pub batches_in : List ℕ → List (ℕ × ℕ)
batches_in bytes =
    batches_told (version_at bytes) (slice_index bytes 12) (counts_at bytes).occluders (stored_batches_in bytes)

abbrev pub object_tris_in : List ℕ → List Tri
object_tris_in bytes = map tri_of (entries 12 (counts_at bytes).object_tris (table_in bytes 3))

abbrev pub objects_in : List ℕ → List (ℕ × List ℤ)
objects_in bytes = map raw_of (entries 25 (counts_at bytes).objects (table_in bytes 4))

abbrev pub cameras_in : List ℕ → List (List ℤ)
cameras_in bytes = map (row_of 12) (entries 48 (counts_at bytes).frames (table_in bytes 5))

-- ---- what the tables hold

-- a number lies outside the limits
abbrev pub is_bad_row : List ℤ → Bool
is_bad_row row = list_any (is_beyond (2 ^ 24)) row

-- the number of the first row with a number outside the limits
abbrev pub first_bad_row : List (List ℤ) → Option ℕ
first_bad_row rows = first_among (λ i row. fault_if (is_bad_row row) i) 0 rows

abbrev pub vertex_fault : ℕ → List ℤ → Option SceneError
vertex_fault i row = fault_if (is_bad_row row) (BadVertex i)

abbrev pub index_fault : ℕ → ℕ → ℕ → Tri → Option SceneError
index_fault table vertices i t = fault_if (list_any (λ v. not (nat_lt v vertices)) t.0) (BadIndex table i)

-- how many triangles batches have
abbrev pub triangles_in : List (ℕ × ℕ) → ℕ
triangles_in batches = sum_by (λ b. b.0) batches

-- a batch of no winding, or with which there are more than all triangles, where so many are in the batches before it
abbrev pub is_bad_batch : ℕ → ℕ → ℕ × ℕ → Bool
is_bad_batch tris before b = nat_lt 2 b.1 || nat_lt tris (before + b.0)

-- of the batch number i of these
abbrev pub batch_fault : ℕ → List (ℕ × ℕ) → ℕ → ℕ × ℕ → Option SceneError
batch_fault tris batches i b = fault_if (is_bad_batch tris (triangles_in (take i batches)) b) (BadBatch i)

-- one batch, of all triangles
abbrev pub is_one_batch : ℕ → List (ℕ × ℕ) → Bool
is_one_batch tris [] = false
is_one_batch tris (b ∷ []) = b.0 == tris
is_one_batch tris (b ∷ c ∷ bs) = false

-- in version 1 there is one batch; its bytes can't say another
abbrev pub split_fault : ℕ → ℕ → List (ℕ × ℕ) → Option SceneError
split_fault version tris batches = fault_if (version == 1 && not (is_one_batch tris batches)) (BadBatch 0)

-- the first batch at fault, and then, by the number of batches, that some triangles are in none
unfoldable pub sum_fault : ℕ → List (ℕ × ℕ) → Option SceneError
sum_fault tris batches =
    option_or (first_among (batch_fault tris batches) 0 batches)
    (fault_if (nat_lt (triangles_in batches) tris) (BadBatch (length batches)))

unfoldable pub batches_fault : ℕ → ℕ → List (ℕ × ℕ) → Option SceneError
batches_fault version tris batches = option_or (split_fault version tris batches) (sum_fault tris batches)

abbrev pub camera_fault : ℕ → List ℤ → Option SceneError
camera_fault i row = fault_if (is_bad_row row) (BadCamera i)

abbrev pub is_not_zero : ℤ → Bool
is_not_zero z = not (int_eq z (pos 0))

abbrev pub is_bad_area : List ℤ → Bool
is_bad_area n = int_lt (number_at n 2) (number_at n 0) || int_lt (number_at n 3) (number_at n 1) || is_not_zero (number_at n 5)

-- a rectangle that runs back from its first corner to its second
abbrev pub rectangle_runs_back : Rect → Bool
rectangle_runs_back r = int_lt r.x1 r.x0 || int_lt r.y1 r.y0

-- a box that runs back from its first corner to its second
abbrev pub box_runs_back : List ℤ → List ℤ → Bool
box_runs_back low high =
    int_lt (number_at high 0) (number_at low 0)
    || int_lt (number_at high 1) (number_at low 1)
    || int_lt (number_at high 2) (number_at low 2)

abbrev pub is_bad_block : List ℤ → Bool
is_bad_block n = int_lt (number_at n 3) (number_at n 0) || int_lt (number_at n 4) (number_at n 1) || int_lt (number_at n 5) (number_at n 2)

abbrev pub is_bad_mesh : ℕ → List ℤ → Bool
is_bad_mesh object_tris n =
    int_lt (number_at n 0) (pos 0) || int_lt (number_at n 1) (pos 0)
    || int_lt (pos object_tris) (number_at n 0 +ℤ number_at n 1) || list_any is_not_zero (drop 2 n)

-- of a known kind, with numbers that are refused
unfoldable pub is_bad_object : ℕ → ℕ → List ℤ → Bool
is_bad_object object_tris kind n =
    is_bad_row n || (if kind == 0 then is_bad_area n else if kind == 1 then is_bad_block n else is_bad_mesh object_tris n)

abbrev pub object_fault : ℕ → ℕ → ℕ × List ℤ → Option SceneError
object_fault object_tris i raw =
    option_or (fault_if (nat_lt 2 raw.0) (BadKind i)) (fault_if (is_bad_object object_tris raw.0 raw.1) (BadObject i))

-- the steps after the length, of a version's tables
unfoldable pub tables_fault : ℕ → List (List ℤ) → List Tri → List (ℕ × ℕ) → List Tri → List (ℕ × List ℤ) → List (List ℤ) → Option SceneError
tables_fault version vertices occluders batches object_tris objects cameras =
    option_or (first_among vertex_fault 0 vertices)
    (option_or (first_among (index_fault 0 (length vertices)) 0 occluders)
    (option_or (batches_fault version (length occluders) batches)
    (option_or (first_among (index_fault 1 (length vertices)) 0 object_tris)
    (option_or (first_among (object_fault (length object_tris)) 0 objects)
    (first_among camera_fault 0 cameras)))))

-- ---- the whole

-- the first step that holds, in the order of the header, the length and the tables
unfoldable pub first_fault : List ℕ → Option SceneError
first_fault bytes =
    option_or (header_fault bytes)
    (option_or (length_fault bytes)
    (tables_fault (version_at bytes) (vertices_in bytes) (occluders_in bytes) (batches_in bytes) (object_tris_in bytes)
    (objects_in bytes) (cameras_in bytes)))
