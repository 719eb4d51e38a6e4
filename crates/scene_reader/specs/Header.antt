-- What an accepted header says.
use Rattle.std.specs.Prelude.{ℕ, ◌≡◌, ◌≤◌, List, None, slice_index}
use Rattle.scene_reader.specs.declared.header.Flags.{Flags}
use Rattle.scene_reader.specs.declared.header.Header.{Header}
use Rattle.scene_reader.specs.declared.header.Counts.{Counts}
use Rattle.scene_reader.specs.Layout.{winding_code, grade_code}
use Rattle.scene_reader.specs.Fault.{header_fault, fields_fault, version_at, short_at, counts_with, counts_at}

-- what two bytes say that are a winding in version 1, and a grade in version 2
pub record AreFlagsOf (first second : ℕ) (flags : Flags) : Type 0 where
  pub winding : winding_code flags.winding ≡ first
  pub grade : grade_code flags.grade ≡ second

-- what the first 32 bytes say of a header that tells so many batches
pub record AreFieldsOf (bytes : List ℕ) (batches : ℕ) (h : Header) : Type 0 where
  pub accepted : fields_fault bytes batches ≡ None
  pub version : h.version ≡ version_at bytes
  pub width : h.width ≡ short_at 6 bytes
  pub height : h.height ≡ short_at 8 bytes
  pub near : h.near ≡ short_at 10 bytes
  pub flags : AreFlagsOf (slice_index bytes 12) (slice_index bytes 13) h.flags
  pub counts : h.counts ≡ counts_with batches bytes

-- what the bytes of a whole header say
pub record IsHeaderOf (bytes : List ℕ) (h : Header) : Type 0 where
  pub accepted : header_fault bytes ≡ None
  pub version : h.version ≡ version_at bytes
  pub width : h.width ≡ short_at 6 bytes
  pub height : h.height ≡ short_at 8 bytes
  pub near : h.near ≡ short_at 10 bytes
  pub flags : AreFlagsOf (slice_index bytes 12) (slice_index bytes 13) h.flags
  pub counts : h.counts ≡ counts_at bytes

-- within the limits of the format
pub record AreCounts (n : Counts) : Type 0 where
  pub some_frames : 1 ≤ n.frames
  pub few_frames : n.frames ≤ 256
  pub few_vertices : n.vertices ≤ 262144
  pub few_occluders : n.occluders ≤ 65536
  pub few_batches : n.batches ≤ 4096
  pub few_object_tris : n.object_tris ≤ 262144
  pub few_objects : n.objects ≤ 65536
