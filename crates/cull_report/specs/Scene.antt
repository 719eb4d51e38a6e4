-- The report of a scene: that of one thread that merges all drawn triangles in submission order, frame by frame.
use Rattle.std.specs.Prelude.{ℕ, ℤ, ◌≡◌, List, [], ◌++◌, ◌<◌, Bool, true, false, ◌&&◌, nat_lt, length, map, take, drop, slice_index_or}
use Rattle.std.specs.List.{flat_map, range_with_len}
use Rattle.cull_base.specs.declared.clip.ClipVertex.{ClipVertex}
use Rattle.cull_base.specs.declared.place.Sub.{Sub}
use Rattle.cull_base.specs.declared.rect.Rect.{Rect}
use Rattle.cull_base.specs.declared.scene_types.Object.{Object}
use Rattle.cull_base.specs.declared.scene_types.Object.TheVariants.{Area, Block, Mesh}
use Rattle.cull_base.specs.declared.scene_types.Verdict.{Verdict}
use Rattle.cull_base.specs.declared.scene_types.Verdict.TheVariants.{Occluded}
use Rattle.cull_base.specs.Fraction.{Fraction}
use Rattle.cull_base.specs.Grade.{top_of}
use Rattle.cull_base.specs.Screen.{Dimensions}
use Rattle.cull_base.specs.Piece.{Piece}
use Rattle.cull_base.specs.State.{State}
use Rattle.cull_base.specs.Fold.{after}
use Rattle.cull_base.specs.Shape.{Shape, has_sample, near_at, area_of, verdict_of}
use Rattle.cull_base.specs.Tiles.{PieceList}
use Rattle.scene_reader.specs.Layout.{Parts}
use Rattle.camera_path.specs.Clip.{clip_of, corners_of}
use Rattle.snap_setup.specs.Batches.{list_of_batches}
use Rattle.masked_update.specs.TileOf.{TileOf}
use Rattle.masked_update.specs.Views.{state_in}
use Rattle.rect_query.specs.Rectangles.{rectangle_shape}
use Rattle.rect_query.specs.Boxes.{box_shape}
use Rattle.mesh_query.specs.Meshes.{mesh_shape}
use Rattle.cull_report.specs.Text.{header_text, frame_text}

abbrev pub size_of : Parts → Dimensions
size_of s = record { width = s.width; height = s.height }

abbrev pub camera_at : Parts → ℕ → List ℤ
camera_at s frame = slice_index_or s.cameras frame []

-- the scene's vertices through the frame's camera
unfoldable pub frame_clips : Parts → ℕ → List ClipVertex
frame_clips s frame = map (clip_of (camera_at s frame)) s.vertices

-- the pieces of a frame: those of the occluder triangles in submission order, each with the winding of its batch
unfoldable pub frame_list : Parts → ℕ → PieceList
frame_list s frame = record { size = size_of s; members = list_of_batches (frame_clips s frame) s.occluders (top_of s.grade) s.near (size_of s) s.batches }

abbrev pub frame_pieces : Parts → ℕ → List Piece
frame_pieces s frame = (frame_list s frame).members

-- the shape of an object in a frame: a rectangle doesn't move with the camera
unfoldable pub object_shape : Parts → ℕ → Object → Shape
object_shape s frame (Area rect w) = rectangle_shape (top_of s.grade) s.near (size_of s) rect w
object_shape s frame (Block low high) = box_shape (top_of s.grade) s.near (size_of s) (map (clip_of (camera_at s frame)) (corners_of low high))
object_shape s frame (Mesh first count) = mesh_shape (top_of s.grade) s.near (size_of s) (frame_clips s frame) (take count (drop first s.object_tris))

-- whether the sample of a pixel of the screen belongs to an object in a frame, the object's nearness there, and its area
abbrev pub object_samples : Parts → ℕ → Object → ℕ → ℕ → Bool
object_samples s frame object px py = (nat_lt px s.width && nat_lt py s.height) && has_sample (object_shape s frame object) px py

abbrev pub object_near : Parts → ℕ → Object → ℕ → ℕ → Fraction
object_near s frame object px py = near_at (object_shape s frame object) px py

abbrev pub object_area : Parts → ℕ → Object → Rect
object_area s frame object = area_of (size_of s) (object_shape s frame object)

-- the verdict of an object in a frame over the states of subtiles
abbrev pub object_verdict : Parts → ℕ → (Sub → State) → Object → Verdict
object_verdict s frame state_of object = verdict_of (size_of s) state_of (object_shape s frame object)

-- the same over what tiles hold
abbrev pub verdict_in : Parts → ℕ → (ℕ → TileOf) → Object → Verdict
verdict_in s frame tile_of object = object_verdict s frame (state_in (size_of s) tile_of) object

-- each object's verdict over what tiles hold
abbrev pub verdicts_in : Parts → ℕ → (ℕ → TileOf) → List Verdict
verdicts_in s frame tile_of = map (verdict_in s frame tile_of) s.objects

-- each object's verdict over the states after the frame's whole list
unfoldable pub frame_verdicts : Parts → ℕ → List Verdict
frame_verdicts s frame = map (object_verdict s frame (λ u. after u (frame_pieces s frame))) s.objects

-- the report's first line
abbrev pub scene_header : Parts → List ℕ
scene_header s = header_text s.width s.height (length s.cameras) (length s.objects)

-- the lines of one frame
abbrev pub frame_report : Parts → ℕ → List ℕ
frame_report s frame = frame_text frame (length (frame_pieces s frame)) (frame_verdicts s frame)

-- the lines of the first so many frames
unfoldable pub frames_text : Parts → ℕ → List ℕ
frames_text s count = flat_map (frame_report s) (range_with_len 0 count)

-- the header, and then the frames' lines
unfoldable pub report_text : Parts → List ℕ
report_text s = scene_header s ++ frames_text s (length s.cameras)

-- the objects that are marked have the verdict occluded
abbrev pub IsMarkedRight : (Object → Verdict) → List Object → List Bool → Type 0
IsMarkedRight verdict objects marks = (o : ℕ) (other : Object) → o < length objects → slice_index_or marks o false ≡ true → verdict (slice_index_or objects o other) ≡ Occluded
