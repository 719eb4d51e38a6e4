-- The live lines of a frame, as looks at its tiles make them.
use Rattle.std.specs.Prelude.{ℕ, ◌≡◌, ◌<◌, ◌≤◌, ◌/◌, ◌%◌, Bool, true, false, List, length, replicate, slice_index, slice_index_or}
use Rattle.std.specs.List.{flat_map}
use Rattle.cull_base.specs.declared.clip.ClipVertex.{ClipVertex}
use Rattle.cull_base.specs.declared.scene_types.Object.{Object}
use Rattle.cull_base.specs.declared.scene_types.Verdict.TheVariants.{Occluded}
use Rattle.cull_base.specs.Fold.{after}
use Rattle.cull_base.specs.Screen.{Dimensions, tile_count_of}
use Rattle.cull_base.specs.Tiles.{ArePieces, PieceList, tile_list}
use Rattle.scene_reader.specs.Layout.{Parts, IsScene}
use Rattle.tile_cells.specs.Cells.{Reading}
use Rattle.tile_cells.specs.Snapshots.{HoldsExactly, SnapshotOf}
use Rattle.cull_report.specs.Live.{IsRisingIn, IsStated, LiveLineOf, counts_held, frame_live, object_at, object_line, prefixed_tiles, text_of_line}
use Rattle.cull_report.specs.Settled.{settled_in}
use Rattle.cull_report.specs.Scene.{frame_clips, frame_list, frame_pieces, object_area, object_verdict, size_of}
use Rattle.frame_reports.specs.DrawnFrames.{AreSettled}

-- the parts are a scene's, which has this frame, whose clip vertices these are, and so many objects
pub record IsWatching (s : Parts) (frame objects : ℕ) (clips : List ClipVertex) : Type 0 where
  pub scene : IsScene s
  pub is_frame : frame < length s.cameras
  pub clips_are : clips ≡ frame_clips s frame
  pub within : objects ≤ length s.objects

-- room for the tiles that any snapshot of an object's area holds
abbrev pub RoomFor : Parts → ℕ → ℕ → ℕ → Type 0
RoomFor s frame o room =
    (view : SnapshotOf) → view.size ≡ size_of s → HoldsExactly view (object_area s frame (object_at s o)) → length (counts_held view) ≤ room

-- line i of a frame is of object i modulo the number of objects
abbrev pub HaveRoom : Parts → ℕ → ℕ → List LiveLineOf → Type 0
HaveRoom s frame objects lines =
    (i : ℕ) (d : LiveLineOf) → i < length lines → RoomFor s frame (i % objects) (slice_index_or lines i d).room

-- before a frame of this list is drawn: lines with room, a snapshot of the scene's screen, and a mark for each object,
-- of which none is set
pub record IsReady (s : Parts) (frame objects : ℕ) (clips : List ClipVertex) (size : Dimensions) (lines : List LiveLineOf) (marks : List Bool) (list : PieceList) : Type 0 where
  pub watching : IsWatching s frame objects clips
  pub list_is : list ≡ frame_list s frame
  pub size_is : size ≡ size_of s
  pub some : 0 < length lines → 0 < objects
  pub few : length lines ≤ 64
  pub room : HaveRoom s frame objects lines
  pub unset : marks ≡ replicate (length s.objects) false

-- a line tells of an object in a round what was seen then: so many members of each tile's list
pub record Tells (s : Parts) (frame round o : ℕ) (seen : ℕ → ℕ) (l : LiveLineOf) : Type 0 where
  pub text : text_of_line l ≡ object_line s frame round o seen
  pub within : (t : ℕ) → IsStated s frame o t → seen t ≤ length (tile_list t (frame_list s frame))

-- The first k lines of a frame tell of so many objects, round after round. What is seen of a tile never falls from line to line.
pub record AreLooks (s : Parts) (frame objects : ℕ) (seen : ℕ → ℕ → ℕ) (k : ℕ) (lines : List LiveLineOf) : Type 0 where
  pub tell : (i : ℕ) (d : LiveLineOf) → i < k → Tells s frame (i / objects) (i % objects) (seen i) (slice_index_or lines i d)
  pub rises : (i j t : ℕ) → i < j → j < k → t < tile_count_of (size_of s) → seen i t ≤ seen j t

abbrev pub HaveLooked : Parts → ℕ → ℕ → List LiveLineOf → Type 0
HaveLooked s frame objects lines = (seen : ℕ → ℕ → ℕ) × AreLooks s frame objects seen (length lines) lines

-- an object that is called settled is occluded after the frame's whole list of pieces
abbrev pub IsSettledWhere : Parts → ℕ → ℕ → Bool → Type 0
IsSettledWhere s frame o settled =
    (d : Object) → ArePieces (frame_pieces s frame) → settled ≡ true
    → object_verdict s frame (λ u. after u (frame_pieces s frame)) (slice_index_or s.objects o d) ≡ Occluded

-- whether an object is settled where each tile stands after so many members of its list
abbrev pub prefixed_settled : Parts → ℕ → (ℕ → ℕ) → ℕ → Bool
prefixed_settled s frame count o = settled_in s frame (prefixed_tiles s frame count) (object_at s o)

-- The first k marks tell of each object whether it is settled where each tile stands after the members that were seen of it at the object's turn. What is
-- seen of a tile never falls from object to object, from what the reader had seen before the first to what it has seen since.
pub record AreMarks (s : Parts) (frame : ℕ) (seen : ℕ → ℕ → ℕ) (old new : Reading) (k : ℕ) (marks : List Bool) : Type 0 where
  pub tell : (o : ℕ) → o < k → slice_index_or marks o false ≡ prefixed_settled s frame (seen o) o
  pub rises : (i j t : ℕ) → i < j → j < k → t < tile_count_of (size_of s) → seen i t ≤ seen j t
  pub from : (o t : ℕ) → o < k → t < tile_count_of (size_of s) → slice_index old.seen t ≤ seen o t
  pub to : (o t : ℕ) → o < k → t < tile_count_of (size_of s) → seen o t ≤ slice_index new.seen t

-- and so the marks of all objects
abbrev pub HaveMarks : Parts → ℕ → Reading → Reading → List Bool → Type 0
HaveMarks s frame old new marks = (seen : ℕ → ℕ → ℕ) × AreMarks s frame seen old new (length s.objects) marks

-- marks for a frame's list of pieces
abbrev pub HaveSettled : Parts → ℕ → List Bool → Type 0
HaveSettled s frame marks = ArePieces (frame_pieces s frame) → AreSettled s frame marks

-- the lines are a frame's live text, of counts that rise
pub record AreLive (s : Parts) (rounds watch frame : ℕ) (lines : List LiveLineOf) : Type 0 where
  pub counts : ℕ → ℕ → ℕ → ℕ
  pub rising : IsRisingIn s rounds watch frame counts
  pub spelled : flat_map text_of_line lines ≡ frame_live s rounds watch counts frame
