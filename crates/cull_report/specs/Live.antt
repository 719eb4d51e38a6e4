-- The live text: what the verdicts of objects were while a frame was drawn. Each line states how many members of each tile's list it was answered from.
use Rattle.std.specs.Prelude.{◌≡◌, ℕ, ◌<◌, ◌≤◌, ◌⊎◌, min, true, List, ◌∷◌, ◌++◌, length, map, filter, take, codes, slice_index_or}
use Rattle.std.specs.Fmt.{decimal}
use Rattle.std.specs.List.{flat_map, range_with_len}
use Rattle.cull_base.specs.declared.rect.Rect.{Rect}
use Rattle.cull_base.specs.declared.scene_types.Object.{Object}
use Rattle.cull_base.specs.declared.scene_types.Object.TheVariants.{Mesh}
use Rattle.cull_base.specs.declared.scene_types.Verdict.{Verdict}
use Rattle.cull_base.specs.declared.scene_types.Verdict.TheVariants.{Occluded}
use Rattle.cull_base.specs.Nearer.{HasNearerPiece}
use Rattle.cull_base.specs.Piece.{Piece, middle}
use Rattle.cull_base.specs.Pixels.{tile_of_pixel}
use Rattle.cull_base.specs.Rectangle.{meets}
use Rattle.cull_base.specs.Screen.{Dimensions, tile_count_of, tile_rect_of}
use Rattle.cull_base.specs.Tiles.{tile_list}
use Rattle.scene_reader.specs.Layout.{Parts}
use Rattle.masked_update.specs.Taken.{standing_at}
use Rattle.masked_update.specs.TileOf.{TileOf, tile_at}
use Rattle.tile_cells.specs.Snapshots.{SnapshotOf, is_held}
use Rattle.text_lines.specs.Lines.{line}
use Rattle.cull_report.specs.Scene.{size_of, frame_list, object_area, object_near, object_samples, verdict_in}
use Rattle.cull_report.specs.Text.{verdict_word}
use Rattle.cull_report.specs.declared.live_line.TileCount.{TileCount}

-- ---- a line

-- what a line tells, and for how many tiles it has room
pub record LiveLineOf : Type 0 where
  pub frame : ℕ
  pub round : ℕ
  pub object : ℕ
  pub verdict : Verdict
  pub counts : List TileCount
  pub room : ℕ

abbrev pub tile_count : ℕ → ℕ → TileCount
tile_count t k = record { tile = t; count = k }

-- the tiles that a snapshot holds, rising, each with its count
abbrev pub counts_held : SnapshotOf → List TileCount
counts_held s = map (λ t. tile_count t (tile_at s.tiles t).count) (filter (λ t. is_held s t) (range_with_len 0 (tile_count_of s.size)))

abbrev pub count_text : TileCount → List ℕ
count_text c = decimal c.tile ++ (codes ":" ++ decimal c.count)

unfoldable pub live_line : ℕ → ℕ → ℕ → Verdict → List TileCount → List ℕ
live_line frame round object verdict counts =
    line (codes "live" ∷ decimal frame ∷ decimal round ∷ decimal object ∷ verdict_word verdict ∷ map count_text counts)

abbrev pub text_of_line : LiveLineOf → List ℕ
text_of_line l = live_line l.frame l.round l.object l.verdict l.counts

-- ---- the text of a scene

-- how many members of a tile's list a line was answered from, by its frame, its round, its object and the tile
abbrev pub Counts : Type 0
Counts = ℕ → ℕ → ℕ → ℕ → ℕ

-- object o of a scene, where it has so many
abbrev pub object_at : Parts → ℕ → Object
object_at s o = slice_index_or s.objects o (Mesh 0 0)

-- the tiles of a screen whose rectangle meets an area, rising
abbrev pub tiles_met : Dimensions → Rect → List ℕ
tiles_met size area = filter (λ t. meets area (tile_rect_of size t)) (range_with_len 0 (tile_count_of size))

-- each tile of a frame after so many members of its list
abbrev pub prefixed_tiles : Parts → ℕ → (ℕ → ℕ) → ℕ → TileOf
prefixed_tiles s frame count t = standing_at t (count t) (frame_list s frame)

-- the verdict of an object over these
abbrev pub prefixed_verdict : Parts → ℕ → (ℕ → ℕ) → ℕ → Verdict
prefixed_verdict s frame count o = verdict_in s frame (prefixed_tiles s frame count) (object_at s o)

-- an object's line: that verdict, and for each tile that its area meets so many members
unfoldable pub object_line : Parts → ℕ → ℕ → ℕ → (ℕ → ℕ) → List ℕ
object_line s frame round o count = live_line frame round o (prefixed_verdict s frame count o)
    (map (λ t. tile_count t (count t)) (tiles_met (size_of s) (object_area s frame (object_at s o))))

-- the first objects are watched, or all where there are fewer
abbrev pub watched : Parts → ℕ → ℕ
watched s watch = min watch (length s.objects)

-- a line for each watched object
abbrev pub round_lines : Parts → ℕ → ℕ → (ℕ → ℕ → ℕ) → ℕ → List ℕ
round_lines s frame watch counts round = flat_map (λ o. object_line s frame round o (counts o)) (range_with_len 0 (watched s watch))

-- the lines of a frame: round after round
unfoldable pub frame_live : Parts → ℕ → ℕ → (ℕ → ℕ → ℕ → ℕ) → ℕ → List ℕ
frame_live s rounds watch counts frame = flat_map (λ round. round_lines s frame watch (counts round) round) (range_with_len 0 rounds)

-- the lines of the first so many frames
unfoldable pub frames_live : Parts → ℕ → ℕ → Counts → ℕ → List ℕ
frames_live s rounds watch counts n = flat_map (λ frame. frame_live s rounds watch (counts frame) frame) (range_with_len 0 n)

abbrev pub live_text : Parts → ℕ → ℕ → Counts → List ℕ
live_text s rounds watch counts = frames_live s rounds watch counts (length s.cameras)

-- ---- what is said of the counts

-- an object's area meets a tile, so that its lines have a count of the tile
pub record IsStated (s : Parts) (frame o t : ℕ) : Type 0 where
  pub on_screen : t < tile_count_of (size_of s)
  pub met : meets (object_area s frame (object_at s o)) (tile_rect_of (size_of s) t) ≡ true

-- there is such a line in a frame
abbrev pub IsLine : Parts → ℕ → ℕ → ℕ → ℕ → Type 0
IsLine s rounds watch round o = (round < rounds) × (o < watched s watch)

-- line (r, o) of a frame stands before line (p, q)
abbrev pub IsBefore : ℕ → ℕ → ℕ → ℕ → Type 0
IsBefore r o p q = (r < p) ⊎ ((r ≡ p) × (o < q))

-- In a frame each count is at most the length of its tile's list, and from each line to each later one no tile's count falls.
pub record IsRisingIn (s : Parts) (rounds watch frame : ℕ) (counts : ℕ → ℕ → ℕ → ℕ) : Type 0 where
  pub within : (r o t : ℕ) → IsLine s rounds watch r o → IsStated s frame o t
      → counts r o t ≤ length (tile_list t (frame_list s frame))
  pub rises : (r o p q t : ℕ) → IsLine s rounds watch r o → IsLine s rounds watch p q → IsBefore r o p q
      → IsStated s frame o t → IsStated s frame q t → counts r o t ≤ counts p q t

-- and so it is in each frame
abbrev pub IsRising : Parts → ℕ → ℕ → Counts → Type 0
IsRising s rounds watch counts = (frame : ℕ) → frame < length s.cameras → IsRisingIn s rounds watch frame (counts frame)

-- the members that a line states of the list of a pixel's tile
abbrev pub stated_at : Parts → ℕ → (ℕ → ℕ) → ℕ → ℕ → List Piece
stated_at s frame count px py =
    let t = tile_of_pixel (size_of s) px py in take (count t) (tile_list t (frame_list s frame))

-- An object that a line calls occluded has, at each of its samples in the screen, one of the stated members strictly nearer than it is there.
pub record HidesLive (s : Parts) (rounds watch : ℕ) (counts : Counts) : Type 0 where
  pub at_each_sample : (frame r o px py : ℕ) → frame < length s.cameras → IsLine s rounds watch r o
      → prefixed_verdict s frame (counts frame r o) o ≡ Occluded
      → object_samples s frame (object_at s o) px py ≡ true
      → HasNearerPiece (stated_at s frame (counts frame r o) px py) (middle px py) (object_near s frame (object_at s o) px py)
