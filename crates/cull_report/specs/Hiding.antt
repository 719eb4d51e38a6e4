-- Why hidden is never a hole.
use Rattle.std.specs.Prelude.{ℕ, ◌≡◌, ◌<◌, true, List, length, slice_get, Some}
use Rattle.cull_base.specs.declared.scene_types.Object.{Object}
use Rattle.cull_base.specs.declared.rect.Rect.{Rect}
use Rattle.cull_base.specs.declared.scene_types.Verdict.{Verdict}
use Rattle.cull_base.specs.declared.scene_types.Verdict.TheVariants.{Occluded}
use Rattle.cull_base.specs.Screen.{Dimensions, tile_count_of, tile_rect_of}
use Rattle.cull_base.specs.Rectangle.{meets}
use Rattle.cull_base.specs.Piece.{Piece, middle}
use Rattle.cull_base.specs.Tiles.{ArePieces, tile_after}
use Rattle.cull_base.specs.Pixels.{tile_of_pixel}
use Rattle.masked_update.specs.TileOf.{TileOf}
use Rattle.cull_base.specs.Nearer.{HasNearerPiece}
use Rattle.scene_reader.specs.Layout.{Parts}
use Rattle.cull_report.specs.Scene.{size_of, frame_pieces, frame_verdicts, object_samples, object_near, object_area}

-- each tile that a rectangle meets has the states after a list of pieces of its own
abbrev pub AreAfter : (ℕ → TileOf) → Dimensions → Rect → (ℕ → List Piece) → Type 0
AreAfter tile_of size r lists = (t : ℕ) → t < tile_count_of size → meets r (tile_rect_of size t) ≡ true → ArePieces (lists t) × ((tile_of t).subs ≡ tile_after size t (lists t))

-- Where the tiles of an object's area have the states after such lists, an object that is called occluded has at each of its samples in the
-- screen a piece of the list of the sample's tile strictly nearer than it is there.
abbrev pub HidesObject : Parts → ℕ → (ℕ → TileOf) → Object → Verdict → Type 0
HidesObject s frame tile_of object verdict =
    (lists : ℕ → List Piece) → AreAfter tile_of (size_of s) (object_area s frame object) lists → verdict ≡ Occluded → (px py : ℕ) → object_samples s frame object px py ≡ true
    → HasNearerPiece (lists (tile_of_pixel (size_of s) px py)) (middle px py) (object_near s frame object px py)

-- In each frame, an object that is called occluded has at each of its samples in the screen a piece of the frame strictly nearer than it is there.
pub record HidesTruly (s : Parts) : Type 0 where
  pub at_each_sample : (frame o : ℕ) (object : Object) (px py : ℕ) → frame < length s.cameras
      → slice_get s.objects o ≡ Some object → slice_get (frame_verdicts s frame) o ≡ Some Occluded
      → object_samples s frame object px py ≡ true
      → HasNearerPiece (frame_pieces s frame) (middle px py) (object_near s frame object px py)
