-- What is drawn of a frame.
use Rattle.std.specs.Prelude.{ℕ, Bool, ◌≡◌, ◌<◌, List, length}
use Rattle.scene_reader.specs.Layout.{Parts}
use Rattle.cull_base.specs.Screen.{tile_count_of}
use Rattle.cull_base.specs.Tiles.{ArePieces, tile_after}
use Rattle.masked_update.specs.TileOf.{TileOf}
use Rattle.cull_base.specs.Fold.{after}
use Rattle.cull_report.specs.Scene.{IsMarkedRight, size_of, frame_pieces, object_verdict}

-- the tiles took the whole list of a frame
abbrev pub TookFrame : Parts → ℕ → (ℕ → TileOf) → Type 0
TookFrame s frame tile_of = (t : ℕ) → t < tile_count_of (size_of s) → (tile_of t).subs ≡ tile_after (size_of s) t (frame_pieces s frame)

-- the objects of a frame that are marked are occluded after its whole list
abbrev pub AreSettled : Parts → ℕ → List Bool → Type 0
AreSettled s frame marks = IsMarkedRight (object_verdict s frame (λ u. after u (frame_pieces s frame))) s.objects marks

-- each member of each frame's list is a piece
abbrev pub AllArePieces : Parts → Type 0
AllArePieces s = (frame : ℕ) → frame < length s.cameras → ArePieces (frame_pieces s frame)
