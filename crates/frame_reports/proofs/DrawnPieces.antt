-- The pieces that are drawn for a frame.
use Rattle.std.proofs.Common.{◌≡◌, ℕ, ◌<◌, ◌∙◌, sym, subst}
use Rattle.cull_base.specs.Screen.{Dimensions, tile_count_of}
use Rattle.cull_base.specs.Tiles.{PieceList, tile_after}
use Rattle.masked_update.specs.TileOf.{TileOf}
use Rattle.scene_reader.specs.Layout.{Parts}
use Rattle.cull_report.specs.Scene.{frame_list, frame_pieces, size_of}
use Rattle.frame_reports.specs.DrawnPieces.{DrawsAs}

-- tiles that took the pieces that are drawn took the frame's
pub took_drawn : (s : Parts) (frame : ℕ) (list : PieceList) (tile_of : ℕ → TileOf) → DrawsAs list (frame_list s frame) → ((t : ℕ) → t < tile_count_of list.size → (tile_of t).subs ≡ tile_after list.size t list.members)
    → (t : ℕ) → t < tile_count_of (size_of s) → (tile_of t).subs ≡ tile_after (size_of s) t (frame_pieces s frame)
unfolding frame_list
took_drawn s frame list tile_of draws states t lt = states t (subst (λ (n : Dimensions). t < tile_count_of n) (sym draws.size) lt) ∙ draws.tiles t lt
