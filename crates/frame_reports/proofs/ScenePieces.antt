-- The members of a scene's frame lists are pieces, and so whatever lines call occluded is hidden by the members that they state.
use Rattle.std.proofs.Common.{ℕ, ◌≤◌, List, [], ◌∷◌, take, drop}
use Rattle.std.specs.List.{All, flat_map}
use Rattle.std.proofs.lemmas.List.Elements.{All-append, All-contains, All-nil}
use Rattle.cull_base.specs.declared.clip.ClipVertex.{ClipVertex}
use Rattle.cull_base.specs.declared.nearness.Grade.{Grade}
use Rattle.cull_base.specs.declared.scene_types.Batch.{Batch}
use Rattle.cull_base.specs.declared.scene_types.Tri.{Tri}
use Rattle.cull_base.specs.declared.triangle.Side.TheVariants.{Occluder}
use Rattle.cull_base.specs.declared.triangle.Winding.{Winding}
use Rattle.cull_base.specs.Grade.{top_of}
use Rattle.cull_base.specs.Piece.{IsPiece}
use Rattle.cull_base.specs.Screen.{Dimensions, IsSize}
use Rattle.cull_base.specs.Tiles.{ArePieces}
use Rattle.scene_reader.specs.Layout.{Parts, IsScene}
use Rattle.snap_setup.specs.Batches.{list_of_batches}
use Rattle.snap_setup.specs.Pieces.{clip_at, list_of_clips, pieces_at}
use Rattle.snap_setup.proofs.ValidPieces.{pieces_are}
use Rattle.cull_report.specs.Live.{Counts, HidesLive}
use Rattle.cull_report.specs.Scene.{frame_clips, frame_list, frame_pieces, size_of}
use Rattle.cull_report.proofs.LiveHiding.{hides_live}
use Rattle.frame_reports.specs.DrawnFrames.{AllArePieces}

members_are : (clips : List ClipVertex) (tris : List Tri) (grade : Grade) (near : ℕ) (size : Dimensions) (winding : Winding) → IsSize size.width size.height → 1 ≤ near → near ≤ 1024
    → All IsPiece (list_of_clips clips tris (top_of grade) near size winding)
unfolding list_of_clips
members_are clips tris grade near size winding sized some within = go tris
  where
    go : (ts : List Tri) → All IsPiece (flat_map (pieces_at clips (top_of grade) near size winding) ts)
    go [] = All-nil IsPiece
    go (t ∷ ts) =
        All-append IsPiece (pieces_at clips (top_of grade) near size winding t) (flat_map (pieces_at clips (top_of grade) near size winding) ts)
        (pieces_are (clip_at clips t 0) (clip_at clips t 1) (clip_at clips t 2) grade near size winding Occluder sized some within) (go ts)

-- batch by batch
batches_are : (clips : List ClipVertex) (tris : List Tri) (grade : Grade) (near : ℕ) (size : Dimensions) (batches : List Batch) → IsSize size.width size.height → 1 ≤ near → near ≤ 1024
    → All IsPiece (list_of_batches clips tris (top_of grade) near size batches)
unfolding list_of_batches
batches_are clips tris grade near size [] sized some within = All-nil IsPiece
batches_are clips tris grade near size (b ∷ batches) sized some within =
    All-append IsPiece (list_of_clips clips (take b.count tris) (top_of grade) near size b.winding) (list_of_batches clips (drop b.count tris) (top_of grade) near size batches)
    (members_are clips (take b.count tris) grade near size b.winding sized some within) (batches_are clips (drop b.count tris) grade near size batches sized some within)

-- each member of a frame's list is a piece
pub frame_pieces_are : (s : Parts) (frame : ℕ) → IsScene s → ArePieces (frame_pieces s frame)
unfolding frame_list
frame_pieces_are s frame scene t has =
    All-contains IsPiece (frame_pieces s frame) t (batches_are (frame_clips s frame) s.occluders s.grade s.near (size_of s) s.batches scene.size scene.near_some scene.near_within) has

pub all_are_pieces : (s : Parts) → IsScene s → AllArePieces s
all_are_pieces s scene frame lt = frame_pieces_are s frame scene

-- the lines of any counts
pub lines_hide : (s : Parts) (rounds watch : ℕ) (counts : Counts) → IsScene s → HidesLive s rounds watch counts
lines_hide s rounds watch counts scene = hides_live s rounds watch counts scene (all_are_pieces s scene)
