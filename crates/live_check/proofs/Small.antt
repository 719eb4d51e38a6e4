-- The numbers of a line are small, and so each has one text.
use Rattle.std.proofs.Common.{ℕ, ◌*◌, ◌≤◌, List, [], ◌∷◌, length, take, drop, arith}
use Rattle.std.proofs.lemmas.List.{length-append, length-drop, length-take}
use Rattle.std.proofs.lemmas.Nat.{mul-le}
use Rattle.cull_base.specs.declared.clip.ClipVertex.{ClipVertex}
use Rattle.cull_base.specs.declared.scene_types.Batch.{Batch}
use Rattle.cull_base.specs.declared.scene_types.Tri.{Tri}
use Rattle.cull_base.specs.Grade.{top_of}
use Rattle.cull_base.specs.Screen.{Dimensions, tile_columns_of, tile_count_of, tile_rows_of}
use Rattle.cull_base.specs.Tiles.{tile_list}
use Rattle.scene_reader.specs.Layout.{IsScene, Parts}
use Rattle.snap_setup.specs.Batches.{list_of_batches}
use Rattle.snap_setup.specs.Pieces.{list_of_clips}
use Rattle.snap_setup.proofs.FrameLists.{list_most}
use Rattle.cull_report.specs.Scene.{frame_clips, frame_list, frame_pieces, size_of}
use Rattle.live_check.proofs.Moves.{own_within}

batches_most : (clips : List ClipVertex) (tris : List Tri) (top near : ℕ) (size : Dimensions) (batches : List Batch) → length (list_of_batches clips tris top near size batches) ≤ 2 * length tris
unfolding list_of_batches
batches_most clips tris top near size [] = omega arith
batches_most clips tris top near size (b ∷ batches) =
    let first = list_most clips (take b.count tris) top near size b.winding in
    let others = batches_most clips (drop b.count tris) top near size batches in
    omega (
      arith,
      first,
      others,
      length-take b.count tris,
      length-drop b.count tris,
      length-append (list_of_clips clips (take b.count tris) top near size b.winding) (list_of_batches clips (drop b.count tris) top near size batches),
    )

-- a frame's list has at most two pieces a triangle
pub few_pieces : (s : Parts) (frame : ℕ) → IsScene s → length (frame_pieces s frame) ≤ 131072
unfolding frame_list
few_pieces s frame scene = omega (arith, batches_most (frame_clips s frame) s.occluders (top_of s.grade) s.near (size_of s) s.batches, scene.few_occluders)

-- a tile's list has no more than the frame's
pub few_own : (s : Parts) (frame t : ℕ) → IsScene s → length (tile_list t (frame_list s frame)) ≤ 131072
few_own s frame t scene = omega (arith, few_pieces s frame scene, own_within t (frame_list s frame))

pub few_tiles : (s : Parts) → IsScene s → tile_count_of (size_of s) ≤ 16384
few_tiles s scene =
    let columns : tile_columns_of (size_of s) ≤ 64 = omega (arith, scene.size.within_width) in
    let rows : tile_rows_of (size_of s) ≤ 256 = omega (arith, scene.size.within_height) in
    let most = mul-le (tile_columns_of (size_of s)) (tile_rows_of (size_of s)) 64 256 columns rows in
    omega (arith, most)
