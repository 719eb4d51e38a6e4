-- What live lines say of occluded objects.
use Rattle.std.proofs.Common.{◌≡◌, ℕ, ◌<◌, refl, ap, length, take}
use Rattle.std.specs.List.{All}
use Rattle.std.proofs.lemmas.List.Elements.{All-take, All-filter, All-contains, Contains-get_or}
use Rattle.cull_base.specs.Piece.{IsPiece, box_of}
use Rattle.cull_base.specs.Rectangle.{meets}
use Rattle.cull_base.specs.Screen.{Dimensions, tile_rect_of}
use Rattle.cull_base.specs.Tiles.{PieceList, ArePieces, tile_list, tile_after}
use Rattle.scene_reader.specs.Layout.{Parts, IsScene}
use Rattle.cull_report.specs.Scene.{size_of, frame_list, frame_pieces}
use Rattle.cull_report.specs.Live.{Counts, HidesLive, object_at, prefixed_tiles, prefixed_verdict}
use Rattle.cull_report.proofs.Occluders.{hides_object}

-- each member of a front of a tile's list is a piece
pub front_pieces : (tile k : ℕ) (list : PieceList) → ArePieces list.members → ArePieces (take k (tile_list tile list))
unfolding tile_list
front_pieces tile k list all =
    let each : All IsPiece list.members = λ i d lt. all _ (Contains-get_or list.members i d lt) in
    let own = All-filter (λ t. meets (box_of t) (tile_rect_of list.size tile)) IsPiece list.members each in
    λ t m. All-contains IsPiece (take k (tile_list tile list)) t (All-take IsPiece k (tile_list tile list) own) m

pub frame_list-size : (s : Parts) (frame : ℕ) → (frame_list s frame).size ≡ size_of s
unfolding frame_list
frame_list-size s frame = refl

-- an object that is occluded after fronts of the tiles' lists has one of their members strictly nearer at each of its samples
pub hides_live : (s : Parts) (rounds watch : ℕ) (counts : Counts) → IsScene s → ((frame : ℕ) → frame < length s.cameras → ArePieces (frame_pieces s frame)) → HidesLive s rounds watch counts
hides_live s rounds watch counts scene pieces = record {
  at_each_sample = λ frame r o px py lt line occluded has.
      let count = counts frame r o in
      let list = frame_list s frame in
      hides_object s frame (prefixed_tiles s frame count) (object_at s o) (prefixed_verdict s frame count o) scene refl
      (λ t. take (count t) (tile_list t list))
      (λ t on met. (front_pieces t (count t) list (pieces frame lt), ap (λ (size : Dimensions). tile_after size t (take (count t) (tile_list t list))) (frame_list-size s frame)))
      occluded px py has;
}
