-- Batches of a list, and the part of each for a bin.
use Rattle.std.specs.Prelude.{ℕ, ◌≡◌, ◌+◌, ◌*◌, ◌≤◌, min, max, List, map, filter, length}
use Rattle.std.specs.List.{range_with_len, flat_map}
use Rattle.std.specs.Int.{div_ceil}
use Rattle.cull_base.specs.Piece.{Piece, box_of}
use Rattle.cull_base.specs.Rectangle.{meets}
use Rattle.cull_base.specs.Screen.{tile_rect_of}
use Rattle.cull_base.specs.Tiles.{PieceList, tile_list}
use Rattle.binning.specs.Cut.{CutOf, bin_count_of}
use Rattle.binning.specs.Bins.{bin_of, bin_rect_of}
use Rattle.binning.specs.Places.{places_in, members_at}

-- the size of a batch that was asked for, raised so that there are at most 2048
abbrev pub batch_size_of : ℕ → ℕ → ℕ
batch_size_of len asked = max asked (div_ceil len 2048)

abbrev pub batch_count_of : ℕ → ℕ → ℕ
batch_count_of len size = div_ceil len size

-- a part as contracts see it: its bin, its batch, and the places of members
pub record PartOf : Type 0 where
  pub bin : ℕ
  pub batch : ℕ
  pub indices : List ℕ

abbrev pub part : ℕ → ℕ → List ℕ → PartOf
part bin batch indices = record { bin = bin; batch = batch; indices = indices }

-- the places from one to before an end whose member meets a bin
abbrev pub indices_in : PieceList → CutOf → ℕ → ℕ → ℕ → List ℕ
indices_in list cut from to bin = places_in (bin_rect_of list.size cut bin) list.members from to

-- batch i of a size, and of it the places whose member meets a bin
abbrev pub part_of : PieceList → CutOf → ℕ → ℕ → ℕ → List ℕ
part_of list cut size i bin = indices_in list cut (i * size) (min ((i + 1) * size) (length list.members)) bin

-- one part for each bin, in order
abbrev pub parts_in : PieceList → CutOf → ℕ → ℕ → ℕ → List PartOf
parts_in list cut batch from to =
    let bins = range_with_len 0 (bin_count_of cut) in
    map (λ bin. part bin batch (indices_in list cut from to bin)) bins

abbrev pub parts_of : PieceList → CutOf → ℕ → ℕ → List PartOf
parts_of list cut size i =
    let bins = range_with_len 0 (bin_count_of cut) in
    map (λ bin. part bin i (part_of list cut size i bin)) bins

-- where the places are those of batch i of some size, these are the parts of that batch
abbrev pub ArePartsOfBatch : PieceList → CutOf → ℕ → ℕ → ℕ → List PartOf → Type 0
ArePartsOfBatch list cut i from to parts =
    (size : ℕ) → 1 ≤ size → from ≡ i * size → to ≡ min ((i + 1) * size) (length list.members)
    → parts ≡ parts_of list cut size i

-- the members of a bin's first n parts, in order
abbrev pub members_in : PieceList → CutOf → ℕ → ℕ → ℕ → List Piece
members_in list cut size bin n =
    flat_map (λ i. members_at list.members (part_of list cut size i bin)) (range_with_len 0 n)

-- of some pieces those whose box meets a tile, in order
abbrev pub meeting_tile : PieceList → ℕ → List Piece → List Piece
meeting_tile list tile pieces = filter (λ t. meets (box_of t) (tile_rect_of list.size tile)) pieces

-- The law of parts: the members of all parts of a bin, in order and filtered to a tile of the bin, are the tile's list.
abbrev pub PartsMakeTileList : PieceList → CutOf → ℕ → ℕ → Type 0
PartsMakeTileList list cut size tile =
    let batches = batch_count_of (length list.members) size in
    meeting_tile list tile (members_in list cut size (bin_of list.size cut tile) batches) ≡ tile_list tile list
