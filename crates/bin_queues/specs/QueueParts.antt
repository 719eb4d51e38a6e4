-- A list that is drawn in batches, and the parts that the queue of a bin is for.
use Rattle.std.specs.Prelude.{ℕ, zero, suc, ◌*◌, ◌≤◌, min, List, [], ◌∷◌, length}
use Rattle.atomic_table.specs.Seated.{TableId}
use Rattle.cull_base.specs.Screen.{IsSize}
use Rattle.cull_base.specs.Tiles.{PieceList}
use Rattle.binning.specs.Cut.{CutOf, IsCut}
use Rattle.binning.specs.Parts.{PartOf, part, part_of, indices_in, batch_count_of}

-- a list that is drawn in batches of a size into the bins of a cut screen, and the cells of its tiles, where tiles lie in
-- cells
pub record BatchedFrame : Type 0 where
  pub list : PieceList
  pub cut : CutOf
  pub size : ℕ
  pub cells : List TableId

-- one bin of it
pub record BinOfFrame : Type 0 where
  pub frame : BatchedFrame
  pub bin : ℕ

abbrev pub batched : PieceList → CutOf → ℕ → List TableId → BatchedFrame
batched list cut size cells = record { list = list; cut = cut; size = size; cells = cells }

abbrev pub bin_of_frame : BatchedFrame → ℕ → BinOfFrame
bin_of_frame frame bin = record { frame = frame; bin = bin }

-- how many batches there are
abbrev pub batches_in : BatchedFrame → ℕ
batches_in frame = batch_count_of (length frame.list.members) frame.size

-- a frame whose batches can be counted: there is a batch size, and no more batches than asked for
pub record IsBatched (frame : BatchedFrame) : Type 0 where
  pub sized : IsSize frame.list.size.width frame.list.size.height
  pub is_cut : IsCut frame.cut.columns frame.cut.rows
  pub some : 1 ≤ frame.size
  pub few : batches_in frame ≤ 2048
  pub short : length frame.list.members ≤ 131072

-- batch i's part for the bin
abbrev pub nth_part : BinOfFrame → ℕ → PartOf
nth_part b i = part b.bin i (part_of b.frame.list b.frame.cut b.frame.size i b.bin)

-- n parts from the q-th on
abbrev pub parts_from : BinOfFrame → ℕ → ℕ → List PartOf
parts_from b q zero = []
parts_from b q (suc n) = nth_part b q ∷ parts_from b (suc q) n

-- how many members of the list the first q batches have
abbrev pub places_before : BatchedFrame → ℕ → ℕ
places_before frame q = min (q * frame.size) (length frame.list.members)

-- and how many of them are in the bin's first q parts
abbrev pub taken_before : BinOfFrame → ℕ → ℕ
taken_before b q = length (indices_in b.frame.list b.frame.cut 0 (places_before b.frame q) b.bin)
