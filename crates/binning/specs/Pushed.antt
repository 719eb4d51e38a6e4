-- Parts that got an index: those of the bins that a piece reaches.
use Rattle.std.specs.Prelude.{ℕ, ◌≡◌, ◌<◌, ◌/◌, ◌%◌, Bool, nat_eq, ◌&&◌, cond, List, [], ◌∷◌, ◌++◌, length, slice_index_or}
use Rattle.cull_base.specs.Rectangle.{meets}
use Rattle.cull_base.specs.Span.{is_between}
use Rattle.cull_base.specs.Tiles.{PieceList}
use Rattle.cull_base.specs.declared.rect.Rect.{Rect}
use Rattle.binning.specs.Cut.{CutOf}
use Rattle.binning.specs.Bins.{bin_span_of, bin_rect_of, has_tiles}
use Rattle.binning.specs.Grid.{CutScreen}
use Rattle.binning.specs.declared.grid.Reach.{Reach}
use Rattle.binning.specs.Parts.{PartOf, part, indices_in}

abbrev pub with_indices : List ℕ → PartOf → PartOf
with_indices indices p = part p.bin p.batch (p.indices ++ indices)

abbrev pub with_index : ℕ → PartOf → PartOf
with_index index p = with_indices (index ∷ []) p

abbrev pub part_at : List PartOf → ℕ → PartOf
part_at parts bin = slice_index_or parts bin (part 0 0 [])

-- the parts of the bins where the test holds got an index at their end, and the others stayed
abbrev pub PushedWhere : (ℕ → Bool) → ℕ → List PartOf → List PartOf → Type 0
PushedWhere test index old new =
    (b : ℕ) → b < length old → part_at new b ≡ cond (test b) (with_index index (part_at old b)) (part_at old b)

-- each part got the places from one to before an end whose member meets its bin
abbrev pub GotIndices : PieceList → CutOf → ℕ → ℕ → List PartOf → List PartOf → Type 0
GotIndices list cut from to old new =
    (b : ℕ) → b < length old → part_at new b ≡ with_indices (indices_in list cut from to b) (part_at old b)

-- a box meets a bin
abbrev pub is_met : CutScreen → Rect → ℕ → Bool
is_met screen box bin = meets box (bin_rect_of screen.size screen.cut bin)

-- a bin stands in some columns, and has tiles
abbrev pub is_bin_in_columns : CutScreen → ℕ → ℕ → ℕ → Bool
is_bin_in_columns screen first end bin =
    is_between first end (bin % screen.cut.columns) && has_tiles (bin_span_of screen.size screen.cut bin)

-- and it stands in a row, or in some rows
abbrev pub is_bin_in_row : CutScreen → ℕ → ℕ → ℕ → ℕ → Bool
is_bin_in_row screen row first end bin =
    nat_eq (bin / screen.cut.columns) row && is_bin_in_columns screen first end bin

abbrev pub is_bin_in_rows : CutScreen → ℕ → ℕ → ℕ → ℕ → ℕ → Bool
is_bin_in_rows screen first_row end_row first end bin =
    is_between first_row end_row (bin / screen.cut.columns) && is_bin_in_columns screen first end bin

-- and it stands in the rows and columns that are reached
abbrev pub is_reached : CutScreen → Reach → ℕ → Bool
is_reached screen reach bin =
    is_bin_in_rows screen reach.rows.first reach.rows.end reach.columns.first reach.columns.end bin
