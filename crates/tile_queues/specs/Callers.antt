-- A reader before and after its tiles were read.
use Rattle.std.specs.Prelude.{◌≡◌, ℕ, ◌<◌, ◌≤◌, length, slice_index}
use Rattle.tile_cells.specs.Cells.{Reading}

-- it is of the same cells and the same list, and what it has seen of a tile is no less
pub record Follows (old new : Reading) : Type 0 where
  pub cells : new.cells ≡ old.cells
  pub list : new.list ≡ old.list
  pub seen : (t : ℕ) → t < length old.cells → slice_index old.seen t ≤ slice_index new.seen t
