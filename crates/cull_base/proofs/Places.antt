-- Rows and columns of numbered things.
use Rattle.std.proofs.Common.{ℕ, ◌<◌, ◌*◌, ◌/◌, arith}
use Rattle.std.proofs.Math.Nat.{div-lt_iff_lt-mul}

pub row_below : (t columns rows : ℕ) → 0 < columns → t < columns * rows → t / columns < rows
row_below t columns rows some lt = (div-lt_iff_lt-mul {k = columns} {x = t} {y = rows} some).1 (omega arith)
