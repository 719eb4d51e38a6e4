-- Rows of a camera by their numbers.
use Rattle.std.specs.Prelude.{ℕ, ℤ, pos, ◌<◌, ◌+ℤ◌, ◌*ℤ◌, List, slice_index_or}
use Rattle.cull_base.specs.Bounds.{Bounded}
use Rattle.cull_base.specs.Depth.{floor_of}

-- eight numbers lie at most so far away from 0
abbrev pub AreBounded : ℕ → List ℤ → Type 0
AreBounded n numbers = (j : ℕ) → j < 8 → Bounded n (slice_index_or numbers j (pos 0))

-- three factors in parts of 65536, and then an offset
abbrev pub coordinate_by : ℤ → ℤ → ℤ → ℤ → ℤ → ℤ → ℤ → ℤ
coordinate_by a b c offset x y z = floor_of (((a *ℤ x) +ℤ (b *ℤ y)) +ℤ (c *ℤ z)) (pos 65536) +ℤ offset
