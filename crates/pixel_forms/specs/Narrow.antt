-- Lines in fewer bits.
use Rattle.std.specs.Prelude.{ℕ, ℤ, pos, ◌+◌, ◌*◌, ◌^◌, ◌≤◌, ◌+ℤ◌, ◌*ℤ◌, ◌≤ℤ◌}
use Rattle.cull_base.specs.Bounds.{Bounded}
use Rattle.exact_clip.specs.Clip.{Clip}
use Rattle.pixel_forms.specs.declared.narrow_line.NarrowLine.{NarrowLine}

abbrev pub of_narrow : NarrowLine → Clip
of_narrow l = record { x = l.x; y = l.y; w = l.w }

-- each part at most 2^34 steps from 0
pub record IsNarrow (l : NarrowLine) : Type 0 where
  pub x : Bounded (2 ^ 34) l.x
  pub y : Bounded (2 ^ 34) l.y
  pub w : Bounded (2 ^ 34) l.w
  pub off : l.off ≤ 3 * 2 ^ 33 + 2
  pub shift : l.shift ≤ 30

-- a number in steps of p, rounded down
pub record IsFloor (v : ℤ) (p : ℕ) (q : ℤ) : Type 0 where
  pub low : (q *ℤ pos p) ≤ℤ v
  pub high : v ≤ℤ ((q *ℤ pos p) +ℤ pos p)
