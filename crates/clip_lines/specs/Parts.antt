-- Corners and lines as clip points, and how large they are.
use Rattle.std.specs.Prelude.{ℕ, ℤ, pos, ◌+ℤ◌, ◌*ℤ◌, ◌≤ℤ◌, ◌<ℤ◌, ◌+◌, ◌*◌, ◌^◌, ◌<◌, ◌≤◌, nat_abs}
use Rattle.cull_base.specs.Bounds.{Bounded}
use Rattle.exact_clip.specs.Clip.{Clip}
use Rattle.exact_clip.specs.declared.held.Held.{Held}
use Rattle.clip_lines.specs.declared.corner.Corner.{Corner}
use Rattle.clip_lines.specs.declared.line.Line.{Line}

abbrev pub of_corner : Corner → Clip
of_corner p = record { x = p.x; y = p.y; w = p.w }

abbrev pub of_line : Line → Clip
of_line l = record { x = l.x; y = l.y; w = l.w }

-- the sizes of the parts, added up
abbrev pub norm_of : Clip → ℕ
norm_of v = (nat_abs v.x + nat_abs v.y) + nat_abs v.w

-- each part at most so far from 0
pub record IsSized (n : ℕ) (v : Clip) : Type 0 where
  pub x : Bounded n v.x
  pub y : Bounded n v.y
  pub w : Bounded n v.w

-- no larger than the sum of so many lines through corners
pub record IsSumOf (n : ℕ) (l : Line) : Type 0 where
  pub parts : IsSized (n * 2 ^ 61) (of_line l)
  pub off : l.off ≤ n * 2 ^ 33

-- each part less than 2^30 steps of 2^shift from 0
pub record IsShifted (shift : ℕ) (v : Held) : Type 0 where
  pub x : nat_abs v.x < 2 ^ (30 + shift)
  pub y : nat_abs v.y < 2 ^ (30 + shift)
  pub w : nat_abs v.w < 2 ^ (30 + shift)

-- a number over a positive one, rounded down
pub record IsFloor (n : ℤ) (d : ℕ) (f : ℤ) : Type 0 where
  pub low : (f *ℤ pos d) ≤ℤ n
  pub high : n <ℤ ((f *ℤ pos d) +ℤ pos d)
