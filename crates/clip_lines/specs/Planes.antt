-- The sum of a triangle's lines, and its determinant.
use Rattle.std.specs.Prelude.{ℕ, pos, neg_ℤ, ◌≡◌, ◌+◌, ◌*◌, ◌<◌, ◌+ℤ◌, int_lt, cond}
use Rattle.exact_clip.specs.Clip.{Clip}
use Rattle.clip_lines.specs.Lines.{cross, det, sum_of, IsWithin, StandsFor}
use Rattle.clip_lines.specs.Parts.{of_corner, of_line, norm_of}
use Rattle.clip_lines.specs.declared.corner.Corner.{Corner}
use Rattle.clip_lines.specs.declared.line.Line.{Line}
use Rattle.clip_lines.specs.declared.plane.Plane.{Plane}

-- what is off by so many steps in each line is off by as many in their sum
abbrev pub sum_of_lines : Line → Line → Line → Line
sum_of_lines l m n =
    record { x = (l.x +ℤ m.x) +ℤ n.x; y = (l.y +ℤ m.y) +ℤ n.y; w = (l.w +ℤ m.w) +ℤ n.w; off = (l.off + m.off) + n.off }

-- so many steps a line's product with a corner is off: each factor by its own steps times the other
abbrev pub unsure_of : Corner → Line → ℕ
unsure_of p l = norm_of (of_line l) + l.off * (norm_of (of_corner p) + 3)

-- a corner and three lines stand for those of a triangle
pub record AreOf (scale : ℕ) (p : Corner) (l m n : Line) (a b c : Clip) : Type 0 where
  pub proper : 0 < scale
  pub first : StandsFor scale 1 (of_corner p) a
  pub ab : StandsFor (scale * scale) l.off (of_line l) (cross a b)
  pub bc : StandsFor (scale * scale) m.off (of_line m) (cross b c)
  pub ca : StandsFor (scale * scale) n.off (of_line n) (cross c a)

-- a plane stands for a triangle's: the sum of its lines, the sign of its determinant, and the determinant's size
pub record IsPlaneOf (scale : ℕ) (plane : Plane) (a b c : Clip) : Type 0 where
  pub sum : StandsFor (scale * scale) plane.sum.off (of_line plane.sum) (sum_of (sum_of (cross a b) (cross b c)) (cross c a))
  pub sign : plane.is_turned ≡ int_lt (det a b c) (pos 0)
  pub size : IsWithin (scale * scale * scale) plane.unsure (pos plane.length) (cond plane.is_turned (neg_ℤ (det a b c)) (det a b c))
