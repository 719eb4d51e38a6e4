-- The coefficients of a plane, by the vertices of its piece.
use Rattle.std.specs.Prelude.{ℕ, ℤ, pos, ◌≡◌, ◌-ℤ◌, ◌*ℤ◌}
use Rattle.cull_base.specs.Piece.{Piece, vertex, nearness}
use Rattle.depth_plane.specs.declared.vertices.Offset.{Offset}
use Rattle.depth_plane.specs.declared.vertices.Vertices.{Vertices}

-- o is how vertex k of the piece lies from the first one
pub record IsOffset (o : Offset) (t : Piece) (k : ℕ) : Type 0 where
  pub x : o.x ≡ (vertex t k).x -ℤ (vertex t 0).x
  pub y : o.y ≡ (vertex t k).y -ℤ (vertex t 0).y
  pub q : o.q ≡ pos (nearness t k) -ℤ pos (nearness t 0)

pub record AreVertices (v : Vertices) (t : Piece) : Type 0 where
  pub x : v.x ≡ (vertex t 0).x
  pub y : v.y ≡ (vertex t 0).y
  pub q : v.q ≡ nearness t 0
  pub second : IsOffset v.second t 1
  pub third : IsOffset v.third t 2

abbrev pub across_of : Vertices → ℤ
across_of v = (v.second.q *ℤ v.third.y) -ℤ (v.third.q *ℤ v.second.y)

abbrev pub down_of : Vertices → ℤ
down_of v = (v.third.q *ℤ v.second.x) -ℤ (v.second.q *ℤ v.third.x)

abbrev pub area_of : Vertices → ℤ
area_of v = (v.second.x *ℤ v.third.y) -ℤ (v.second.y *ℤ v.third.x)

-- the numerator at the origin, by those at the first vertex and the slopes from there
abbrev pub level_of : Vertices → ℤ → ℤ → ℤ → ℤ
level_of v across down area = ((area *ℤ pos v.q) -ℤ (across *ℤ v.x)) -ℤ (down *ℤ v.y)
