-- What is left of a triangle in front of the near plane.
use Rattle.std.specs.Prelude.{ℕ, pos, ◌+ℤ◌, ◌-ℤ◌, ◌*ℤ◌, List, [], ◌∷◌, Bool, true, false, int_le, slice_index_or}
use Rattle.cull_base.specs.declared.clip.ClipVertex.{ClipVertex}
use Rattle.near_clip.specs.declared.hom_point.HomPoint.{HomPoint}

-- vertex k of a list of them
abbrev pub corner : List ClipVertex → ℕ → ClipVertex
corner vertices k = slice_index_or vertices k (record { x = pos 0; y = pos 0; w = pos 0 })

-- in front of the near plane, or on it
abbrev pub is_in_front : ClipVertex → ℕ → Bool
is_in_front v near = int_le (pos near) v.w

-- a vertex itself
abbrev pub whole : ClipVertex → HomPoint
whole v = record { x = v.x; y = v.y; w = v.w; scale = pos 1 }

-- the cut between a inside and b outside: (wa - near) * b + (near - wb) * a, with the scale wa - wb
abbrev pub cut_point : ClipVertex → ClipVertex → ℕ → HomPoint
cut_point a b near =
    let p = a.w -ℤ pos near in
    let q = pos near -ℤ b.w in
    record {
      x = (p *ℤ b.x) +ℤ (q *ℤ a.x);
      y = (p *ℤ b.y) +ℤ (q *ℤ a.y);
      w = (p *ℤ b.w) +ℤ (q *ℤ a.w);
      scale = a.w -ℤ b.w;
    }

-- the polygon by which of the three vertices are inside
abbrev pub part_by : Bool → Bool → Bool → ClipVertex → ClipVertex → ClipVertex → ℕ → List HomPoint
part_by true true true v0 v1 v2 near = whole v0 ∷ whole v1 ∷ whole v2 ∷ []
part_by true true false v0 v1 v2 near = whole v0 ∷ whole v1 ∷ cut_point v1 v2 near ∷ cut_point v0 v2 near ∷ []
part_by true false true v0 v1 v2 near = whole v0 ∷ cut_point v0 v1 near ∷ cut_point v2 v1 near ∷ whole v2 ∷ []
part_by false true true v0 v1 v2 near = cut_point v1 v0 near ∷ whole v1 ∷ whole v2 ∷ cut_point v2 v0 near ∷ []
part_by true false false v0 v1 v2 near = whole v0 ∷ cut_point v0 v1 near ∷ cut_point v0 v2 near ∷ []
part_by false true false v0 v1 v2 near = cut_point v1 v0 near ∷ whole v1 ∷ cut_point v1 v2 near ∷ []
part_by false false true v0 v1 v2 near = cut_point v2 v0 near ∷ cut_point v2 v1 near ∷ whole v2 ∷ []
part_by false false false v0 v1 v2 near = []

unfoldable pub near_part : ClipVertex → ClipVertex → ClipVertex → ℕ → List HomPoint
near_part v0 v1 v2 near = part_by (is_in_front v0 near) (is_in_front v1 near) (is_in_front v2 near) v0 v1 v2 near
