-- Pieces that say no more than the triangles of some held corners, whichever exact clip points these hold.
use Rattle.std.specs.Prelude.{ℕ}
use Rattle.cull_base.specs.Piece.{Piece}
use Rattle.exact_clip.specs.Clip.{Clip}
use Rattle.exact_clip.specs.Held.{Holds}
use Rattle.exact_clip.specs.declared.held.Held.{Held}
use Rattle.pixel_forms.specs.Certified.{IsTriangle, IsHalf}
use Rattle.pixel_forms.specs.Seen.{sight_of}
use Rattle.pixel_forms.specs.Within.{IsWithinFaces}
use Rattle.pixel_forms.specs.declared.eye.Eye.{Eye}

-- within the triangle a b c
abbrev pub IsWithinTriangle : Eye → Held → Held → Held → Piece → Type 0
IsWithinTriangle eye a b c t =
    (unit : ℕ) (p q r : Clip) → Holds unit a p → Holds unit b q → Holds unit c r
    → IsWithinFaces (sight_of eye unit) (IsTriangle p q r) t

-- within the triangles a b c and a c d together
abbrev pub IsWithinQuad : Eye → Held → Held → Held → Held → Piece → Type 0
IsWithinQuad eye a b c d t =
    (unit : ℕ) (p q r s : Clip) → Holds unit a p → Holds unit b q → Holds unit c r → Holds unit d s
    → IsWithinFaces (sight_of eye unit) (IsHalf p q r s) t
