-- Corners that are certified, and the pieces between them.
use Rattle.std.specs.Prelude.{◌≤◌, [], ◌∷◌}
use Rattle.cull_base.specs.Piece.{Piece, IsPiece, IsCoordinate, piece, point}
use Rattle.cull_base.specs.declared.nearness.TheConstants.{HELD_TOP}
use Rattle.pixel_forms.specs.Certified.{IsCertified, HasCertified}
use Rattle.pixel_forms.specs.Seen.{nearest_of}
use Rattle.pixel_forms.specs.declared.eye.Eye.{Eye}
use Rattle.pixel_forms.specs.declared.forms.Forms.{Forms}
use Rattle.inward_pieces.specs.declared.corner.Corner.{Corner}

-- pieces hold such numbers
pub record IsPlaced (p : Corner) : Type 0 where
  pub x : IsCoordinate p.x
  pub y : IsCoordinate p.y
  pub q : p.q ≤ HELD_TOP

pub record IsCorner (eye : Eye) (forms : Forms) (p : Corner) : Type 0 where
  pub placed : IsPlaced p
  pub certified : IsCertified (nearest_of eye) forms (point p.x p.y) p.q

-- three corners as they stand, whatever the area
abbrev pub between : Corner → Corner → Corner → Piece
between a b c = piece (a.x ∷ b.x ∷ c.x ∷ []) (a.y ∷ b.y ∷ c.y ∷ []) (a.q ∷ b.q ∷ c.q ∷ [])

-- a piece with three such corners
pub record HasCorners (eye : Eye) (forms : Forms) (t : Piece) : Type 0 where
  pub valid : IsPiece t
  pub certified : HasCertified (nearest_of eye) forms t
