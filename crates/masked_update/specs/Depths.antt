-- What is true of a piece whose depths are set up.
use Rattle.std.specs.Prelude.{◌≡◌}
use Rattle.cull_base.specs.Piece.{IsPiece}
use Rattle.cull_base.specs.Depth.{greatest_nearness, least_nearness}
use Rattle.depth_plane.specs.Plane.{plane_of}
use Rattle.masked_update.specs.declared.piece_setup.PieceDepths.TheInside.{Inside}

-- the plane, the greatest and the least nearness are the piece's
pub record HasDepths (s : Inside) : Type 0 where
  pub valid : IsPiece s.tri
  pub plane_is : s.plane ≡ plane_of s.tri
  pub nearest_is : s.nearest ≡ greatest_nearness s.tri
  pub least_is : s.least ≡ least_nearness s.tri
