-- What is true of a mesh's piece that is set up.
use Rattle.std.specs.Prelude.{◌≡◌}
use Rattle.cull_base.specs.Piece.{IsPiece, touched}
use Rattle.cull_base.specs.Depth.{greatest_nearness}
use Rattle.cull_base.specs.declared.place.Sub.{Sub}
use Rattle.depth_plane.specs.Plane.{plane_of}
use Rattle.edge_lanes.specs.Inside.{inside_of}
use Rattle.mesh_query.specs.declared.piece.MeshPiece.TheInside.{Inside}

-- the edges, the plane and the greatest nearness are the piece's
pub record IsSetUp (s : Inside) : Type 0 where
  pub valid : IsPiece s.tri
  pub edges_touch : (u : Sub) → inside_of s.edges u ≡ touched s.tri u
  pub plane_is : s.plane ≡ plane_of s.tri
  pub nearest_is : s.nearest ≡ greatest_nearness s.tri
