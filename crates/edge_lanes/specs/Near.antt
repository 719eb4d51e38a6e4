-- Near edges, and the piece that they are the edges of.
use Rattle.cull_base.specs.Piece.{Piece}
use Rattle.cull_base.specs.declared.triangle.Side.TheVariants.{Occluder}
use Rattle.edge_lanes.specs.Lines.{AreEdges, Lines}
use Rattle.edge_lanes.specs.Crossings.{AreTurned}
use Rattle.edge_lanes.specs.declared.near_edges.NearEdges.{NearEdges}

-- they are turned from the edges of the piece, as an occluder's
pub record AreNearOf (e : NearEdges) (x : Piece) : Type 0 where
  pub lines : Lines
  pub edges : AreEdges lines Occluder x
  pub turned : AreTurned lines e.turned
