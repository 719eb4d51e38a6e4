-- What is true of a piece that is set up.
use Rattle.std.specs.Prelude.{◌≡◌, ◌<◌}
use Rattle.cull_base.specs.Piece.{covered}
use Rattle.cull_base.specs.declared.place.Sub.{Sub}
use Rattle.edge_lanes.specs.Crossings.{inside_rows}
use Rattle.masked_update.specs.declared.piece_setup.PieceSetup.TheInside.{Inside}

-- the edges are the piece's
pub record IsSetUp (s : Inside) : Type 0 where
  pub edges_cover : (u : Sub) → u.column < 256 → u.row < 512 → inside_rows s.edges u ≡ covered s.depths u
