-- The pieces of a triangle that is given by references to its three vertices.
use Rattle.std.specs.Prelude.{ℕ, List}
use Rattle.cull_base.specs.declared.triangle.Side.{Side}
use Rattle.cull_base.specs.declared.triangle.Side.TheVariants.{Occluder}
use Rattle.cull_base.specs.declared.triangle.Winding.{Winding}
use Rattle.cull_base.specs.Piece.{Piece}
use Rattle.cull_base.specs.Screen.{Dimensions}
use Rattle.snap_setup.specs.declared.snapping.Snapped.{Snapped}
use Rattle.snap_setup.specs.declared.triangle.Corners.{Corners}
use Rattle.snap_setup.specs.Pieces.{snapped_part, pieces_of}

-- its snapped near part
abbrev pub part_of : Corners → ℕ → ℕ → Dimensions → Side → List Snapped
part_of t top near size side = snapped_part t.v0.now t.v1.now t.v2.now top near size side

-- its pieces as an occluder
abbrev pub pieces_of_corners : Corners → ℕ → ℕ → Dimensions → Winding → List Piece
pieces_of_corners t top near size winding = pieces_of t.v0.now t.v1.now t.v2.now top near size winding Occluder
