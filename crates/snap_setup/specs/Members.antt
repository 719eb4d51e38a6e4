-- Pieces as they are held.
use Rattle.std.specs.Prelude.{List, [], ◌∷◌}
use Rattle.cull_base.specs.Piece.{Piece}
use Rattle.snap_setup.specs.declared.pieces.Members.{Members}
use Rattle.snap_setup.specs.declared.pieces.Members.TheVariants.{Nothing, One, Two}

abbrev pub members_in : Members → List Piece
members_in Nothing = []
members_in (One a) = a ∷ []
members_in (Two a b) = a ∷ b ∷ []
