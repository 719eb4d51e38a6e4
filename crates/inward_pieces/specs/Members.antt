-- Pieces as they are held.
use Rattle.std.specs.Prelude.{◌≡◌, ◌≤◌, List, [], ◌∷◌, length, take}
use Rattle.cull_base.specs.Piece.{Piece}
use Rattle.inward_pieces.specs.declared.fan_pieces.Members.{Members}
use Rattle.inward_pieces.specs.declared.fan_pieces.Members.TheVariants.{Nothing, One, Two, Many}

abbrev pub members_in : Members → List Piece
members_in Nothing = []
members_in (One a) = a ∷ []
members_in (Two a b) = a ∷ b ∷ []
members_in (Many m) = take m.count m.pieces

-- there are ten at most
abbrev pub AreFew : Members → Type 0
AreFew Nothing = Unit {0}
AreFew (One a) = Unit {0}
AreFew (Two a b) = Unit {0}
AreFew (Many m) = (length m.pieces ≡ 10) × (m.count ≤ 10)
