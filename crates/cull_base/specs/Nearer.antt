-- A piece that is nearer at a point than something else is there.
use Rattle.std.specs.Prelude.{◌≡◌, true, List}
use Rattle.std.specs.List.{Contains}
use Rattle.cull_base.specs.Piece.{Piece, Point, covers}
use Rattle.cull_base.specs.Fraction.{Fraction, IsBelow, depth_at}

-- a piece of the list covers the point, and its depth there is strictly above a nearness
abbrev pub HasNearerPiece : List Piece → Point → Fraction → Type 0
HasNearerPiece pieces p nearness = (t : Piece) × Contains pieces t × (covers t p ≡ true) × IsBelow nearness (depth_at t p)
