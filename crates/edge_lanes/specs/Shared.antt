-- Edges that pieces share.
use Rattle.std.specs.Prelude.{ℕ, true, false, ◌≡◌, ◌⊎◌}
use Rattle.cull_base.specs.Piece.{Piece, Point, vertex, covers}

-- a and b are vertices i and j of a piece
abbrev pub IsEdgeFrom : Piece → ℕ → ℕ → Point → Point → Type 0
IsEdgeFrom t i j a b = (vertex t i ≡ a) × (vertex t j ≡ b)

-- an edge of a piece runs from a to b
abbrev pub HasEdge : Piece → Point → Point → Type 0
HasEdge t a b = IsEdgeFrom t 0 1 a b ⊎ (IsEdgeFrom t 1 2 a b ⊎ IsEdgeFrom t 2 0 a b)

-- no point is covered by both pieces
abbrev pub NoneInBoth : Piece → Piece → Type 0
NoneInBoth s t = (p : Point) → covers s p ≡ true → covers t p ≡ false
