-- The forms in which a tile takes a piece.
use Rattle.std.specs.Prelude.{◌≡◌, ℕ}
use Rattle.cull_base.specs.Piece.{Piece, box_of}
use Rattle.cull_base.specs.Screen.{Dimensions}
use Rattle.masked_update.specs.Merged.{AreRowOf, IsSubBox}
use Rattle.masked_update.specs.Samples.{HoldsSampled}
use Rattle.masked_update.specs.declared.piece_form.PieceForm.{PieceForm}
use Rattle.masked_update.specs.declared.piece_form.PieceForm.TheVariants.{Bare, Small, Whole, Row}

-- the piece itself
abbrev pub piece_of_form : PieceForm → Piece
piece_of_form (Bare tri) = tri.now
piece_of_form (Small piece reached) = piece.now
piece_of_form (Whole piece reached) = piece.now
piece_of_form (Row piece reached over) = piece.now

-- The form is one for the tiles of a row. What is reached is of the screen, and has each sample that the piece covers;
-- of a piece that is set up with its edges it is the box's. Edges over a row of tiles are the piece's, over this row.
abbrev pub IsFormOn : Dimensions → ℕ → PieceForm → Type 0
IsFormOn size row (Bare tri) = Unit {0}
IsFormOn size row (Small piece reached) = HoldsSampled piece.now reached.now × (reached.now.size ≡ size)
IsFormOn size row (Whole piece reached) = IsSubBox (box_of piece.now) reached.now × (reached.now.size ≡ size)
IsFormOn size row (Row piece reached over) =
    HoldsSampled piece.now reached.now × (reached.now.size ≡ size) × AreRowOf over.now row piece.now
