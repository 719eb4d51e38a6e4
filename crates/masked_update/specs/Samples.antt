-- The pixels whose samples a piece may cover.
use Rattle.std.specs.Prelude.{ℕ, pos, ◌≡◌, true}
use Rattle.cull_base.specs.Piece.{Piece, covers, middle}
use Rattle.cull_base.specs.Rectangle.{HasPixel}
use Rattle.cull_base.specs.declared.rect.Rect.{Rect}
use Rattle.masked_update.specs.Merged.{IsSubBox}
use Rattle.masked_update.specs.declared.sub_span.SubBox.{SubBox}

-- the rectangle has each pixel whose sample the piece covers
abbrev pub HoldsCovered : Piece → Rect → Type 0
HoldsCovered x r = (px py : ℕ) → covers x (middle px py) ≡ true → HasPixel r (pos px) (pos py)

-- the subtiles have each sample on the screen that the piece covers
abbrev pub HoldsSampled : Piece → SubBox → Type 0
HoldsSampled x b = (r : Rect) × HoldsCovered x r × IsSubBox r b
