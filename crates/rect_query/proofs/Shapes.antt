-- The shapes of rectangles and boxes have no pieces, so what is asked of a shape's pieces holds of them.
use Rattle.std.specs.Prelude.{ℕ, ℤ, pos, Bool, true, false, cond, int_lt}
use Rattle.cull_base.specs.declared.rect.Rect.{Rect}
use Rattle.cull_base.specs.Rectangle.{meets}
use Rattle.cull_base.specs.Screen.{Dimensions, screen_of}
use Rattle.cull_base.specs.Shape.{AlwaysOutside, AlwaysVisible, Flat, HasPieces}
use Rattle.rect_query.specs.declared.boxes.BoxAnswer.{BoxAnswer}
use Rattle.rect_query.specs.declared.boxes.BoxAnswer.TheVariants.{Outside, Straddles, At}
use Rattle.rect_query.specs.Boxes.{shape_of_answer}
use Rattle.rect_query.specs.Rectangles.{nearness_at, rectangle_shape}

pub rectangle_has_pieces : (top near : ℕ) (size : Dimensions) (r : Rect) (w : ℤ) → HasPieces (rectangle_shape top near size r w)
rectangle_has_pieces top near size r w = by (int_lt w (pos near)) (meets r (screen_of size))
  where
    by : (b m : Bool) → HasPieces (cond m (cond b AlwaysVisible (Flat r (nearness_at top near w))) AlwaysOutside)
    by true true = tt
    by true false = tt
    by false true = tt
    by false false = tt

pub answer_has_pieces : (size : Dimensions) (answer : BoxAnswer) → HasPieces (shape_of_answer size answer)
answer_has_pieces size Outside = tt
answer_has_pieces size Straddles = tt
answer_has_pieces size (At r q) = by (meets r (screen_of size))
  where
    by : (m : Bool) → HasPieces (cond m (Flat r q) AlwaysOutside)
    by true = tt
    by false = tt
