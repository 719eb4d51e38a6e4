-- The shape of a box, by the clip vertices of its eight corners.
use Rattle.std.specs.Prelude.{ℕ, List, map, ◌||◌, cond}
use Rattle.std.specs.List.{list_all, list_any}
use Rattle.cull_base.specs.declared.clip.ClipVertex.{ClipVertex}
use Rattle.cull_base.specs.declared.rect.Rect.{Rect}
use Rattle.cull_base.specs.Guard.{is_past_guard}
use Rattle.cull_base.specs.NearPlane.{is_behind}
use Rattle.cull_base.specs.Screen.{Dimensions}
use Rattle.cull_base.specs.Piece.{least_of, box_around}
use Rattle.cull_base.specs.Shape.{Shape, AlwaysOutside, AlwaysVisible, flat_shape}
use Rattle.near_clip.specs.NearPart.{whole}
use Rattle.snap_setup.specs.Snapping.{screen_x, screen_y}
use Rattle.rect_query.specs.Rectangles.{nearness_at}
use Rattle.rect_query.specs.declared.boxes.BoxAnswer.{BoxAnswer}
use Rattle.rect_query.specs.declared.boxes.BoxAnswer.TheVariants.{Outside, Straddles, At}

-- the pixels around the corners on the screen, and the nearness of the box, which is that of its least w
abbrev pub box_rect_of : Dimensions → List ClipVertex → Rect
box_rect_of size corners = box_around (map (λ v. screen_x (whole v) size) corners) (map (λ v. screen_y (whole v) size) corners)

abbrev pub box_nearness : ℕ → ℕ → List ClipVertex → ℕ
box_nearness top near corners = nearness_at top near (least_of (map (λ v. v.w) corners))

-- outside where all corners are behind the near plane, else in two where one is or is past the guard, else a rectangle on the screen
unfoldable pub box_answer : ℕ → ℕ → Dimensions → List ClipVertex → BoxAnswer
box_answer top near size corners =
    cond (list_all (is_behind near) corners) Outside
    (cond (list_any (λ v. is_past_guard v near || is_behind near v) corners) Straddles
    (At (box_rect_of size corners) (box_nearness top near corners)))

-- a box that straddles the near plane or the guard is visible
abbrev pub shape_of_answer : Dimensions → BoxAnswer → Shape
shape_of_answer size Outside = AlwaysOutside
shape_of_answer size Straddles = AlwaysVisible
shape_of_answer size (At rect nearness) = flat_shape size rect nearness

abbrev pub box_shape : ℕ → ℕ → Dimensions → List ClipVertex → Shape
box_shape top near size corners = shape_of_answer size (box_answer top near size corners)
