-- How far a box around the boxes of a group reaches, as a camera sees it.
use Rattle.std.specs.Prelude.{ℕ, ℤ, pos, ◌+◌, ◌<◌, ◌≤◌, ◌≤ℤ◌, ◌<ℤ◌, map, Bool, ◌&&◌, cond, int_lt, int_le, List, [], ◌∷◌, slice_index_or}
use Rattle.std.specs.Int.{int_min, int_max}
use Rattle.cull_base.specs.declared.clip.ClipVertex.{ClipVertex}
use Rattle.cull_base.specs.declared.rect.Rect.{Rect}
use Rattle.cull_base.specs.declared.scene_types.Object.{Object}
use Rattle.cull_base.specs.declared.scene_types.Object.TheVariants.{Area, Block, Mesh}
use Rattle.cull_base.specs.Grade.{top_of}
use Rattle.cull_base.specs.Screen.{Dimensions}
use Rattle.scene_reader.specs.Layout.{Parts}
use Rattle.camera_path.specs.Clip.{as_clip, clip_of, corners_of, number}
use Rattle.rect_query.specs.Boxes.{box_answer}
use Rattle.rect_query.specs.declared.boxes.BoxAnswer.{BoxAnswer}
use Rattle.rect_query.specs.declared.boxes.BoxAnswer.TheVariants.{Outside, Straddles, At}
use Rattle.cull_report.specs.Scene.{camera_at, size_of}
use Rattle.group_query.specs.declared.around.Around.{Around}
use Rattle.group_query.specs.declared.around.Reach.{Reach}
use Rattle.group_query.specs.declared.around.Limits.{Limits}

-- a point lies in a box between its least and its greatest corner
pub record IsInside (low high v : List ℤ) : Type 0 where
  pub x : (number low 0 ≤ℤ number v 0) × (number v 0 ≤ℤ number high 0)
  pub y : (number low 1 ≤ℤ number v 1) × (number v 1 ≤ℤ number high 1)
  pub z : (number low 2 ≤ℤ number v 2) × (number v 2 ≤ℤ number high 2)

-- an object is a box, and both its corners lie in a box
abbrev pub IsBoxInside : Around → Object → Type 0
IsBoxInside a (Area rect w) = ⊥
IsBoxInside a (Block low high) = IsInside a.low a.high low × IsInside a.low a.high high
IsBoxInside a (Mesh first count) = ⊥

-- and so do so many objects from a first on
abbrev pub AreBoxesInside : Around → List Object → ℕ → ℕ → Type 0
AreBoxesInside a objects first count = (k : ℕ) (o : Object) → k < count → IsBoxInside a (slice_index_or objects (first + k) o)

abbrev pub three : ℤ → ℤ → ℤ → List ℤ
three x y z = x ∷ y ∷ z ∷ []

-- a box around another and one more
abbrev pub spread : Around → List ℤ → List ℤ → Around
spread a low high = record {
  low = three (int_min (number a.low 0) (number low 0)) (int_min (number a.low 1) (number low 1)) (int_min (number a.low 2) (number low 2));
  high = three (int_max (number a.high 0) (number high 0)) (int_max (number a.high 1) (number high 1)) (int_max (number a.high 2) (number high 2));
}

-- the first of two numbers where a factor isn't negative, else the second
abbrev pub pick : ℤ → ℤ → ℤ → ℤ
pick factor first second = cond (int_lt factor (pos 0)) second first

-- the corner of a box at which the row from number r of a camera is least, or greatest where its corners are given in exchange
abbrev pub picked : List ℤ → ℕ → List ℤ → List ℤ → List ℤ
picked camera r low high =
    three (pick (number camera r) (number low 0) (number high 0)) (pick (number camera (r + 1)) (number low 1) (number high 1))
    (pick (number camera (r + 2)) (number low 2) (number high 2))

abbrev pub IsBetween : Limits → ℤ → Type 0
IsBetween s z = (s.least ≤ℤ z) × (z ≤ℤ s.greatest)

-- a vertex whose coordinates are each between the least and the greatest
pub record IsInReach (s : Reach) (v : ClipVertex) : Type 0 where
  pub x : IsBetween s.x v.x
  pub y : IsBetween s.y v.y
  pub w : IsBetween s.w v.w

-- the corners of the box in clip space that has all these vertices
abbrev pub outer_corners : Reach → List ClipVertex
outer_corners r = map as_clip (corners_of (three r.x.least r.y.least r.w.least) (three r.x.greatest r.y.greatest r.w.greatest))

abbrev pub is_in_screen : Dimensions → Rect → Bool
is_in_screen size r = (int_le (pos 0) r.x0 && int_le (pos 0) r.y0) && (int_le r.x1 (pos size.width) && int_le r.y1 (pos size.height))

-- a rectangle with a pixel, whose pixels are all in another
pub record IsPart (a b : Rect) : Type 0 where
  pub wide : a.x0 <ℤ a.x1
  pub high : a.y0 <ℤ a.y1
  pub left : b.x0 ≤ℤ a.x0
  pub above : b.y0 ≤ℤ a.y0
  pub right : a.x1 ≤ℤ b.x1
  pub below : a.y1 ≤ℤ b.y1

-- where a box stands before a frame's camera
abbrev pub box_stands : Parts → ℕ → List ℤ → List ℤ → BoxAnswer
box_stands s frame low high = box_answer (top_of s.grade) s.near (size_of s) (map (clip_of (camera_at s frame)) (corners_of low high))

-- it stands at a part of a rectangle, and no nearer
abbrev pub StandsIn : Rect → ℕ → BoxAnswer → Type 0
StandsIn rect q Outside = ⊥
StandsIn rect q Straddles = ⊥
StandsIn rect q (At r n) = IsPart r rect × (n ≤ q)

-- an answer for a box: where it is a rectangle with a nearness, each box inside stands at a part of it and is no nearer
abbrev pub IsAnswerAround : Parts → ℕ → Around → BoxAnswer → Type 0
IsAnswerAround s frame a Outside = Unit {0}
IsAnswerAround s frame a Straddles = Unit {0}
IsAnswerAround s frame a (At rect q) =
    (low high : List ℤ) → IsInside a.low a.high low → IsInside a.low a.high high → StandsIn rect q (box_stands s frame low high)
