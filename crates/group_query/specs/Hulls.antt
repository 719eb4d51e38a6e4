-- Hulls of groups: around the areas of the members that count.
use Rattle.std.specs.Prelude.{ℕ, ℤ, pos, ◌≡◌, ◌+◌, ◌<◌, ◌≤◌, max, Bool, true, false, cond, nat_lt, List, [], ◌∷◌, map, take, drop, length, Option, Some, None, slice_index_or}
use Rattle.std.specs.Int.{int_min, int_max}
use Rattle.cull_base.specs.declared.rect.Rect.{Rect}
use Rattle.cull_base.specs.declared.scene_types.Object.{Object}
use Rattle.cull_base.specs.Rectangle.{HasPixel, meets, cut_of}
use Rattle.cull_base.specs.Screen.{Dimensions, screen_of}
use Rattle.cull_base.specs.Shape.{Shape, AlwaysOutside, AlwaysVisible, Flat, Pieces}
use Rattle.scene_reader.specs.Layout.{Parts}
use Rattle.cull_report.specs.Forms.{shape_of_form, HasTriangles}
use Rattle.cull_report.specs.Scene.{object_shape, size_of}
use Rattle.cull_report.specs.declared.form.Form.{Form}
use Rattle.cull_report.specs.declared.form.Form.TheVariants as forms
use Rattle.group_query.specs.declared.grouping.Group.{Group}
use Rattle.group_query.specs.declared.hulls.Hull.{Hull}

-- a member counts where it is at a rectangle that has a pixel in the screen
abbrev pub counts : Dimensions → Shape → Bool
counts size AlwaysOutside = false
counts size AlwaysVisible = false
counts size (Flat rect q) = meets rect (screen_of size)
counts size (Pieces pieces hull) = false

-- how many of some members count
abbrev pub counted : Dimensions → List Shape → ℕ
counted size [] = 0
counted size (shape ∷ shapes) = cond (counts size shape) 1 0 + counted size shapes

-- from the lesser sides of two rectangles, of which each has a pixel, to the greater
abbrev pub holding : Rect → Rect → Rect
holding a b = record { x0 = int_min a.x0 b.x0; y0 = int_min a.y0 b.y0; x1 = int_max a.x1 b.x1; y1 = int_max a.y1 b.y1 }

-- a hull, if there is one yet, and a member with an area and a nearness
abbrev pub with_member : Option Hull → Rect → ℕ → Hull
with_member None area q = record { rect = area; q = q; members = 1 }
with_member (Some h) area q = record { rect = holding h.rect area; q = max h.q q; members = h.members + 1 }

-- a hull and a member, where it counts
abbrev pub grown : Dimensions → Option Hull → Shape → Option Hull
grown size h AlwaysOutside = h
grown size h AlwaysVisible = h
grown size h (Flat rect q) = cond (meets rect (screen_of size)) (Some (with_member h (cut_of rect (screen_of size)) q)) h
grown size h (Pieces pieces hull) = h

-- a hull and some members, one after the other
abbrev pub hull_from : Dimensions → Option Hull → List Shape → Option Hull
hull_from size h [] = h
hull_from size h (shape ∷ shapes) = hull_from size (grown size h shape) shapes

-- the shapes of so many objects from a first on
abbrev pub shapes_from : Parts → ℕ → ℕ → ℕ → List Shape
shapes_from s frame first count = map (object_shape s frame) (take count (drop first s.objects))

abbrev pub member_shapes : Parts → ℕ → Group → List Shape
member_shapes s frame g = shapes_from s frame g.first g.count

-- The rectangle from the least to the greatest sides of the areas of a group's members that count, the greatest nearness of these, and their number. None where no member counts.
abbrev pub hull_of : Parts → ℕ → Group → Option Hull
hull_of s frame g = hull_from (size_of s) None (member_shapes s frame g)

abbrev pub members_of : Option Hull → ℕ
members_of None = 0
members_of (Some h) = h.members

-- a hull has each pixel of a member's area, and is as near
pub record HoldsMember (size : Dimensions) (h : Hull) (rect : Rect) (q : ℕ) : Type 0 where
  pub pixels : (x y : ℤ) → HasPixel (cut_of rect (screen_of size)) x y → HasPixel h.rect x y
  pub nearness : q ≤ h.q

-- and so of each member that counts
abbrev pub HoldsMembers : Dimensions → List Shape → Hull → Type 0
HoldsMembers size shapes h =
    (k : ℕ) (rect : Rect) (q : ℕ) → k < length shapes → slice_index_or shapes k AlwaysOutside ≡ Flat rect q → meets rect (screen_of size) ≡ true → HoldsMember size h rect q

-- the hull of one member that counts
pub record IsOneMembers (size : Dimensions) (shapes : List Shape) (h : Hull) : Type 0 where
  pub place : ℕ
  pub rect : Rect
  pub q : ℕ
  pub below : place < length shapes
  pub is : slice_index_or shapes place AlwaysOutside ≡ Flat rect q
  pub met : meets rect (screen_of size) ≡ true
  pub own : h ≡ with_member None (cut_of rect (screen_of size)) q

-- each side of a hull is that of a member that counts, and so its nearness
pub record IsTight (size : Dimensions) (shapes : List Shape) (h : Hull) : Type 0 where
  pub left : (m : Hull) × IsOneMembers size shapes m × (h.rect.x0 ≡ m.rect.x0)
  pub top : (m : Hull) × IsOneMembers size shapes m × (h.rect.y0 ≡ m.rect.y0)
  pub right : (m : Hull) × IsOneMembers size shapes m × (h.rect.x1 ≡ m.rect.x1)
  pub bottom : (m : Hull) × IsOneMembers size shapes m × (h.rect.y1 ≡ m.rect.y1)
  pub near : (m : Hull) × IsOneMembers size shapes m × (h.q ≡ m.q)

abbrev pub HullsAreTight : Type 0
HullsAreTight = (s : Parts) (frame : ℕ) (g : Group) (h : Hull) → hull_of s frame g ≡ Some h → IsTight (size_of s) (member_shapes s frame g) h

-- ---- by forms

-- the sides of the screen the other way round: those of any area in the screen replace them
abbrev pub turned : Dimensions → Rect
turned size = record { x0 = pos size.width; y0 = pos size.height; x1 = pos 0; y1 = pos 0 }

-- what is kept of members: their hull; before one counts, a hull of none
abbrev pub no_members : Dimensions → Hull
no_members size = record { rect = turned size; q = 0; members = 0 }

abbrev pub kept_hull : Dimensions → Option Hull → Hull
kept_hull size None = no_members size
kept_hull size (Some h) = h

-- the hull that is kept, where it has a member
abbrev pub told_hull : Hull → Option Hull
told_hull h = cond (nat_lt 0 h.members) (Some h) None

-- a hull that is kept and a member by its form
abbrev pub grown_hull : Dimensions → Hull → Form → Hull
grown_hull size h forms.Outside = h
grown_hull size h forms.Visible = h
grown_hull size h (forms.Flat rect q) = with_member (Some h) (cut_of rect (screen_of size)) q
grown_hull size h (forms.Mesh first count) = h

-- a form that is a rectangle has a pixel in the screen
abbrev pub is_seen : Dimensions → Form → Bool
is_seen size forms.Outside = true
is_seen size forms.Visible = true
is_seen size (forms.Flat rect q) = meets rect (screen_of size)
is_seen size (forms.Mesh first count) = true

-- the form of an object of a frame; where it is a rectangle, the object counts
pub record IsFormOf (s : Parts) (frame o : ℕ) (form : Form) : Type 0 where
  pub own : (d : Object) → shape_of_form s frame form ≡ object_shape s frame (slice_index_or s.objects o d)
  pub triangles : HasTriangles (length s.object_tris) form
  pub seen : is_seen (size_of s) form ≡ true

-- the forms of so many objects from a first on
abbrev pub AreFormsFrom : Parts → ℕ → ℕ → ℕ → List Form → Type 0
AreFormsFrom s frame first count kept = (k : ℕ) (d : Form) → k < count → IsFormOf s frame (first + k) (slice_index_or kept k d)
