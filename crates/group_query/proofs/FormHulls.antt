-- Hulls of objects by their forms, so many from a first on.
use Rattle.std.proofs.Common.{◌≡◌, ℕ, ℤ, pos, ◌+◌, ◌-◌, ◌<◌, ◌≤◌, max, Bool, true, false, cond, nat_lt, List, [], ◌∷◌, ◌++◌, length, map, take, drop, get_or, Option, Some, None, arith, refl, sym, ap, ◌∙◌, int_lt}
use Rattle.std.specs.Prelude.{IfSome}
use Rattle.std.specs.Int.{int_min, int_max}
use Rattle.std.proofs.lemmas.Bool.{and_parts}
use Rattle.std.proofs.lemmas.Bool.Decides.{nat_tests}
use Rattle.std.proofs.lemmas.Int.{ints}
use Rattle.std.proofs.Math.Seq.{take-add}
use Rattle.std.proofs.lemmas.List.{take_more, map-append, map_push, length-drop, length-map, length-take, get_or-drop, get_or-take, get_or-map, drop-drop}
use Rattle.cull_base.specs.declared.rect.Rect.{Rect}
use Rattle.cull_base.specs.declared.clip.ClipVertex.{ClipVertex}
use Rattle.cull_base.specs.declared.scene_types.Object.{Object}
use Rattle.cull_base.specs.declared.scene_types.Tri.{Tri}
use Rattle.cull_base.specs.Grade.{top_of}
use Rattle.cull_base.specs.Rectangle.{common, cut_of, meets, no_pixels}
use Rattle.cull_base.specs.Screen.{Dimensions, screen_of}
use Rattle.cull_base.specs.Shape.{Shape, AlwaysOutside, AlwaysVisible, Flat, Pieces, flat_shape}
use Rattle.cull_base.specs.Guard.{is_past_guard}
use Rattle.cull_base.specs.NearPlane.{is_behind}
use Rattle.mesh_query.specs.Meshes.{at_each_vertex, at_some_vertex, hull_of as boxes_hull, is_one_on_screen, mesh_shape, near_boxes, object_pieces}
use Rattle.scene_reader.specs.Layout.{Parts}
use Rattle.cull_report.specs.Forms.{range_of, shape_of_form}
use Rattle.cull_report.specs.Scene.{frame_clips, object_shape, size_of}
use Rattle.cull_report.specs.declared.form.Form.{Form}
use Rattle.cull_report.specs.declared.form.Form.TheVariants as forms
use Rattle.group_query.specs.Hulls.{IsFormOf, grown, grown_hull, holding, hull_from, hull_of, is_seen, kept_hull, member_shapes, no_members, shapes_from, told_hull, turned, with_member}
use Rattle.group_query.specs.declared.grouping.Group.{Group}
use Rattle.group_query.specs.declared.hulls.Hull.{Hull}
use Rattle.group_query.proofs.HullMembers.{hull_from-append, own, some_members}

-- ---- a form

pub flat_grows : (size : Dimensions) (h : Option Hull) (r : Rect) (q : ℕ) → grown size h (flat_shape size r q) ≡ cond (meets r (screen_of size)) (Some (with_member h (cut_of r (screen_of size)) q)) h
flat_grows size h r q = by (meets r (screen_of size)) refl
  where
    by : (b : Bool) → meets r (screen_of size) ≡ b → grown size h (cond b (Flat r q) AlwaysOutside) ≡ cond b (Some (with_member h (cut_of r (screen_of size)) q)) h
    by true m = ap (λ (x : Bool). cond x (Some (with_member h (cut_of r (screen_of size)) q)) h) m
    by false m = refl

-- a mesh never counts
pub mesh_grows : (top near : ℕ) (size : Dimensions) (clips : List ClipVertex) (tris : List Tri) (h : Option Hull) → grown size h (mesh_shape top near size clips tris) ≡ h
unfolding mesh_shape
mesh_grows top near size clips tris h =
    by (at_each_vertex clips (is_behind near) tris) (at_some_vertex clips (λ v. is_past_guard v near) tris) (is_one_on_screen size (near_boxes near size clips tris))
  where
    by : (a b c : Bool) → grown size h (cond a AlwaysOutside (cond b AlwaysVisible (cond c (Pieces (object_pieces top near size clips tris) (boxes_hull (near_boxes near size clips tris))) AlwaysOutside))) ≡ h
    by true b c = refl
    by false true c = refl
    by false false true = refl
    by false false false = refl

-- a rectangle without a pixel in the screen stands for what is outside
pub unseen_outside : (s : Parts) (frame : ℕ) (form : Form) → is_seen (size_of s) form ≡ false → shape_of_form s frame form ≡ AlwaysOutside
unseen_outside s frame forms.Outside e = refl
unseen_outside s frame forms.Visible e = absurd cc
unseen_outside s frame (forms.Flat r q) e = ap (λ (b : Bool). cond b (Flat r q) AlwaysOutside) e
unseen_outside s frame (forms.Mesh first count) e = absurd cc

-- ---- hulls that are kept

abbrev pub a_rect : ℤ → ℤ → ℤ → ℤ → Rect
a_rect x0 y0 x1 y1 = record { x0 = x0; y0 = y0; x1 = x1; y1 = y1 }

abbrev pub a_hull : Rect → ℕ → ℕ → Hull
a_hull rect q members = record { rect = rect; q = q; members = members }

rects_alike : (x0 y0 x1 y1 a0 b0 a1 b1 : ℤ) → x0 ≡ a0 → y0 ≡ b0 → x1 ≡ a1 → y1 ≡ b1 → a_rect x0 y0 x1 y1 ≡ a_rect a0 b0 a1 b1
rects_alike x0 y0 x1 y1 a0 b0 a1 b1 e f g h = rw (e, f, g, h) refl

hulls_alike : (r s : Rect) (p q m n : ℕ) → r ≡ s → p ≡ q → m ≡ n → a_hull r p m ≡ a_hull s q n
hulls_alike r s p q m n e f g = rw (e, f, g) refl

-- a side of the screen is past those of an area in it
low_side : (a b w : ℤ) → int_lt (int_max a (pos 0)) (int_min b w) ≡ true → int_min w (int_max a (pos 0)) ≡ int_max a (pos 0)
low_side a b w e = grind (arith, ints)

high_side : (a b w : ℤ) → int_lt (int_max a (pos 0)) (int_min b w) ≡ true → int_max (pos 0) (int_min b w) ≡ int_min b w
high_side a b w e = grind (arith, ints)

turned_common : (size : Dimensions) (r : Rect) → meets r (screen_of size) ≡ true → holding (turned size) (common r (screen_of size)) ≡ common r (screen_of size)
turned_common size r m =
    let w : ℤ = pos size.width in let h : ℤ = pos size.height in
    let (across, down) = and_parts (int_lt (int_max r.x0 (pos 0)) (int_min r.x1 w)) (int_lt (int_max r.y0 (pos 0)) (int_min r.y1 h)) m in
    rects_alike (int_min w (int_max r.x0 (pos 0))) (int_min h (int_max r.y0 (pos 0))) (int_max (pos 0) (int_min r.x1 w)) (int_max (pos 0) (int_min r.y1 h))
    (int_max r.x0 (pos 0)) (int_max r.y0 (pos 0)) (int_min r.x1 w) (int_min r.y1 h)
    (low_side r.x0 r.x1 w across) (low_side r.y0 r.y1 h down) (high_side r.x0 r.x1 w across) (high_side r.y0 r.y1 h down)

turned_cut : (size : Dimensions) (r : Rect) → meets r (screen_of size) ≡ true → holding (turned size) (cut_of r (screen_of size)) ≡ cut_of r (screen_of size)
turned_cut size r m =
    let e : cut_of r (screen_of size) ≡ common r (screen_of size) = ap (λ (b : Bool). cond b (common r (screen_of size)) no_pixels) m in
    ap (holding (turned size)) e ∙ turned_common size r m ∙ sym e

none_nearer : (q : ℕ) → max 0 q ≡ q
none_nearer q = omega arith

-- the first member that counts
first_kept : (size : Dimensions) (o : Option Hull) (r : Rect) (q : ℕ) → meets r (screen_of size) ≡ true
    → with_member (Some (kept_hull size o)) (cut_of r (screen_of size)) q ≡ with_member o (cut_of r (screen_of size)) q
first_kept size None r q m =
    hulls_alike (holding (turned size) (cut_of r (screen_of size))) (cut_of r (screen_of size)) (max 0 q) q (0 + 1) 1 (turned_cut size r m) (none_nearer q) (omega arith)
first_kept size (Some h) r q m = refl

-- what is kept of one member more
pub grown_kept : (s : Parts) (frame : ℕ) (o : Option Hull) (form : Form) → is_seen (size_of s) form ≡ true
    → grown_hull (size_of s) (kept_hull (size_of s) o) form ≡ kept_hull (size_of s) (grown (size_of s) o (shape_of_form s frame form))
grown_kept s frame o forms.Outside e = refl
grown_kept s frame o forms.Visible e = refl
grown_kept s frame o (forms.Flat r q) e =
    let size = size_of s in
    let area = cut_of r (screen_of size) in
    let more : grown size o (flat_shape size r q) ≡ Some (with_member o area q) = flat_grows size o r q ∙ ap (λ (b : Bool). cond b (Some (with_member o area q)) o) e in
    first_kept size o r q e ∙ sym (ap (kept_hull size) more)
grown_kept s frame o (forms.Mesh first count) e =
    sym (ap (kept_hull (size_of s)) (mesh_grows (top_of s.grade) s.near (size_of s) (frame_clips s frame) (range_of s.object_tris first count) o))

-- what is kept of no members, and of some
kept_nothing : (size : Dimensions) (o : Option Hull) (h : Hull) → IfSome o (λ a. 0 < a.members) → h ≡ kept_hull size o → h.members ≡ 0 → h ≡ no_members size
kept_nothing size None h some e none = e
kept_nothing size (Some a) h some e none = let lt : 0 < a.members = some in let same = ap (λ (x : Hull). x.members) e in absurd (omega (arith, lt, same, none))

pub kept_something : (size : Dimensions) (o : Option Hull) (h : Hull) → h ≡ kept_hull size o → 0 < h.members → o ≡ Some h
kept_something size None h e some = let same = ap (λ (x : Hull). x.members) e in absurd (omega (arith, some, same))
kept_something size (Some a) h e some = ap Some (sym e)

-- of one member that counts its area and its nearness are kept
pub kept_alone : (size : Dimensions) (o : Option Hull) (h : Hull) (r : Rect) (q : ℕ) → IfSome o (λ a. 0 < a.members) → h ≡ kept_hull size o → h.members ≡ 0 → meets r (screen_of size) ≡ true
    → with_member (Some h) (cut_of r (screen_of size)) q ≡ own size r q
kept_alone size o h r q some e none m = ap (λ (x : Hull). with_member (Some x) (cut_of r (screen_of size)) q) (kept_nothing size o h some e none) ∙ first_kept size None r q m

pub grown_hull_few : (size : Dimensions) (h : Hull) (form : Form) → (grown_hull size h form).members ≤ h.members + 1
grown_hull_few size h forms.Outside = omega arith
grown_hull_few size h forms.Visible = omega arith
grown_hull_few size h (forms.Flat r q) = omega arith
grown_hull_few size h (forms.Mesh first count) = omega arith

above_none : (n : ℕ) → 0 < n → nat_lt 0 n ≡ true
above_none n lt = grind (arith, nat_tests)

told_kept : (size : Dimensions) (o : Option Hull) → IfSome o (λ h. 0 < h.members) → told_hull (kept_hull size o) ≡ o
told_kept size None some = refl
told_kept size (Some h) some = let tell : Bool → Option Hull = λ b. cond b (Some h) None in ap tell (above_none h.members some)

-- what is kept of all members tells their hull
pub told_of : (s : Parts) (frame : ℕ) (g : Group) (h : Hull) → h ≡ kept_hull (size_of s) (hull_of s frame g) → told_hull h ≡ hull_of s frame g
told_of s frame g h e = ap told_hull e ∙ told_kept (size_of s) (hull_of s frame g) (some_members (size_of s) None (member_shapes s frame g) tt)

-- ---- objects from a first on

hull_from-push : (size : Dimensions) (h : Option Hull) (xs : List Shape) (y : Shape) → hull_from size h (xs ++ y ∷ []) ≡ grown size (hull_from size h xs) y
hull_from-push size h xs y = hull_from-append size h xs (y ∷ [])

pub shapes_more : (s : Parts) (frame first k : ℕ) (d : Object) → first + k < length s.objects → shapes_from s frame first (k + 1) ≡ shapes_from s frame first k ++ object_shape s frame (get_or s.objects (first + k) d) ∷ []
shapes_more s frame first k d lt =
    let rest = drop first s.objects in
    let f = object_shape s frame in
    let below : k < length rest = omega (arith, lt, length-drop first s.objects) in
    ap (map f) (take_more rest k d below) ∙ map_push f (take k rest) (get_or rest k d) ∙ ap (λ (o : Object). map f (take k rest) ++ f o ∷ []) (get_or-drop first s.objects k d)

-- the hull of one object more
pub hull_more : (s : Parts) (frame first k : ℕ) (d : Object) (front h : Option Hull) (shape : Shape) → first + k < length s.objects → h ≡ hull_from (size_of s) front (shapes_from s frame first k)
    → shape ≡ object_shape s frame (get_or s.objects (first + k) d) → grown (size_of s) h shape ≡ hull_from (size_of s) front (shapes_from s frame first (k + 1))
hull_more s frame first k d front h shape lt is own =
    let size = size_of s in
    let xs = shapes_from s frame first k in
    let y = object_shape s frame (get_or s.objects (first + k) d) in
    ap (grown size h) own ∙ ap (λ (o : Option Hull). grown size o y) is ∙ sym (hull_from-push size front xs y) ∙ ap (hull_from size front) (sym (shapes_more s frame first k d lt))

pub kept_more : (s : Parts) (frame first k : ℕ) (d : Object) (front : Option Hull) (h : Hull) (form : Form) → first + k < length s.objects
    → h ≡ kept_hull (size_of s) (hull_from (size_of s) front (shapes_from s frame first k)) → IsFormOf s frame (first + k) form
    → grown_hull (size_of s) h form ≡ kept_hull (size_of s) (hull_from (size_of s) front (shapes_from s frame first (k + 1)))
kept_more s frame first k d front h form lt is own =
    let size = size_of s in
    let so_far = hull_from size front (shapes_from s frame first k) in
    ap (λ (x : Hull). grown_hull size x form) is ∙ grown_kept s frame so_far form own.seen
    ∙ ap (kept_hull size) (hull_more s frame first k d front so_far (shape_of_form s frame form) lt refl (own.own d))

-- the hull of some and then of the others
pub hull_in_two : (s : Parts) (frame first k count : ℕ) (front : Option Hull) → k ≤ count
    → hull_from (size_of s) (hull_from (size_of s) front (shapes_from s frame first k)) (shapes_from s frame (first + k) (count - k)) ≡ hull_from (size_of s) front (shapes_from s frame first count)
hull_in_two s frame first k count front le =
    let size = size_of s in let f = object_shape s frame in
    let rest = drop first s.objects in
    let m = count - k in
    let whole : k + m ≡ count = omega (arith, le) in
    let split : map f (take (k + m) rest) ≡ map f (take k rest) ++ map f (take m (drop (first + k) s.objects)) =
    ap (map f) (take-add k m rest) ∙ map-append f (take k rest) (take m (drop k rest)) ∙ ap (λ (os : List Object). map f (take k rest) ++ map f (take m os)) (drop-drop k first s.objects) in
    sym (hull_from-append size front (map f (take k rest)) (map f (take m (drop (first + k) s.objects)))) ∙ ap (hull_from size front) (sym split ∙ ap (λ (n : ℕ). map f (take n rest)) whole)

-- the hull of a group, from what is kept of its members one after the other
pub whole_hull : (s : Parts) (frame : ℕ) (g : Group) (size : Dimensions) (none h : Hull) (told : Option Hull) → size ≡ size_of s → none ≡ no_members size
    → ((o : Option Hull) → none ≡ kept_hull (size_of s) o → h ≡ kept_hull (size_of s) (hull_from (size_of s) o (member_shapes s frame g))) → told ≡ told_hull h → told ≡ hull_of s frame g
whole_hull s frame g size none h told of_scene is grows tells = tells ∙ told_of s frame g h (grows None (is ∙ ap no_members of_scene))

-- ---- a member of a group

-- its place among the shapes of the members
pub shape_below : (s : Parts) (frame : ℕ) (g : Group) (o : ℕ) → g.first ≤ o → o < g.first + g.count → o < length s.objects → o - g.first < length (member_shapes s frame g)
shape_below s frame g o from below lt =
    let rest = drop g.first s.objects in
    omega (arith, from, below, lt, length-map (take g.count rest) (object_shape s frame), length-take g.count rest, length-drop g.first s.objects)

pub shape_at : (s : Parts) (frame : ℕ) (g : Group) (o : ℕ) (d : Object) (e : Shape) → g.first ≤ o → o < g.first + g.count → o < length s.objects
    → get_or (member_shapes s frame g) (o - g.first) e ≡ object_shape s frame (get_or s.objects o d)
shape_at s frame g o d e from below lt =
    let f = object_shape s frame in
    let rest = drop g.first s.objects in
    let k = o - g.first in
    let less : k < g.count = omega (arith, from, below) in
    let there : k < length (take g.count rest) = omega (arith, from, below, lt, length-take g.count rest, length-drop g.first s.objects) in
    let back : g.first + k ≡ o = omega (arith, from) in
    get_or-map f (take g.count rest) k d e there ∙ ap f (get_or-take g.count rest k d less ∙ get_or-drop g.first s.objects k d ∙ ap (λ (n : ℕ). get_or s.objects n d) back)

-- the shape of an object by its form
pub shape_of_flat : (s : Parts) (frame o : ℕ) (d : Object) (r : Rect) (q : ℕ) → IsFormOf s frame o (forms.Flat r q) → object_shape s frame (get_or s.objects o d) ≡ Flat r q
shape_of_flat s frame o d r q own = sym (own.own d) ∙ ap (λ (b : Bool). cond b (Flat r q) AlwaysOutside) own.seen
