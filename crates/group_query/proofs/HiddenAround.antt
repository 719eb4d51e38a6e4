-- Why boxes in a box that is hidden in the screen are occluded, and their hull is.
use Rattle.std.proofs.Common.{◌≡◌, ℕ, ℤ, suc, pos, ◌+◌, ◌-◌, ◌<◌, ◌≤◌, ◌≤ℤ◌, ◌<ℤ◌, Bool, true, ◌&&◌, cond, List, [], ◌∷◌, length, take, drop, get_or, Option, Some, None, int_lt, int_le, arith, refl, sym, ap, ◌∙◌, subst}
use Rattle.std.specs.Int.{int_min, int_max}
use Rattle.std.proofs.lemmas.Bool.{and_parts}
use Rattle.std.proofs.lemmas.Int.{ints, clamps}
use Rattle.std.proofs.lemmas.List.{length-drop, length-map, length-take}
use Rattle.cull_base.specs.declared.place.Sub.{Sub}
use Rattle.cull_base.specs.declared.rect.Rect.{Rect}
use Rattle.cull_base.specs.declared.scene_types.Object.{Object}
use Rattle.cull_base.specs.declared.scene_types.Object.TheVariants.{Area, Block, Mesh}
use Rattle.cull_base.specs.declared.scene_types.Verdict.{Verdict}
use Rattle.cull_base.specs.declared.scene_types.Verdict.TheVariants.{Occluded}
use Rattle.cull_base.specs.Rectangle.{common, cut_of, meets, no_pixels}
use Rattle.cull_base.specs.Screen.{Dimensions, screen_of}
use Rattle.cull_base.specs.Shape.{Shape, AlwaysOutside, AlwaysVisible, Flat, Pieces, flat_shape, verdict_of}
use Rattle.cull_base.specs.State.{State}
use Rattle.cull_base.proofs.HiddenObjects.{occluded_is_hidden}
use Rattle.cull_base.proofs.Rectangles.{meets_pixel}
use Rattle.edge_lanes.proofs.Floors.{le_of}
use Rattle.masked_update.specs.TileOf.{TileOf}
use Rattle.masked_update.specs.Views.{state_in}
use Rattle.rect_query.specs.Boxes.{shape_of_answer}
use Rattle.rect_query.specs.declared.boxes.BoxAnswer.{BoxAnswer}
use Rattle.rect_query.specs.declared.boxes.BoxAnswer.TheVariants.{Outside, Straddles, At}
use Rattle.rect_query.proofs.Hiding.{flat_tested}
use Rattle.scene_reader.specs.Layout.{Parts}
use Rattle.cull_report.specs.Scene.{object_shape, object_verdict, size_of}
use Rattle.cull_report.specs.Text.{is_occluded}
use Rattle.cull_report.specs.declared.tally.Tally.{Tally}
use Rattle.group_query.specs.Around.{AreBoxesInside, IsAnswerAround, IsBoxInside, IsPart, StandsIn, box_stands, is_in_screen}
use Rattle.group_query.specs.Hidden.{group_tally, hull_verdict, is_hidden_group}
use Rattle.group_query.specs.Hulls.{IsOneMembers, counted, counts, hull_of, member_shapes, members_of}
use Rattle.group_query.specs.declared.around.Around.{Around}
use Rattle.group_query.specs.declared.grouping.Group.{Group}
use Rattle.group_query.specs.declared.hulls.Hull.{Hull}
use Rattle.group_query.proofs.FormHulls.{shape_at}
use Rattle.group_query.proofs.HiddenHulls.{Covers, covered_hidden, cut_meets, flat_hidden, flat_there, from_pixel, occluded_is, to_pixel}
use Rattle.group_query.proofs.HullMembers.{holds_member, members_are}
use Rattle.group_query.proofs.TightHulls.{hulls_are_tight}

-- ---- parts of a rectangle in the screen

pub record InScreen (size : Dimensions) (r : Rect) : Type 0 where
  pub x0 : pos 0 ≤ℤ r.x0
  pub y0 : pos 0 ≤ℤ r.y0
  pub x1 : r.x1 ≤ℤ pos size.width
  pub y1 : r.y1 ≤ℤ pos size.height

pub in_screen : (size : Dimensions) (r : Rect) → is_in_screen size r ≡ true → InScreen size r
in_screen size r e =
    let (from, to) = and_parts (int_le (pos 0) r.x0 && int_le (pos 0) r.y0) (int_le r.x1 (pos size.width) && int_le r.y1 (pos size.height)) e in
    let (left, above) = and_parts (int_le (pos 0) r.x0) (int_le (pos 0) r.y0) from in
    let (right, below) = and_parts (int_le r.x1 (pos size.width)) (int_le r.y1 (pos size.height)) to in
    record { x0 = le_of _ _ left; y0 = le_of _ _ above; x1 = le_of _ _ right; y1 = le_of _ _ below }

axis_meets : (a b c d : ℤ) (w : ℕ) → pos 0 ≤ℤ c → c ≤ℤ a → a <ℤ b → b ≤ℤ d → d ≤ℤ pos w → int_lt (int_max a (pos 0)) (int_min b (pos w)) ≡ true
axis_meets a b c d w f g h i j = grind (arith, ints)

part_meets : (size : Dimensions) (r around : Rect) → IsPart r around → InScreen size around → meets r (screen_of size) ≡ true
part_meets size r around part on =
    let across = axis_meets r.x0 r.x1 around.x0 around.x1 size.width on.x0 part.left part.wide part.right on.x1 in
    let down = axis_meets r.y0 r.y1 around.y0 around.y1 size.height on.y0 part.above part.high part.below on.y1 in
    rw (across, down) refl

-- a shape is a part of a rectangle, and no nearer
abbrev pub IsPartShape : Rect → ℕ → Shape → Type 0
IsPartShape around q AlwaysOutside = ⊥
IsPartShape around q AlwaysVisible = ⊥
IsPartShape around q (Flat r n) = IsPart r around × (n ≤ q)
IsPartShape around q (Pieces ps hull) = ⊥

answer_part : (size : Dimensions) (around : Rect) (q : ℕ) (answer : BoxAnswer) → InScreen size around → StandsIn around q answer → IsPartShape around q (shape_of_answer size answer)
answer_part size around q Outside on h = absurd h
answer_part size around q Straddles on h = absurd h
answer_part size around q (At r n) on h = subst (IsPartShape around q) (sym (flat_there size r n (part_meets size r around h.0 on))) h

object_part : (s : Parts) (frame : ℕ) (a : Around) (around : Rect) (q : ℕ) (o : Object) → IsAnswerAround s frame a (At around q) → InScreen (size_of s) around → IsBoxInside a o
    → IsPartShape around q (object_shape s frame o)
unfolding object_shape
object_part s frame a around q (Area r w) answer on h = absurd h
object_part s frame a around q (Block low high) answer on h = answer_part (size_of s) around q (box_stands s frame low high) on (answer low high h.0 h.1)
object_part s frame a around q (Mesh first count) answer on h = absurd h

no_less : (a b c : ℤ) → a ≤ℤ b → b ≤ℤ c → a ≤ℤ c
no_less a b c f g = omega (arith, ints, f, g)

still_less : (a b c : ℤ) → a <ℤ b → b ≤ℤ c → a <ℤ c
still_less a b c f g = omega (arith, ints, f, g)

part_covers : (size : Dimensions) (around r : Rect) → IsPart r around → Covers size around r
part_covers size around r part px py x y e =
    let p = to_pixel r px py e in
    from_pixel around px py (no_less _ _ _ part.left p.0, still_less _ _ _ p.1 part.right, no_less _ _ _ part.above p.2, still_less _ _ _ p.3 part.below)

-- it is occluded where the rectangle is
part_occluded : (size : Dimensions) (f : Sub → State) (around : Rect) (q : ℕ) (shape : Shape) → InScreen size around → verdict_of size f (flat_shape size around q) ≡ Occluded → IsPartShape around q shape
    → verdict_of size f shape ≡ Occluded
part_occluded size f around q AlwaysOutside on v h = absurd h
part_occluded size f around q AlwaysVisible on v h = absurd h
part_occluded size f around q (Flat r n) on v h =
    let m = part_meets size r around h.0 on in
    let hidden = flat_hidden size f around q (occluded_is_hidden size f (flat_shape size around q) v) in
    sym (ap (verdict_of size f) (flat_there size r n m)) ∙ flat_tested size r n f true m (covered_hidden size f around r q n (part_covers size around r h.0) h.1 m hidden)
part_occluded size f around q (Pieces ps hull) on v h = absurd h

-- ---- groups of boxes in a box

-- what is known of a group whose boxes are in a box that is hidden in the screen
pub record HidesAround (s : Parts) (frame : ℕ) (f : Sub → State) (g : Group) (a : Around) (around : Rect) (q : ℕ) : Type 0 where
  pub some : 0 < g.count
  pub within : g.first + g.count ≤ length s.objects
  pub boxes : AreBoxesInside a s.objects g.first g.count
  pub answer : IsAnswerAround s frame a (At around q)
  pub on : InScreen (size_of s) around
  pub hidden : verdict_of (size_of s) f (flat_shape (size_of s) around q) ≡ Occluded

pub hides_around : (s : Parts) (frame : ℕ) (tile_of : ℕ → TileOf) (g : Group) (a : Around) (size : Dimensions) (answer : BoxAnswer) (around : Rect) (q : ℕ) (verdict : Verdict) → size ≡ size_of s → 0 < g.count
    → g.first + g.count ≤ length s.objects → AreBoxesInside a s.objects g.first g.count → IsAnswerAround s frame a answer → answer ≡ At around q → is_in_screen size around ≡ true
    → verdict ≡ verdict_of size (state_in size tile_of) (flat_shape size around q) → is_occluded verdict ≡ true → HidesAround s frame (state_in (size_of s) tile_of) g a around q
hides_around s frame tile_of g a size answer around q verdict e some within boxes stands is on tested told = record {
  some = some;
  within = within;
  boxes = boxes;
  answer = subst (IsAnswerAround s frame a) is stands;
  on = in_screen (size_of s) around (ap (λ (d : Dimensions). is_in_screen d around) (sym e) ∙ on);
  hidden = ap (λ (d : Dimensions). verdict_of d (state_in d tile_of) (flat_shape d around q)) (sym e) ∙ sym tested ∙ occluded_is verdict told;
}

pub member_around : (s : Parts) (frame : ℕ) (f : Sub → State) (g : Group) (a : Around) (around : Rect) (q : ℕ) (k : ℕ) (o : Object) → HidesAround s frame f g a around q → k < g.count
    → object_verdict s frame f (get_or s.objects (g.first + k) o) ≡ Occluded
member_around s frame f g a around q k o h lt =
    let it = get_or s.objects (g.first + k) o in
    part_occluded (size_of s) f around q (object_shape s frame it) h.on h.hidden (object_part s frame a around q it h.answer h.on (h.boxes k o lt))

shape_count : (s : Parts) (frame : ℕ) (g : Group) → g.first + g.count ≤ length s.objects → length (member_shapes s frame g) ≡ g.count
shape_count s frame g within =
    let rest = drop g.first s.objects in
    omega (arith, within, length-map (take g.count rest) (object_shape s frame), length-take g.count rest, length-drop g.first s.objects)

shape_part : (s : Parts) (frame : ℕ) (f : Sub → State) (g : Group) (a : Around) (around : Rect) (q : ℕ) (k : ℕ) → HidesAround s frame f g a around q → k < length (member_shapes s frame g)
    → IsPartShape around q (get_or (member_shapes s frame g) k AlwaysOutside)
shape_part s frame f g a around q k h lt =
    let below : k < g.count = omega (arith, lt, shape_count s frame g h.within) in
    let it = get_or s.objects (g.first + k) (Mesh 0 0) in
    let at = shape_at s frame g (g.first + k) (Mesh 0 0) AlwaysOutside (omega arith) (omega (arith, below)) (omega (arith, below, h.within)) in
    let same : (g.first + k) - g.first ≡ k = omega arith in
    let own : get_or (member_shapes s frame g) k AlwaysOutside ≡ object_shape s frame it = sym (ap (λ (n : ℕ). get_or (member_shapes s frame g) n AlwaysOutside) same) ∙ at in
    subst (IsPartShape around q) (sym own) (object_part s frame a around q it h.answer h.on (h.boxes k (Mesh 0 0) below))

-- each member counts
abbrev one_if : Bool → ℕ
one_if b = cond b 1 0

part_counts : (size : Dimensions) (around : Rect) (q : ℕ) (shape : Shape) → InScreen size around → IsPartShape around q shape → one_if (counts size shape) ≡ 1
part_counts size around q AlwaysOutside on h = absurd h
part_counts size around q AlwaysVisible on h = absurd h
part_counts size around q (Flat r n) on h = ap one_if (part_meets size r around h.0 on)
part_counts size around q (Pieces ps hull) on h = absurd h

all_count : (size : Dimensions) (around : Rect) (q : ℕ) (shapes : List Shape) → InScreen size around → ((k : ℕ) → k < length shapes → IsPartShape around q (get_or shapes k AlwaysOutside))
    → counted size shapes ≡ length shapes
all_count size around q [] on h = refl
all_count size around q (shape ∷ shapes) on h =
    let first = part_counts size around q shape on (h 0 (omega arith)) in
    let rest = all_count size around q shapes on (λ k lt. h (suc k) (omega (arith, lt))) in
    omega (arith, first, rest)

-- ---- their hull

-- a side of the area of a member is one of a part
record IsMemberPart (around : Rect) (q : ℕ) (m : Hull) : Type 0 where
  x0 : around.x0 ≤ℤ m.rect.x0
  y0 : around.y0 ≤ℤ m.rect.y0
  x1 : m.rect.x1 ≤ℤ around.x1
  y1 : m.rect.y1 ≤ℤ around.y1
  near : m.q ≤ q

more : (a b : ℤ) → a ≤ℤ b → a ≤ℤ int_max b (pos 0)
more a b h = omega (arith, ints, clamps, h)

less : (a b w : ℤ) → b ≤ℤ a → int_min b w ≤ℤ a
less a b w h = omega (arith, ints, clamps, h)

own_part : (size : Dimensions) (around r : Rect) (q n : ℕ) (m : Hull) → IsPart r around → n ≤ q → meets r (screen_of size) ≡ true → m ≡ record { rect = cut_of r (screen_of size); q = n; members = 1 }
    → IsMemberPart around q m
own_part size around r q n m part le met e =
    let is : cut_of r (screen_of size) ≡ common r (screen_of size) = ap (λ (b : Bool). cond b (common r (screen_of size)) no_pixels) met in
    let own : IsMemberPart around q (record { rect = common r (screen_of size); q = n; members = 1 }) = record {
      x0 = more around.x0 r.x0 part.left;
      y0 = more around.y0 r.y0 part.above;
      x1 = less around.x1 r.x1 (pos size.width) part.right;
      y1 = less around.y1 r.y1 (pos size.height) part.below;
      near = le;
    } in
    subst (IsMemberPart around q) (sym (e ∙ ap (λ (c : Rect). record { rect = c; q = n; members = 1 }) is)) own

one_part : (s : Parts) (frame : ℕ) (f : Sub → State) (g : Group) (a : Around) (around : Rect) (q : ℕ) (m : Hull) → HidesAround s frame f g a around q
    → IsOneMembers (size_of s) (member_shapes s frame g) m → IsMemberPart around q m
one_part s frame f g a around q m h one =
    let part = subst (IsPartShape around q) one.is (shape_part s frame f g a around q one.place h one.below) in
    own_part (size_of s) around one.rect q one.q m part.0 part.1 one.met one.own

hull_part : (s : Parts) (frame : ℕ) (f : Sub → State) (g : Group) (a : Around) (around : Rect) (q : ℕ) (h : Hull) → HidesAround s frame f g a around q → hull_of s frame g ≡ Some h
    → IsMemberPart around q h
hull_part s frame f g a around q h hides e =
    let tight = hulls_are_tight s frame g h e in
    let (ml, ol, el) = tight.left in let (mt, ot, et) = tight.top in let (mr, or, er) = tight.right in let (mb, ob, eb) = tight.bottom in let (mn, on, en) = tight.near in
    let l = one_part s frame f g a around q ml hides ol in let t = one_part s frame f g a around q mt hides ot in
    let r = one_part s frame f g a around q mr hides or in let b = one_part s frame f g a around q mb hides ob in
    let n = one_part s frame f g a around q mn hides on in
    record {
      x0 = omega (arith, ints, l.x0, el);
      y0 = omega (arith, ints, t.y0, et);
      x1 = omega (arith, ints, r.x1, er);
      y1 = omega (arith, ints, b.y1, eb);
      near = omega (arith, n.near, en);
    }

hull_covered : (size : Dimensions) (around : Rect) (q : ℕ) (h : Hull) → IsMemberPart around q h → Covers size around h.rect
hull_covered size around q h part px py x y e =
    let p = to_pixel h.rect px py e in
    from_pixel around px py (omega (arith, ints, part.x0, p.0), omega (arith, ints, part.x1, p.1), omega (arith, ints, part.y0, p.2), omega (arith, ints, part.y1, p.3))

-- a hull has a pixel in the screen, that of its first member
hull_meets : (s : Parts) (frame : ℕ) (f : Sub → State) (g : Group) (a : Around) (around : Rect) (q : ℕ) (h : Hull) → HidesAround s frame f g a around q → hull_of s frame g ≡ Some h
    → meets h.rect (screen_of (size_of s)) ≡ true
hull_meets s frame f g a around q h hides e = by (get_or shapes 0 AlwaysOutside) refl (shape_part s frame f g a around q 0 hides lt)
  where
    shapes : List Shape
    shapes = member_shapes s frame g

    lt : 0 < length (member_shapes s frame g)
    lt = omega (arith, hides.some, shape_count s frame g hides.within)

    by : (shape : Shape) → get_or (member_shapes s frame g) 0 AlwaysOutside ≡ shape → IsPartShape around q shape → meets h.rect (screen_of (size_of s)) ≡ true
    by AlwaysOutside is p = absurd p
    by AlwaysVisible is p = absurd p
    by (Flat r n) is p =
        let size = size_of s in
        let met = part_meets size r around p.0 hides.on in
        let w = holds_member size None (member_shapes s frame g) 0 r n h lt is met e in
        let (x, y, inside, on) = (meets_pixel (cut_of r (screen_of size)) (screen_of size)).0 (cut_meets size r met) in
        (meets_pixel h.rect (screen_of size)).1 (x, y, w.pixels x y inside, on)
    by (Pieces ps hull) is p = absurd p

hull_around : (s : Parts) (frame : ℕ) (f : Sub → State) (g : Group) (a : Around) (around : Rect) (q : ℕ) (o : Option Hull) → HidesAround s frame f g a around q → hull_of s frame g ≡ o
    → (hull_verdict (size_of s) f o ≡ Occluded) × (members_of o ≡ g.count)
hull_around s frame f g a around q o hides e = by o e members
  where
    members : members_of o ≡ g.count
    members =
        let size = size_of s in
        let shapes = member_shapes s frame g in
        let all = all_count size around q shapes hides.on (λ k lt. shape_part s frame f g a around q k hides lt) in
        let so_many = ap members_of e in
        omega (arith, so_many, members_are size None shapes, all, shape_count s frame g hides.within)

    by : (p : Option Hull) → hull_of s frame g ≡ p → members_of p ≡ g.count → (hull_verdict (size_of s) f p ≡ Occluded) × (members_of p ≡ g.count)
    by None is m = absurd (omega (arith, m, hides.some))
    by (Some h) is m =
        let size = size_of s in
        let part = hull_part s frame f g a around q h hides is in
        let met = hull_meets s frame f g a around q h hides is in
        let hidden = flat_hidden size f around q (occluded_is_hidden size f (flat_shape size around q) hides.hidden) in
        (flat_tested size h.rect h.q f true met (covered_hidden size f around h.rect q h.q (hull_covered size around q h part) part.near met hidden), m)

one_group : ℕ → Tally
one_group members = record { hidden = 1; members = members }

pub group_around : (s : Parts) (frame : ℕ) (f : Sub → State) (g : Group) (a : Around) (around : Rect) (q : ℕ) → HidesAround s frame f g a around q
    → group_tally s frame f g ≡ record { hidden = 1; members = g.count }
unfolding one_group
group_around s frame f g a around q hides =
    let told = hull_around s frame f g a around q (hull_of s frame g) hides refl in
    let yes : is_hidden_group s frame f g ≡ true = ap is_occluded told.0 in
    rw yes (ap one_group told.1)
