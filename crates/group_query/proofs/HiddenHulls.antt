-- Why a member of a hidden group is occluded: its samples are among the hull's, and it is no nearer.
use Rattle.std.proofs.Common.{◌≡◌, ℕ, ℤ, pos, negsuc, ◌+◌, ◌-◌, ◌<◌, ◌≤◌, ◌≤ℤ◌, ◌<ℤ◌, Bool, true, false, ◌&&◌, ◌||◌, not, cond, nat_lt, length, get_or, Option, Some, None, arith, refl, sym, ap, ◌∙◌, subst, int_lt, int_le}
use Rattle.std.specs.Cmp.{both_ways}
use Rattle.std.proofs.lemmas.Bool.{and_parts, or_parts, false_from_ne_true, both_ways as not_both}
use Rattle.std.proofs.lemmas.Bool.Decides.{nat_tests}
use Rattle.std.proofs.lemmas.Int.{ints}
use Rattle.cull_base.specs.declared.place.Sub.{Sub}
use Rattle.cull_base.specs.declared.rect.Rect.{Rect}
use Rattle.cull_base.specs.declared.scene_types.Object.{Object}
use Rattle.cull_base.specs.declared.scene_types.Verdict.{Verdict}
use Rattle.cull_base.specs.declared.scene_types.Verdict.TheVariants.{Visible, Occluded, Outside}
use Rattle.cull_base.specs.Rectangle.{HasPixel, meets, cut_of}
use Rattle.cull_base.specs.Screen.{Dimensions, screen_of}
use Rattle.cull_base.specs.Pixels.{sub_of_pixel, sample_of_pixel, has_pixel}
use Rattle.cull_base.specs.Shape.{Shape, AlwaysOutside, AlwaysVisible, Flat, Pieces, flat_shape, is_hidden, verdict_of}
use Rattle.cull_base.specs.State.{State, bound_at}
use Rattle.cull_base.proofs.HiddenObjects.{hidden_each, hidden_if, hidden_some, occluded_is_hidden}
use Rattle.cull_base.proofs.Rectangles.{cut_pixels, meets_pixel}
use Rattle.rect_query.proofs.Areas.{held_axis}
use Rattle.rect_query.proofs.Hiding.{flat_tested}
use Rattle.scene_reader.specs.Layout.{Parts}
use Rattle.cull_report.specs.Scene.{object_shape, object_verdict, size_of}
use Rattle.cull_report.specs.Text.{is_occluded}
use Rattle.cull_report.specs.declared.form.Form.{Form}
use Rattle.cull_report.specs.declared.form.Form.TheVariants as forms
use Rattle.cull_report.specs.declared.tally.Tally.{Tally}
use Rattle.group_query.specs.Hidden.{HidesMembers, IsKept, IsTested, group_tally, group_verdict, hull_verdict, is_hidden_group, is_shown, members_hidden, one_hidden}
use Rattle.group_query.specs.Hulls.{IsFormOf, counted, counts, grown_hull, hull_from, hull_of, kept_hull, member_shapes, members_of, no_members, shapes_from}
use Rattle.group_query.specs.declared.grouping.Group.{Group}
use Rattle.group_query.specs.declared.hulls.Hull.{Hull}
use Rattle.group_query.specs.declared.tested.Kept.{Kept}
use Rattle.group_query.specs.declared.tested.Tested.{Tested}
use Rattle.group_query.proofs.FormHulls.{hull_in_two, kept_alone, kept_more, kept_something, shape_at, shape_below, shape_of_flat}
use Rattle.group_query.proofs.HullMembers.{IsWithin, holds_member, members_are, none_counted, one_member, own, some_members}
use Rattle.group_query.proofs.Totals.{taken}

-- ---- pixels of the screen

axis_from : (a0 a1 : ℤ) (p : ℕ) → a0 ≤ℤ pos p → pos p <ℤ a1 → (int_le a0 (pos p) && int_lt (pos p) a1) ≡ true
axis_from a0 a1 p h k = grind (arith, ints)

pub to_pixel : (r : Rect) (px py : ℕ) → has_pixel r px py ≡ true → HasPixel r (pos px) (pos py)
to_pixel r px py e =
    let both = and_parts (int_le r.x0 (pos px) && int_lt (pos px) r.x1) (int_le r.y0 (pos py) && int_lt (pos py) r.y1) e in
    let h = held_axis r.x0 r.x1 px both.0 in let v = held_axis r.y0 r.y1 py both.1 in
    (h.0, h.1, v.0, v.1)

pub from_pixel : (r : Rect) (px py : ℕ) → HasPixel r (pos px) (pos py) → has_pixel r px py ≡ true
from_pixel r px py p = let h = axis_from r.x0 r.x1 px p.0 p.1 in let v = axis_from r.y0 r.y1 py p.2 p.3 in rw (h, v) refl

on_screen : (size : Dimensions) (px py : ℕ) → px < size.width → py < size.height → HasPixel (screen_of size) (pos px) (pos py)
on_screen size px py x y = (omega (arith, ints), omega (arith, ints, x), omega (arith, ints), omega (arith, ints, y))

-- a number that isn't negative
natural : (z : ℤ) → pos 0 ≤ℤ z → (n : ℕ) × (z ≡ pos n)
natural (pos n) h = (n, refl)
natural (negsuc n) h = absurd (omega (arith, ints, h))

-- a rectangle with a pixel in the screen has one there
some_pixel_of : (r : Rect) (size : Dimensions) → meets r (screen_of size) ≡ true → (px : ℕ) × (py : ℕ) × (px < size.width) × (py < size.height) × (has_pixel r px py ≡ true)
some_pixel_of r size m =
    let (x, y, p, q) = (meets_pixel r (screen_of size)).0 m in
    let (px, ex) = natural x q.0 in
    let (py, ey) = natural y q.2 in
    let there : HasPixel r (pos px) (pos py) = subst (λ (v : ℤ). HasPixel r v (pos py)) ex (subst (λ (v : ℤ). HasPixel r x v) ey p) in
    let across : pos px <ℤ pos size.width = subst (λ (v : ℤ). v <ℤ pos size.width) ex q.1 in
    let down : pos py <ℤ pos size.height = subst (λ (v : ℤ). v <ℤ pos size.height) ey q.3 in
    (px, py, omega (arith, ints, across), omega (arith, ints, down), from_pixel r px py there)

-- ---- one rectangle within another that is as near

less_near : (q n b : ℕ) → q ≤ n → nat_lt n b ≡ true → nat_lt q b ≡ true
less_near q n b le e = grind (arith, nat_tests)

-- each pixel of a rectangle in the screen is one of another
abbrev pub Covers : Dimensions → Rect → Rect → Type 0
Covers size a b = (px py : ℕ) → px < size.width → py < size.height → has_pixel b px py ≡ true → has_pixel a px py ≡ true

pub covered_hidden : (size : Dimensions) (f : Sub → State) (a b : Rect) (n q : ℕ) → Covers size a b → q ≤ n → meets b (screen_of size) ≡ true → is_hidden size f (Flat a n) ≡ true → is_hidden size f (Flat b q) ≡ true
covered_hidden size f a b n q covers le m hidden =
    let (px, py, x, y, has) = some_pixel_of b size m in
    hidden_if size f (Flat b q) px py x y has
    (λ i j u v one. less_near q n (bound_at (f (sub_of_pixel i j)) (sample_of_pixel i j)) le (hidden_each size f (Flat a n) hidden i j u v (covers i j u v one)))

-- a hull covers its members
within_covers : (size : Dimensions) (h : Hull) (r : Rect) (q : ℕ) → IsWithin (own size r q) h → Covers size h.rect r
within_covers size h r q w px py x y e =
    let there = (cut_pixels r (screen_of size) (pos px) (pos py)).1 (to_pixel r px py e, on_screen size px py x y) in
    from_pixel h.rect px py (w.pixels (pos px) (pos py) there)

pub flat_hidden : (size : Dimensions) (f : Sub → State) (r : Rect) (q : ℕ) → is_hidden size f (flat_shape size r q) ≡ true → is_hidden size f (Flat r q) ≡ true
flat_hidden size f r q e = by (meets r (screen_of size)) e
  where
    by : (b : Bool) → is_hidden size f (cond b (Flat r q) AlwaysOutside) ≡ true → is_hidden size f (Flat r q) ≡ true
    by true g = g
    by false g = let (px, py, x, y, has) = hidden_some size f AlwaysOutside g in absurd cc

pub member_occluded : (size : Dimensions) (f : Sub → State) (h : Hull) (r : Rect) (q : ℕ) → IsWithin (own size r q) h → meets r (screen_of size) ≡ true
    → verdict_of size f (flat_shape size h.rect h.q) ≡ Occluded → verdict_of size f (flat_shape size r q) ≡ Occluded
member_occluded size f h r q w m e =
    let hull = flat_hidden size f h.rect h.q (occluded_is_hidden size f (flat_shape size h.rect h.q) e) in
    flat_tested size r q f true m (covered_hidden size f h.rect r h.q q (within_covers size h r q w) w.nearness m hull)

-- ---- a rectangle cut to the screen

pub cut_meets : (size : Dimensions) (r : Rect) → meets r (screen_of size) ≡ true → meets (cut_of r (screen_of size)) (screen_of size) ≡ true
cut_meets size r m =
    let (x, y, p, q) = (meets_pixel r (screen_of size)).0 m in
    (meets_pixel (cut_of r (screen_of size)) (screen_of size)).1 (x, y, (cut_pixels r (screen_of size) x y).1 (p, q), q)

covers_cut : (size : Dimensions) (r : Rect) → Covers size r (cut_of r (screen_of size))
covers_cut size r px py x y e = from_pixel r px py ((cut_pixels r (screen_of size) (pos px) (pos py)).0 (to_pixel (cut_of r (screen_of size)) px py e)).0

cut_covers : (size : Dimensions) (r : Rect) → Covers size (cut_of r (screen_of size)) r
cut_covers size r px py x y e = from_pixel (cut_of r (screen_of size)) px py ((cut_pixels r (screen_of size) (pos px) (pos py)).1 (to_pixel r px py e, on_screen size px py x y))

pub cut_verdict : (size : Dimensions) (f : Sub → State) (r : Rect) (q : ℕ) → meets r (screen_of size) ≡ true
    → verdict_of size f (flat_shape size (cut_of r (screen_of size)) q) ≡ verdict_of size f (flat_shape size r q)
cut_verdict size f r q m =
    let c = cut_of r (screen_of size) in
    let at = cut_meets size r m in
    let same = both_ways (is_hidden size f (Flat c q)) (is_hidden size f (Flat r q))
    (covered_hidden size f c r q q (cut_covers size r) (omega arith) m) (covered_hidden size f r c q q (covers_cut size r) (omega arith) at) in
    flat_tested size c q f (is_hidden size f (Flat r q)) at same ∙ sym (flat_tested size r q f (is_hidden size f (Flat r q)) m refl)

-- ---- members of groups

pub occluded_is : (v : Verdict) → is_occluded v ≡ true → v ≡ Occluded
occluded_is Visible e = absurd cc
occluded_is Occluded e = refl
occluded_is Outside e = absurd cc

-- a member that counts lies within its group's hull
member_within : (s : Parts) (frame : ℕ) (g : Group) (o : ℕ) (d : Object) (r : Rect) (q : ℕ) (h : Hull) → g.first ≤ o → o < g.first + g.count → o < length s.objects
    → object_shape s frame (get_or s.objects o d) ≡ Flat r q → meets r (screen_of (size_of s)) ≡ true → hull_of s frame g ≡ Some h → IsWithin (own (size_of s) r q) h
member_within s frame g o d r q h from below lt is m e =
    holds_member (size_of s) None (member_shapes s frame g) (o - g.first) r q h (shape_below s frame g o from below lt) (shape_at s frame g o d AlwaysOutside from below lt ∙ is) m e

-- a flat shape with a pixel in the screen
pub flat_there : (size : Dimensions) (r : Rect) (q : ℕ) → meets r (screen_of size) ≡ true → flat_shape size r q ≡ Flat r q
flat_there size r q m = ap (λ (b : Bool). cond b (Flat r q) AlwaysOutside) m

-- by a hull that is occluded
by_hull : (s : Parts) (frame : ℕ) (f : Sub → State) (g : Group) (o : ℕ) (d : Object) (r : Rect) (q : ℕ) (hull : Option Hull) → hull_of s frame g ≡ hull → hull_verdict (size_of s) f hull ≡ Occluded
    → g.first ≤ o → o < g.first + g.count → o < length s.objects → object_shape s frame (get_or s.objects o d) ≡ Flat r q → meets r (screen_of (size_of s)) ≡ true
    → object_verdict s frame f (get_or s.objects o d) ≡ Occluded
by_hull s frame f g o d r q None e v from below lt is m = absurd cc
by_hull s frame f g o d r q (Some h) e v from below lt is m =
    let size = size_of s in
    ap (verdict_of size f) (is ∙ sym (flat_there size r q m)) ∙ member_occluded size f h r q (member_within s frame g o d r q h from below lt is m e) m v

-- in a hidden group a member at a rectangle in the screen is occluded
hidden_flat : (s : Parts) (frame : ℕ) (f : Sub → State) (g : Group) (o : ℕ) (d : Object) (shape : Shape) → is_hidden_group s frame f g ≡ true → g.first ≤ o → o < g.first + g.count → o < length s.objects
    → object_shape s frame (get_or s.objects o d) ≡ shape → counts (size_of s) shape ≡ true → object_verdict s frame f (get_or s.objects o d) ≡ Occluded
hidden_flat s frame f g o d AlwaysOutside hidden from below lt is c = absurd cc
hidden_flat s frame f g o d AlwaysVisible hidden from below lt is c = absurd cc
hidden_flat s frame f g o d (Flat r q) hidden from below lt is c =
    by_hull s frame f g o d r q (hull_of s frame g) refl (occluded_is (group_verdict s frame f g) hidden) from below lt is c
hidden_flat s frame f g o d (Pieces ps hull) hidden from below lt is c = absurd cc

pub hides_members : HidesMembers
hides_members s frame f g o d hidden from below lt c = hidden_flat s frame f g o d (object_shape s frame (get_or s.objects o d)) hidden from below lt refl c

-- ---- by a group that was tested

pub tested_occluded : (s : Parts) (frame : ℕ) (f : Sub → State) (g : Group) (t : Tested) (o : ℕ) (d : Object) (r : Rect) (q : ℕ) → IsTested s frame f g t → is_occluded t.verdict ≡ true
    → g.first ≤ o → o < g.first + g.count → o < length s.objects → IsFormOf s frame o (forms.Flat r q) → t.verdict ≡ object_verdict s frame f (get_or s.objects o d)
tested_occluded s frame f g t o d r q tested e from below lt own =
    let is = shape_of_flat s frame o d r q own in
    let v = occluded_is t.verdict e in
    v ∙ sym (by_hull s frame f g o d r q (hull_of s frame g) refl (sym tested.verdict ∙ v) from below lt is own.seen)

pub tested_alone : (s : Parts) (frame : ℕ) (f : Sub → State) (g : Group) (t : Tested) (o : ℕ) (d : Object) (r : Rect) (q : ℕ) → IsTested s frame f g t → t.members ≡ 1
    → g.first ≤ o → o < g.first + g.count → o < length s.objects → IsFormOf s frame o (forms.Flat r q) → t.verdict ≡ object_verdict s frame f (get_or s.objects o d)
tested_alone s frame f g t o d r q tested one from below lt own =
    let size = size_of s in
    let is = shape_of_flat s frame o d r q own in
    let shapes = member_shapes s frame g in
    let all : counted size shapes ≡ 1 = omega (arith, members_are size None shapes, tested.members, one) in
    let hull = one_member size shapes (o - g.first) r q (shape_below s frame g o from below lt) (shape_at s frame g o d AlwaysOutside from below lt ∙ is) own.seen all in
    tested.verdict ∙ ap (hull_verdict size f) hull ∙ cut_verdict size f r q own.seen ∙ ap (verdict_of size f) (flat_there size r q own.seen ∙ sym is)

-- ---- what members show

occluded_alike : (v w : Verdict) → v ≡ w → w ≡ Occluded → not (is_occluded v) ≡ false
occluded_alike v w e o = ap (λ (x : Verdict). not (is_occluded x)) (e ∙ o)

-- a member that counts and isn't occluded shows that its group isn't hidden
pub shown_unhidden : (s : Parts) (frame : ℕ) (f : Sub → State) (g : Group) (o : ℕ) (d : Object) (form : Form) (v : Verdict) → is_shown form v ≡ true → IsFormOf s frame o form
    → v ≡ object_verdict s frame f (get_or s.objects o d) → g.first ≤ o → o < g.first + g.count → o < length s.objects → is_hidden_group s frame f g ≡ false
shown_unhidden s frame f g o d forms.Outside v e own is from below lt = absurd cc
shown_unhidden s frame f g o d forms.Visible v e own is from below lt = absurd cc
shown_unhidden s frame f g o d (forms.Flat r q) v e own is from below lt =
    let there = shape_of_flat s frame o d r q own in
    let c : counts (size_of s) (object_shape s frame (get_or s.objects o d)) ≡ true = ap (counts (size_of s)) there ∙ own.seen in
    false_from_ne_true (is_hidden_group s frame f g)
    (λ hidden. not_both (not (is_occluded v)) (occluded_alike v (object_verdict s frame f (get_or s.objects o d)) is (hides_members s frame f g o d hidden from below lt c)) e)
shown_unhidden s frame f g o d (forms.Mesh first count) v e own is from below lt = absurd cc

-- nothing is kept of no members
pub kept_none : (s : Parts) (frame : ℕ) (f : Sub → State) (g : Group) (size : Dimensions) (k : Kept) → size ≡ size_of s → k.hull ≡ no_members size → k.shown ≡ false → IsKept s frame f g 0 k
kept_none s frame f g size k e hull shown =
    let none = ap (λ (x : Hull). x.members) hull in
    record {
      few = omega (arith, none);
      hull = λ h. hull ∙ ap no_members e;
      shown = λ h. absurd (not_both k.shown shown h);
      alone = λ h one. absurd (omega (arith, none, one));
    }

occluded_unless : (v : Verdict) → not (is_occluded v) ≡ false → v ≡ Occluded
occluded_unless Visible e = absurd cc
occluded_unless Occluded e = refl
occluded_unless Outside e = absurd cc

-- the hull of one member that counts has its verdict
own_verdict : (s : Parts) (frame : ℕ) (f : Sub → State) (o : ℕ) (d : Object) (r : Rect) (q : ℕ) → IsFormOf s frame o (forms.Flat r q)
    → hull_verdict (size_of s) f (Some (own (size_of s) r q)) ≡ object_verdict s frame f (get_or s.objects o d)
own_verdict s frame f o d r q form =
    let size = size_of s in
    cut_verdict size f r q form.seen ∙ ap (verdict_of size f) (flat_there size r q form.seen ∙ sym (shape_of_flat s frame o d r q form))

same_hull : (s : Parts) (frame : ℕ) (f : Sub → State) (g : Group) (count : ℕ) (k : Kept) (next : Hull) → IsKept s frame f g count k → k.shown ≡ false → next ≡ k.hull → next.members ≡ 1
    → hull_verdict (size_of s) f (Some next) ≡ Occluded
same_hull s frame f g count k next is before e one =
    let same = ap (λ (x : Hull). x.members) e in
    ap (λ (x : Hull). hull_verdict (size_of s) f (Some x)) e ∙ is.alone before (omega (arith, same, one))

-- the hull that is kept is occluded, where one member counts
alone_next : (s : Parts) (frame : ℕ) (f : Sub → State) (g : Group) (count : ℕ) (d : Object) (k : Kept) (next : Hull) (form : Form) (v : Verdict)
    → IsKept s frame f g count k → k.shown ≡ false → is_shown form v ≡ false → IsFormOf s frame (g.first + count) form → v ≡ object_verdict s frame f (get_or s.objects (g.first + count) d)
    → next ≡ grown_hull (size_of s) k.hull form → next.members ≡ 1 → hull_verdict (size_of s) f (Some next) ≡ Occluded
alone_next s frame f g count d k next forms.Outside v is before unshown form seen e one = same_hull s frame f g count k next is before e one
alone_next s frame f g count d k next forms.Visible v is before unshown form seen e one = same_hull s frame f g count k next is before e one
alone_next s frame f g count d k next (forms.Flat r q) v is before unshown form seen e one =
    let size = size_of s in
    let shapes = shapes_from s frame g.first count in
    let more = ap (λ (x : Hull). x.members) e in
    let none : k.hull.members ≡ 0 = omega (arith, more, one) in
    let first = kept_alone size (hull_from size None shapes) k.hull r q (some_members size None shapes tt) (is.hull before) none form.seen in
    ap (λ (x : Hull). hull_verdict size f (Some x)) (e ∙ first) ∙ own_verdict s frame f (g.first + count) d r q form ∙ sym seen ∙ occluded_unless v unshown
alone_next s frame f g count d k next (forms.Mesh first n) v is before unshown form seen e one = same_hull s frame f g count k next is before e one

-- what is kept of one member more
pub kept_next : (s : Parts) (frame : ℕ) (f : Sub → State) (g : Group) (count : ℕ) (d : Object) (size : Dimensions) (k next : Kept) (form : Form) (v : Verdict) → size ≡ size_of s
    → count < g.count → g.first + g.count ≤ length s.objects → IsKept s frame f g count k → IsFormOf s frame (g.first + count) form → v ≡ object_verdict s frame f (get_or s.objects (g.first + count) d)
    → next.shown ≡ (k.shown || is_shown form v) → (next.shown ≡ false → next.hull ≡ grown_hull size k.hull form) → next.hull.members ≤ k.hull.members + 1 → IsKept s frame f g (count + 1) next
kept_next s frame f g count d size k next form v e lt within is own seen shown hull few =
    let o = g.first + count in
    let there : o < length s.objects = omega (arith, lt, within) in
    record {
      few = omega (arith, few, is.few);
      hull = λ h.
          let so = or_parts k.shown (is_shown form v) (sym shown ∙ h) in
          hull h ∙ ap (λ (x : Dimensions). grown_hull x k.hull form) e ∙ kept_more s frame g.first count d None k.hull form there (is.hull so.0) own;
      shown = λ h. by k.shown refl (sym shown ∙ h);
      alone = λ h one.
          let so = or_parts k.shown (is_shown form v) (sym shown ∙ h) in
          let grows = hull h ∙ ap (λ (x : Dimensions). grown_hull x k.hull form) e in
          alone_next s frame f g count d k next.hull form v is so.0 so.1 own seen grows one;
    }
  where
    by : (b : Bool) → k.shown ≡ b → (b || is_shown form v) ≡ true → is_hidden_group s frame f g ≡ false
    by true a h = is.shown a
    by false a h = shown_unhidden s frame f g (g.first + count) d form v h own seen (omega arith) (omega (arith, lt)) (omega (arith, lt, within))

-- ---- a member that alone counts

abbrev pub a_tally : ℕ → ℕ → Tally
a_tally hidden members = record { hidden = hidden; members = members }

tallies_alike : (a b m n : ℕ) → a ≡ b → m ≡ n → a_tally a m ≡ a_tally b n
tallies_alike a b m n e f = rw (e, f) refl

-- the hull of a group is that of its first members, where the others add none
same_members : (s : Parts) (frame : ℕ) (g : Group) (count : ℕ) (a b : Hull) → count ≤ g.count → hull_from (size_of s) None (shapes_from s frame g.first count) ≡ Some a
    → hull_of s frame g ≡ Some b → a.members ≡ b.members → hull_of s frame g ≡ Some a
same_members s frame g count a b le first all same =
    let size = size_of s in
    let front = hull_from size None (shapes_from s frame g.first count) in
    let rest = shapes_from s frame (g.first + count) (g.count - count) in
    let whole = hull_in_two s frame g.first count g.count None le in
    let more = members_are size front rest in
    let before = ap members_of first in let after = ap members_of (whole ∙ all) in
    let none : counted size rest ≡ 0 = omega (arith, more, before, after, same) in
    sym whole ∙ none_counted size front rest none ∙ first

-- a group of which one member counts, and was tested and is occluded, is hidden as it is
pub alone_told : (s : Parts) (frame : ℕ) (f : Sub → State) (g : Group) (count : ℕ) (k : Kept) (h : Hull) → count ≤ g.count → IsKept s frame f g count k → k.shown ≡ false → k.hull.members ≡ 1
    → h ≡ kept_hull (size_of s) (hull_of s frame g) → h.members ≡ 1 → a_tally 1 1 ≡ group_tally s frame f g
alone_told s frame f g count k h le is before one e same =
    let size = size_of s in
    let first = kept_something size (hull_from size None (shapes_from s frame g.first count)) k.hull (is.hull before) (omega (arith, one)) in
    let all = kept_something size (hull_of s frame g) h e (omega (arith, same)) in
    let hull = same_members s frame g count k.hull h le first all (omega (arith, one, same)) in
    let yes : is_hidden_group s frame f g ≡ true = ap (λ (o : Option Hull). is_occluded (hull_verdict size f o)) hull ∙ ap is_occluded (is.alone before one) in
    let members = ap members_of hull ∙ one in
    tallies_alike 1 (one_hidden s frame f g) 1 (members_hidden s frame f g) (sym (taken (is_hidden_group s frame f g) 1 yes))
    (sym (taken (is_hidden_group s frame f g) (members_of (hull_of s frame g)) yes ∙ members))
