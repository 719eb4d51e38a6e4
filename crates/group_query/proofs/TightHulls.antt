-- Each side of a hull is that of a member that counts, and so its nearness.
use Rattle.std.proofs.Common.{◌≡◌, ◌⊎◌, inl, inr, ℕ, ℤ, suc, max, Bool, true, false, cond, List, [], ◌∷◌, Some, None, arith, refl, sym, ap, ◌∙◌, int_lt}
use Rattle.std.specs.Int.{int_min, int_max}
use Rattle.std.proofs.lemmas.Bool.{cases_lt}
use Rattle.std.proofs.lemmas.Int.{ints}
use Rattle.std.proofs.lemmas.Option.{same_Some}
use Rattle.cull_base.specs.declared.rect.Rect.{Rect}
use Rattle.cull_base.specs.Rectangle.{meets, cut_of}
use Rattle.cull_base.specs.Screen.{Dimensions, screen_of}
use Rattle.cull_base.specs.Shape.{Shape, AlwaysOutside, AlwaysVisible, Flat, Pieces}
use Rattle.cull_report.specs.Scene.{size_of}
use Rattle.group_query.specs.Hulls.{HullsAreTight, IsOneMembers, hull_from, member_shapes, with_member}
use Rattle.group_query.specs.declared.hulls.Hull.{Hull}

-- ---- one of two

least_first : (x y : ℤ) → int_lt x y ≡ true → int_min x y ≡ x
least_first x y e = grind (arith, ints)

least_second : (x y : ℤ) → int_lt x y ≡ false → int_min x y ≡ y
least_second x y e = grind (arith, ints)

greatest_first : (x y : ℤ) → int_lt y x ≡ true → int_max x y ≡ x
greatest_first x y e = grind (arith, ints)

greatest_second : (x y : ℤ) → int_lt y x ≡ false → int_max x y ≡ y
greatest_second x y e = grind (arith, ints)

-- what is the first of two where a test holds, and else the second
picked : (b : Bool) (v x y : ℤ) → (b ≡ true → v ≡ x) → (b ≡ false → v ≡ y) → (v ≡ x) ⊎ (v ≡ y)
picked true v x y first second = inl (first refl)
picked false v x y first second = inr (second refl)

either_least : (x y : ℤ) → (int_min x y ≡ x) ⊎ (int_min x y ≡ y)
either_least x y = picked (int_lt x y) (int_min x y) x y (least_first x y) (least_second x y)

either_greatest : (x y : ℤ) → (int_max x y ≡ x) ⊎ (int_max x y ≡ y)
either_greatest x y = picked (int_lt y x) (int_max x y) x y (greatest_first x y) (greatest_second x y)

either_nearest : (m n : ℕ) → (max m n ≡ m) ⊎ (max m n ≡ n)
either_nearest m n = elim (cases_lt m n) [ inl less ↦ inr (omega (arith, less)) | inr no_less ↦ inl (omega (arith, no_less)) ]

-- what is told of a hull with one member more is told of the hull before, or of the member
abbrev Picks : (A : Type 0) → (Hull → A) → Type 0
Picks A f = (a : Hull) (area : Rect) (q : ℕ) → (f (with_member (Some a) area q) ≡ f a) ⊎ (f (with_member (Some a) area q) ≡ f (with_member None area q))

picks_left : Picks ℤ (λ (h : Hull). h.rect.x0)
picks_left a area q = either_least a.rect.x0 area.x0

picks_top : Picks ℤ (λ (h : Hull). h.rect.y0)
picks_top a area q = either_least a.rect.y0 area.y0

picks_right : Picks ℤ (λ (h : Hull). h.rect.x1)
picks_right a area q = either_greatest a.rect.x1 area.x1

picks_bottom : Picks ℤ (λ (h : Hull). h.rect.y1)
picks_bottom a area q = either_greatest a.rect.y1 area.y1

picks_near : Picks ℕ (λ (h : Hull). h.q)
picks_near a area q = either_nearest a.q q

-- ---- members of a longer list

abbrev IsReached : (A : Type 0) → (Hull → A) → Dimensions → List Shape → A → Type 0
IsReached A f size shapes v = (m : Hull) × IsOneMembers size shapes m × (v ≡ f m)

one_later : (size : Dimensions) (x : Shape) (shapes : List Shape) (m : Hull) → IsOneMembers size shapes m → IsOneMembers size (x ∷ shapes) m
one_later size x shapes m one = record {
  place = suc one.place;
  rect = one.rect;
  q = one.q;
  below = omega (arith, one.below);
  is = one.is;
  met = one.met;
  own = one.own;
}

later : (A : Type 0) (f : Hull → A) (size : Dimensions) (x : Shape) (shapes : List Shape) (v : A) → IsReached A f size shapes v → IsReached A f size (x ∷ shapes) v
later A f size x shapes v r = let (m, one, e) = r in (m, one_later size x shapes m one, e)

or_later : (A : Type 0) (f : Hull → A) (size : Dimensions) (x : Shape) (shapes : List Shape) (v w : A) → (v ≡ w) ⊎ IsReached A f size shapes v → (v ≡ w) ⊎ IsReached A f size (x ∷ shapes) v
or_later A f size x shapes v w (inl e) = inl e
or_later A f size x shapes v w (inr r) = inr (later A f size x shapes v r)

first_member : (size : Dimensions) (r : Rect) (q : ℕ) (shapes : List Shape) → meets r (screen_of size) ≡ true → IsOneMembers size (Flat r q ∷ shapes) (with_member None (cut_of r (screen_of size)) q)
first_member size r q shapes m = record { place = 0; rect = r; q = q; below = omega arith; is = refl; met = m; own = refl }

-- ---- behind a hull

member_picked : (A : Type 0) (f : Hull → A) → Picks A f → (size : Dimensions) (a : Hull) (r : Rect) (q : ℕ) (shapes : List Shape) (v : A) → meets r (screen_of size) ≡ true
    → (v ≡ f (with_member (Some a) (cut_of r (screen_of size)) q)) ⊎ IsReached A f size shapes v → (v ≡ f a) ⊎ IsReached A f size (Flat r q ∷ shapes) v
member_picked A f picks size a r q shapes v m (inl e) = elim (picks a (cut_of r (screen_of size)) q) [
  | inl before ↦ inl (e ∙ before)
  | inr member ↦ inr (with_member None (cut_of r (screen_of size)) q, first_member size r q shapes m, e ∙ member)
]
member_picked A f picks size a r q shapes v m (inr behind) = inr (later A f size (Flat r q) shapes v behind)

flat_behind : (A : Type 0) (f : Hull → A) → Picks A f → (size : Dimensions) (a : Hull) (r : Rect) (q : ℕ) (shapes : List Shape) (h : Hull)
    → ((b : Hull) → hull_from size (Some b) shapes ≡ Some h → (f h ≡ f b) ⊎ IsReached A f size shapes (f h)) → hull_from size (Some a) (Flat r q ∷ shapes) ≡ Some h
    → (f h ≡ f a) ⊎ IsReached A f size (Flat r q ∷ shapes) (f h)
flat_behind A f picks size a r q shapes h rest e = by (meets r (screen_of size)) refl e
  where
    by : (b : Bool) → meets r (screen_of size) ≡ b → hull_from size (cond b (Some (with_member (Some a) (cut_of r (screen_of size)) q)) (Some a)) shapes ≡ Some h
        → (f h ≡ f a) ⊎ IsReached A f size (Flat r q ∷ shapes) (f h)
    by true m g = member_picked A f picks size a r q shapes (f h) m (rest (with_member (Some a) (cut_of r (screen_of size)) q) g)
    by false m g = or_later A f size (Flat r q) shapes (f h) (f a) (rest a g)

reached_behind : (A : Type 0) (f : Hull → A) → Picks A f → (size : Dimensions) (a : Hull) (shapes : List Shape) (h : Hull) → hull_from size (Some a) shapes ≡ Some h → (f h ≡ f a) ⊎ IsReached A f size shapes (f h)
reached_behind A f picks size a [] h e = inl (ap f (sym (same_Some a h e)))
reached_behind A f picks size a (AlwaysOutside ∷ shapes) h e = or_later A f size AlwaysOutside shapes (f h) (f a) (reached_behind A f picks size a shapes h e)
reached_behind A f picks size a (AlwaysVisible ∷ shapes) h e = or_later A f size AlwaysVisible shapes (f h) (f a) (reached_behind A f picks size a shapes h e)
reached_behind A f picks size a (Flat r q ∷ shapes) h e = flat_behind A f picks size a r q shapes h (λ b g. reached_behind A f picks size b shapes h g) e
reached_behind A f picks size a (Pieces ps hull ∷ shapes) h e = or_later A f size (Pieces ps hull) shapes (f h) (f a) (reached_behind A f picks size a shapes h e)

-- ---- from the first member that counts

flat_first : (A : Type 0) (f : Hull → A) → Picks A f → (size : Dimensions) (r : Rect) (q : ℕ) (shapes : List Shape) (h : Hull) → (hull_from size None shapes ≡ Some h → IsReached A f size shapes (f h))
    → hull_from size None (Flat r q ∷ shapes) ≡ Some h → IsReached A f size (Flat r q ∷ shapes) (f h)
flat_first A f picks size r q shapes h rest e = by (meets r (screen_of size)) refl e
  where
    or_first : meets r (screen_of size) ≡ true → (f h ≡ f (with_member None (cut_of r (screen_of size)) q)) ⊎ IsReached A f size shapes (f h) → IsReached A f size (Flat r q ∷ shapes) (f h)
    or_first m (inl g) = (with_member None (cut_of r (screen_of size)) q, first_member size r q shapes m, g)
    or_first m (inr behind) = later A f size (Flat r q) shapes (f h) behind

    by : (b : Bool) → meets r (screen_of size) ≡ b → hull_from size (cond b (Some (with_member None (cut_of r (screen_of size)) q)) None) shapes ≡ Some h → IsReached A f size (Flat r q ∷ shapes) (f h)
    by true m g = or_first m (reached_behind A f picks size (with_member None (cut_of r (screen_of size)) q) shapes h g)
    by false m g = later A f size (Flat r q) shapes (f h) (rest g)

reached : (A : Type 0) (f : Hull → A) → Picks A f → (size : Dimensions) (shapes : List Shape) (h : Hull) → hull_from size None shapes ≡ Some h → IsReached A f size shapes (f h)
reached A f picks size [] h e = absurd cc
reached A f picks size (AlwaysOutside ∷ shapes) h e = later A f size AlwaysOutside shapes (f h) (reached A f picks size shapes h e)
reached A f picks size (AlwaysVisible ∷ shapes) h e = later A f size AlwaysVisible shapes (f h) (reached A f picks size shapes h e)
reached A f picks size (Flat r q ∷ shapes) h e = flat_first A f picks size r q shapes h (λ g. reached A f picks size shapes h g) e
reached A f picks size (Pieces ps hull ∷ shapes) h e = later A f size (Pieces ps hull) shapes (f h) (reached A f picks size shapes h e)

pub hulls_are_tight : HullsAreTight
hulls_are_tight s frame g h e =
    let size = size_of s in
    let shapes = member_shapes s frame g in
    record {
      left = reached ℤ (λ (x : Hull). x.rect.x0) picks_left size shapes h e;
      top = reached ℤ (λ (x : Hull). x.rect.y0) picks_top size shapes h e;
      right = reached ℤ (λ (x : Hull). x.rect.x1) picks_right size shapes h e;
      bottom = reached ℤ (λ (x : Hull). x.rect.y1) picks_bottom size shapes h e;
      near = reached ℕ (λ (x : Hull). x.q) picks_near size shapes h e;
    }
