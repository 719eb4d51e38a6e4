-- Hulls member by member: what they hold, how many members they have, and the hull of one.
use Rattle.std.proofs.Common.{◌≡◌, ℕ, ℤ, zero, suc, ◌+◌, ◌<◌, ◌≤◌, ◌≤ℤ◌, ◌<ℤ◌, Bool, true, false, cond, List, [], ◌∷◌, ◌++◌, length, get_or, Option, Some, None, arith, refl, sym, ap, ◌∙◌, subst}
use Rattle.std.specs.Prelude.{IfSome}
use Rattle.std.specs.Int.{int_min, int_max}
use Rattle.std.proofs.lemmas.Int.{ints}
use Rattle.std.proofs.lemmas.Option.{same_Some}
use Rattle.cull_base.specs.declared.rect.Rect.{Rect}
use Rattle.cull_base.specs.Rectangle.{HasPixel, meets, cut_of}
use Rattle.cull_base.specs.Screen.{Dimensions, screen_of}
use Rattle.cull_base.specs.Shape.{Shape, AlwaysOutside, AlwaysVisible, Flat, Pieces}
use Rattle.group_query.specs.Hulls.{HoldsMembers, counted, counts, grown, holding, hull_from, members_of, with_member}
use Rattle.group_query.specs.declared.hulls.Hull.{Hull}

-- ---- hulls within hulls

pub record IsWithin (a b : Hull) : Type 0 where
  pub pixels : (x y : ℤ) → HasPixel a.rect x y → HasPixel b.rect x y
  pub nearness : a.q ≤ b.q

within_self : (a : Hull) → IsWithin a a
within_self a = record { pixels = λ x y p. p; nearness = omega arith }

within_then : (a b c : Hull) → IsWithin a b → IsWithin b c → IsWithin a c
within_then a b c f g = record { pixels = λ x y p. g.pixels x y (f.pixels x y p); nearness = omega (arith, f.nearness, g.nearness) }

low : (m n v : ℤ) → m ≤ℤ v → int_min m n ≤ℤ v
low m n v h = grind (arith, ints)

low_second : (m n v : ℤ) → n ≤ℤ v → int_min m n ≤ℤ v
low_second m n v h = grind (arith, ints)

high : (m n v : ℤ) → v <ℤ m → v <ℤ int_max m n
high m n v h = grind (arith, ints)

high_second : (m n v : ℤ) → v <ℤ n → v <ℤ int_max m n
high_second m n v h = grind (arith, ints)

holding_first : (a b : Rect) (x y : ℤ) → HasPixel a x y → HasPixel (holding a b) x y
holding_first a b x y p = (low a.x0 b.x0 x p.0, high a.x1 b.x1 x p.1, low a.y0 b.y0 y p.2, high a.y1 b.y1 y p.3)

holding_second : (a b : Rect) (x y : ℤ) → HasPixel b x y → HasPixel (holding a b) x y
holding_second a b x y p = (low_second a.x0 b.x0 x p.0, high_second a.x1 b.x1 x p.1, low_second a.y0 b.y0 y p.2, high_second a.y1 b.y1 y p.3)

-- the hull of one member
abbrev pub own : Dimensions → Rect → ℕ → Hull
own size r q = record { rect = cut_of r (screen_of size); q = q; members = 1 }

own_within : (size : Dimensions) (h : Option Hull) (r : Rect) (q : ℕ) → IsWithin (own size r q) (with_member h (cut_of r (screen_of size)) q)
own_within size None r q = within_self (own size r q)
own_within size (Some a) r q = record { pixels = λ x y p. holding_second a.rect (cut_of r (screen_of size)) x y p; nearness = omega arith }

kept_within : (a : Hull) (area : Rect) (q : ℕ) → IsWithin a (with_member (Some a) area q)
kept_within a area q = record { pixels = λ x y p. holding_first a.rect area x y p; nearness = omega arith }

-- ---- a hull holds its members

either : (b : Bool) (x y : Option Hull) (P : Option Hull → Type 0) → P x → P y → P (cond b x y)
either true x y P p q = p
either false x y P p q = q

holds_more : (size : Dimensions) (a : Hull) (shapes : List Shape) (h : Hull) → hull_from size (Some a) shapes ≡ Some h → IsWithin a h
holds_more size a [] h e = subst (IsWithin a) (same_Some a h e) (within_self a)
holds_more size a (AlwaysOutside ∷ shapes) h e = holds_more size a shapes h e
holds_more size a (AlwaysVisible ∷ shapes) h e = holds_more size a shapes h e
holds_more size a (Flat r q ∷ shapes) h e =
    let more = with_member (Some a) (cut_of r (screen_of size)) q in
    either (meets r (screen_of size)) (Some more) (Some a) (λ (o : Option Hull). hull_from size o shapes ≡ Some h → IsWithin a h)
    (λ f. within_then a more h (kept_within a (cut_of r (screen_of size)) q) (holds_more size more shapes h f)) (λ f. holds_more size a shapes h f) e
holds_more size a (Pieces ps hull ∷ shapes) h e = holds_more size a shapes h e

-- a member that counts makes the hull grow
grown_flat : (size : Dimensions) (h : Option Hull) (shape : Shape) (r : Rect) (q : ℕ) → shape ≡ Flat r q → meets r (screen_of size) ≡ true
    → grown size h shape ≡ Some (with_member h (cut_of r (screen_of size)) q)
grown_flat size h shape r q is m = ap (grown size h) is ∙ ap (λ (b : Bool). cond b (Some (with_member h (cut_of r (screen_of size)) q)) h) m

pub holds_member : (size : Dimensions) (front : Option Hull) (shapes : List Shape) (k : ℕ) (r : Rect) (q : ℕ) (h : Hull) → k < length shapes → get_or shapes k AlwaysOutside ≡ Flat r q
    → meets r (screen_of size) ≡ true → hull_from size front shapes ≡ Some h → IsWithin (own size r q) h
holds_member size front [] k r q h lt is m e = absurd (omega (arith, lt))
holds_member size front (shape ∷ shapes) zero r q h lt is m e =
    let more = with_member front (cut_of r (screen_of size)) q in
    let from : hull_from size (Some more) shapes ≡ Some h = ap (λ (o : Option Hull). hull_from size o shapes) (sym (grown_flat size front shape r q is m)) ∙ e in
    within_then (own size r q) more h (own_within size front r q) (holds_more size more shapes h from)
holds_member size front (shape ∷ shapes) (suc k) r q h lt is m e = holds_member size (grown size front shape) shapes k r q h (omega (arith, lt)) is m e

pub holds_members : (size : Dimensions) (shapes : List Shape) (o : Option Hull) → hull_from size None shapes ≡ o → IfSome o (HoldsMembers size shapes)
holds_members size shapes None e = tt
holds_members size shapes (Some h) e = λ k r q lt is m.
    let w = holds_member size None shapes k r q h lt is m e in
    record { pixels = w.pixels; nearness = w.nearness }

-- ---- how many members there are

more_members : (h : Option Hull) (area : Rect) (q : ℕ) → (with_member h area q).members ≡ members_of h + 1
more_members None area q = refl
more_members (Some a) area q = refl

pub grown_counts : (size : Dimensions) (h : Option Hull) (shape : Shape) → members_of (grown size h shape) ≡ members_of h + cond (counts size shape) 1 0
grown_counts size h AlwaysOutside = omega arith
grown_counts size h AlwaysVisible = omega arith
grown_counts size h (Flat r q) = by (meets r (screen_of size))
  where
    by : (b : Bool) → members_of (cond b (Some (with_member h (cut_of r (screen_of size)) q)) h) ≡ members_of h + cond b 1 0
    by true = more_members h (cut_of r (screen_of size)) q
    by false = omega arith
grown_counts size h (Pieces ps hull) = omega arith

at_most_one : (b : Bool) → cond b 1 0 ≤ 1
at_most_one true = omega arith
at_most_one false = omega arith

pub grown_few : (size : Dimensions) (h : Option Hull) (shape : Shape) → members_of (grown size h shape) ≤ members_of h + 1
grown_few size h shape = omega (arith, grown_counts size h shape, at_most_one (counts size shape))

pub members_are : (size : Dimensions) (h : Option Hull) (shapes : List Shape) → members_of (hull_from size h shapes) ≡ members_of h + counted size shapes
members_are size h [] = omega arith
members_are size h (shape ∷ shapes) = omega (arith, members_are size (grown size h shape) shapes, grown_counts size h shape)

pub counted_few : (size : Dimensions) (shapes : List Shape) → counted size shapes ≤ length shapes
counted_few size [] = omega arith
counted_few size (shape ∷ shapes) = omega (arith, counted_few size shapes, at_most_one (counts size shape))

-- a hull has a member
abbrev HasSome : Hull → Type 0
HasSome h = 0 < h.members

grown_some : (size : Dimensions) (h : Option Hull) (shape : Shape) → IfSome h HasSome → IfSome (grown size h shape) HasSome
grown_some size h AlwaysOutside some = some
grown_some size h AlwaysVisible some = some
grown_some size h (Flat r q) some =
    either (meets r (screen_of size)) (Some (with_member h (cut_of r (screen_of size)) q)) h (λ (o : Option Hull). IfSome o HasSome)
    (omega (arith, more_members h (cut_of r (screen_of size)) q)) some
grown_some size h (Pieces ps hull) some = some

pub some_members : (size : Dimensions) (h : Option Hull) (shapes : List Shape) → IfSome h (λ a. 0 < a.members) → IfSome (hull_from size h shapes) (λ a. 0 < a.members)
some_members size h [] some = some
some_members size h (shape ∷ shapes) some = some_members size (grown size h shape) shapes (grown_some size h shape some)

-- ---- the hull of one

unchanged : (size : Dimensions) (h : Option Hull) (shape : Shape) → ◌≡◌ {A = ℕ} (cond (counts size shape) 1 0) 0 → grown size h shape ≡ h
unchanged size h AlwaysOutside e = refl
unchanged size h AlwaysVisible e = refl
unchanged size h (Flat r q) e = by (meets r (screen_of size)) e
  where
    by : (b : Bool) → ◌≡◌ {A = ℕ} (cond b 1 0) 0 → cond b (Some (with_member h (cut_of r (screen_of size)) q)) h ≡ h
    by true f = absurd (omega (arith, f))
    by false f = refl
unchanged size h (Pieces ps hull) e = refl

pub none_counted : (size : Dimensions) (h : Option Hull) (shapes : List Shape) → counted size shapes ≡ 0 → hull_from size h shapes ≡ h
none_counted size h [] e = refl
none_counted size h (shape ∷ shapes) e =
    let first : ◌≡◌ {A = ℕ} (cond (counts size shape) 1 0) 0 = omega (arith, e) in
    let rest : counted size shapes ≡ 0 = omega (arith, e) in
    none_counted size (grown size h shape) shapes rest ∙ unchanged size h shape first

abbrev one_if : Bool → ℕ
one_if b = cond b 1 0

does_count : (size : Dimensions) (shape : Shape) (r : Rect) (q : ℕ) → shape ≡ Flat r q → meets r (screen_of size) ≡ true → ◌≡◌ {A = ℕ} (cond (counts size shape) 1 0) 1
does_count size shape r q is m = ap (λ (s : Shape). one_if (counts size s)) is ∙ ap one_if m

one_counted : (size : Dimensions) (shapes : List Shape) (k : ℕ) (r : Rect) (q : ℕ) → k < length shapes → get_or shapes k AlwaysOutside ≡ Flat r q → meets r (screen_of size) ≡ true → 1 ≤ counted size shapes
one_counted size [] k r q lt is m = absurd (omega (arith, lt))
one_counted size (shape ∷ shapes) zero r q lt is m = omega (arith, does_count size shape r q is m)
one_counted size (shape ∷ shapes) (suc k) r q lt is m = omega (arith, one_counted size shapes k r q (omega (arith, lt)) is m)

-- where one member counts, and this is one, it is this
pub one_member : (size : Dimensions) (shapes : List Shape) (k : ℕ) (r : Rect) (q : ℕ) → k < length shapes → get_or shapes k AlwaysOutside ≡ Flat r q → meets r (screen_of size) ≡ true
    → counted size shapes ≡ 1 → hull_from size None shapes ≡ Some (own size r q)
one_member size [] k r q lt is m one = absurd (omega (arith, lt))
one_member size (shape ∷ shapes) zero r q lt is m one =
    let here = does_count size shape r q is m in
    let rest : counted size shapes ≡ 0 = omega (arith, one, here) in
    ap (λ (o : Option Hull). hull_from size o shapes) (grown_flat size None shape r q is m) ∙ none_counted size (Some (own size r q)) shapes rest
one_member size (shape ∷ shapes) (suc k) r q lt is m one =
    let some = one_counted size shapes k r q (omega (arith, lt)) is m in
    let first : ◌≡◌ {A = ℕ} (cond (counts size shape) 1 0) 0 = omega (arith, one, some) in
    ap (λ (o : Option Hull). hull_from size o shapes) (unchanged size None shape first) ∙ one_member size shapes k r q (omega (arith, lt)) is m (omega (arith, one, first))

-- ---- members one after the other

pub hull_from-append : (size : Dimensions) (h : Option Hull) (xs ys : List Shape) → hull_from size h (xs ++ ys) ≡ hull_from size (hull_from size h xs) ys
hull_from-append size h [] ys = refl
hull_from-append size h (x ∷ xs) ys = hull_from-append size (grown size h x) xs ys
