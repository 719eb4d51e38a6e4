-- What is known after some pieces, one part after another.
use Rattle.std.proofs.Common.{◌≡◌, ℕ, ◌+◌, ◌<◌, List, [], ◌∷◌, ◌++◌, map, length, take, get_or, Bool, true, false, ◌||◌, Option, Some, arith, refl, sym, ap, ◌∙◌, subst, inl, inr}
use Rattle.std.specs.Option.{option_to_list}
use Rattle.std.specs.List.{Contains}
use Rattle.std.proofs.lemmas.Bool.{both_ways, or_parts, or_right}
use Rattle.std.proofs.Math.Bool.{or_assoc, or-false}
use Rattle.std.proofs.lemmas.List.{take_more, map_push}
use Rattle.std.proofs.lemmas.List.Elements.{Contains-append_left, Contains-append_right, Contains-append_cases}
use Rattle.std.proofs.lemmas.List.Folds.{list_any-append}
use Rattle.cull_base.specs.declared.rect.Rect.{Rect}
use Rattle.cull_base.specs.declared.place.Sub.{Sub}
use Rattle.cull_base.specs.Screen.{Dimensions, screen_of}
use Rattle.cull_base.specs.Rectangle.{meets}
use Rattle.cull_base.specs.Piece.{Piece, IsPiece, box_of}
use Rattle.cull_base.specs.State.{State}
use Rattle.mesh_query.specs.declared.mesh.Progress.{Progress}
use Rattle.mesh_query.specs.Asked.{Asked, SomeShows, HasAsked, TouchedIn, TouchedBy}
use Rattle.mesh_query.specs.Meshes.{is_one_on_screen}
use Rattle.mesh_query.proofs.Asking.{asked_none, asked_more, asked_same, shows_more}
use Rattle.mesh_query.proofs.Boxes.{touched_meets, same_within, meets_more}
use Rattle.mesh_query.proofs.Members.{first_of_list, later_of_list, cases_of_list, one_holds, one_that_holds}
use Rattle.mesh_query.proofs.TileParts.{Anywhere}
use Rattle.snap_setup.proofs.PieceBoxes.{BoxHolds}

-- some pieces, and then some more
pub both_asked : (f : Sub → State) (size : Dimensions) (ps qs : List Piece) (bs cs : List Rect) (x y z : Progress) → HasAsked f size ps bs x y → HasAsked f size qs cs y z → HasAsked f size (ps ++ qs) (bs ++ cs) x z
both_asked f size ps qs bs cs x y z h k = record {
  touched = asked_more f (TouchedBy size ps) (TouchedBy size qs) (TouchedBy size (ps ++ qs)) x.touched y.touched z.touched h.touched k.touched
      (λ t px py (m, touch). elim (Contains-append_cases ps qs t m) [ inl first ↦ inl (first, touch) | inr second ↦ inr (second, touch) ])
      (λ t px py (m, touch). (Contains-append_left ps qs t m, touch)) (λ t px py (m, touch). (Contains-append_right ps qs t m, touch));
  met = k.met ∙ ap (λ (b : Bool). b || is_one_on_screen size cs) h.met ∙ or_assoc x.met (is_one_on_screen size bs) (is_one_on_screen size cs)
      ∙ ap (λ (b : Bool). x.met || b) (sym (list_any-append (λ r. meets r (screen_of size)) bs cs));
}

pub shows_among : (f : Sub → State) (size : Dimensions) (ps qs : List Piece) → ((t : Piece) → Contains ps t → Contains qs t) → SomeShows f (TouchedBy size ps) → SomeShows f (TouchedBy size qs)
shows_among f size ps qs to shows = shows_more f f (TouchedBy size ps) (TouchedBy size qs) shows (λ t px py (m, touch). (to t m, touch)) (λ t px py on. refl)

-- one piece whose box meets the screen, and one whose box doesn't
pub piece_asked : (f : Sub → State) (size : Dimensions) (t : Piece) (m a b : Bool) → meets (box_of t) (screen_of size) ≡ true → Asked f (TouchedIn size t Anywhere) a b
    → HasAsked f size (t ∷ []) (box_of t ∷ []) (record { met = m; touched = a }) (record { met = true; touched = b })
piece_asked f size t m a b met h = record {
  touched = asked_same f f (TouchedIn size t Anywhere) (TouchedBy size (t ∷ [])) a b h
      (λ u px py (n, touch). elim (cases_of_list t u [] n) [ inl is ↦ (sym is, tt, touch) | inr (k, lt, e) ↦ absurd (omega (arith, lt)) ])
      (λ u px py (is, any, touch). (subst (Contains (t ∷ [])) (sym is) (first_of_list t []), touch)) (λ u px py on. refl);
  met = sym (ap (λ (b : Bool). m || (b || false)) met ∙ or_right m true refl);
}

pub piece_beside : (f : Sub → State) (size : Dimensions) (t : Piece) (x : Progress) → IsPiece t → meets (box_of t) (screen_of size) ≡ false → HasAsked f size (t ∷ []) (box_of t ∷ []) x x
piece_beside f size t x piece off = record {
  touched = asked_none f (TouchedBy size (t ∷ [])) x.touched (λ u px py (n, touch). elim (cases_of_list t u [] n) [
    | inl is ↦ both_ways (meets (box_of t) (screen_of size)) off (touched_meets size t (box_of t) px py piece (same_within (box_of t)) (rw (sym is) at touch))
    | inr (k, lt, e) ↦ absurd (omega (arith, lt))
  ]);
  met = sym (ap (λ (b : Bool). x.met || (b || false)) off ∙ or-false x.met);
}

-- one member more of a list of pieces
pub member_asked : (f : Sub → State) (size : Dimensions) (ps : List Piece) (i : ℕ) (d : Piece) (x y z : Progress) → i < length ps → HasAsked f size (take i ps) (map box_of (take i ps)) x y
    → HasAsked f size (get_or ps i d ∷ []) (box_of (get_or ps i d) ∷ []) y z → HasAsked f size (take (i + 1) ps) (map box_of (take (i + 1) ps)) x z
member_asked f size ps i d x y z lt h k =
    let e = take_more ps i d lt in
    let boxes : map box_of (take (i + 1) ps) ≡ map box_of (take i ps) ++ box_of (get_or ps i d) ∷ [] = ap (map box_of) e ∙ map_push box_of (take i ps) (get_or ps i d) in
    subst (λ (bs : List Rect). HasAsked f size (take (i + 1) ps) bs x z) (sym boxes)
    (subst (λ (qs : List Piece). HasAsked f size qs (map box_of (take i ps) ++ box_of (get_or ps i d) ∷ []) x z) (sym e)
    (both_asked f size (take i ps) (get_or ps i d ∷ []) (map box_of (take i ps)) (box_of (get_or ps i d) ∷ []) x y z h k))

from_map : (ps : List Piece) (r : Rect) → Contains (map box_of ps) r → (t : Piece) × Contains ps t × (box_of t ≡ r)
from_map [] r (k, lt, is) = absurd (omega (arith, lt))
from_map (p ∷ ps) r m = elim (cases_of_list (box_of p) r (map box_of ps) m) [
  | inl is ↦ (p, first_of_list p ps, is)
  | inr later ↦ let (t, n, e) = from_map ps r later in (t, later_of_list p t ps n, e)
]

-- a near box tells what the boxes of the pieces in it tell, where one of these meets the screen
box_meets : (size : Dimensions) (ps : List Piece) (box : Option Rect) → ((t : Piece) → Contains ps t → BoxHolds box t) → is_one_on_screen size (map box_of ps) ≡ true → is_one_on_screen size (option_to_list box) ≡ true
box_meets size ps box holds e =
    let (r, m, met) = one_that_holds (λ r. meets r (screen_of size)) (map box_of ps) e in
    let (t, n, is) = from_map ps r m in
    let h = holds t n in
    let there = meets_more (box_of t) h.rect (screen_of size) h.within (ap (λ a. meets a (screen_of size)) is ∙ met) in
    rw (h.is) (one_holds (λ a. meets a (screen_of size)) (h.rect ∷ []) h.rect (first_of_list h.rect []) there)

or_same : (m a b : Bool) → (a ≡ true → b ≡ true) → (m || a) ≡ true → (m || a) ≡ (m || b)
or_same true a b to e = refl
or_same false true b to e = sym (to refl)
or_same false false b to e = absurd cc

pub box_known : (f : Sub → State) (size : Dimensions) (ps : List Piece) (box : Option Rect) (x y : Progress) → ((t : Piece) → Contains ps t → BoxHolds box t) → HasAsked f size ps (map box_of ps) x y → y.met ≡ true
    → HasAsked f size ps (option_to_list box) x y
box_known f size ps box x y holds h met = record {
  touched = h.touched;
  met = h.met ∙ or_same x.met (is_one_on_screen size (map box_of ps)) (is_one_on_screen size (option_to_list box)) (box_meets size ps box holds) (sym h.met ∙ met);
}

pub box_asked : (f : Sub → State) (size : Dimensions) (ps : List Piece) (box : Option Rect) (x y : Progress) (m : Bool) → HasAsked f size ps (map box_of ps) x y → y.met ≡ false → m ≡ is_one_on_screen size (option_to_list box)
    → HasAsked f size ps (option_to_list box) x (record { met = m; touched = y.touched })
box_asked f size ps box x y m h off is =
    let before = (or_parts x.met (is_one_on_screen size (map box_of ps)) (sym h.met ∙ off)).0 in
    record {
      touched = h.touched;
      met = is ∙ ap (λ (b : Bool). b || is_one_on_screen size (option_to_list box)) (sym before);
    }

pub only_box : (f : Sub → State) (size : Dimensions) (ps : List Piece) (box : Option Rect) (t : Piece) (x y : Progress) → ps ≡ t ∷ [] → box ≡ Some (box_of t) → HasAsked f size ps (map box_of ps) x y
    → HasAsked f size ps (option_to_list box) x y
only_box f size ps box t x y is e h = subst (λ (bs : List Rect). HasAsked f size ps bs x y) (ap (map box_of) is ∙ sym (ap option_to_list e)) h
