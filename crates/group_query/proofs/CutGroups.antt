-- What groups are: boxes that follow on one another, as many as there are, and each box in one.
use Rattle.std.proofs.Common.{◌≡◌, ℕ, zero, suc, ◌+◌, ◌-◌, ◌<◌, ◌≤◌, min, Bool, true, false, cond, nat_lt, List, [], ◌∷◌, length, drop, get_or, arith, refl, sym, ap, ◌∙◌, subst, inl, inr}
use Rattle.std.proofs.lemmas.Bool.{both_ways, cases_lt}
use Rattle.std.proofs.lemmas.Bool.Decides.{nat_tests}
use Rattle.std.proofs.lemmas.List.{drop_all, get_or-drop, get_or_default, length-drop}
use Rattle.cull_base.specs.declared.scene_types.Object.{Object}
use Rattle.cull_base.specs.declared.scene_types.Object.TheVariants.{Mesh}
use Rattle.group_query.specs.Grouping.{CutsInGroups, IsGroup, IsMember, boxes_at_front, group, groups_from, is_box}
use Rattle.group_query.specs.declared.grouping.Group.{Group}
use Rattle.group_query.proofs.BoxRuns.{drop_nothing, front_more, group_begins, group_ends, group_takes}

-- ---- boxes at the front of some objects

front_boxes : (xs : List Object) (i : ℕ) (e : Object) → i < boxes_at_front xs → is_box (get_or xs i e) ≡ true
front_boxes [] i e lt = absurd (omega (arith, lt))
front_boxes (x ∷ xs) i e lt = by (is_box x) i refl lt (λ j below. front_boxes xs j e below)
  where
    by : (b : Bool) (j : ℕ) → is_box x ≡ b → j < cond b (boxes_at_front xs + 1) 0 → ((k : ℕ) → k < boxes_at_front xs → is_box (get_or xs k e) ≡ true) → is_box (get_or (x ∷ xs) j e) ≡ true
    by true zero is below rest = is
    by true (suc j) is below rest = rest j (omega (arith, below))
    by false j is below rest = absurd (omega (arith, below))

front_ends : (xs : List Object) (e : Object) → boxes_at_front xs < length xs → is_box (get_or xs (boxes_at_front xs) e) ≡ false
front_ends [] e lt = absurd (omega (arith, lt))
front_ends (x ∷ xs) e lt = by (is_box x) refl lt (λ below. front_ends xs e below)
  where
    by : (b : Bool) → is_box x ≡ b → cond b (boxes_at_front xs + 1) 0 < length (x ∷ xs) → (boxes_at_front xs < length xs → is_box (get_or xs (boxes_at_front xs) e) ≡ false)
        → is_box (get_or (x ∷ xs) (cond b (boxes_at_front xs + 1) 0) e) ≡ false
    by true is below rest =
        let next : suc (boxes_at_front xs) ≡ boxes_at_front xs + 1 = omega arith in
        subst (λ (n : ℕ). is_box (get_or (x ∷ xs) n e) ≡ false) next (rest (omega (arith, below)))
    by false is below rest = is

-- the same by their places among all objects
box_at : (os : List Object) (place o : ℕ) (e : Object) → place ≤ o → o < place + boxes_at_front (drop place os) → is_box (get_or os o e) ≡ true
box_at os place o e from below =
    let back : place + (o - place) ≡ o = omega (arith, from) in
    let box = front_boxes (drop place os) (o - place) e (omega (arith, from, below)) in
    ap is_box (sym (get_or-drop place os (o - place) e ∙ ap (λ (n : ℕ). get_or os n e) back)) ∙ box

no_box_at : (os : List Object) (place : ℕ) (e : Object) → place + boxes_at_front (drop place os) < length os → is_box (get_or os (place + boxes_at_front (drop place os)) e) ≡ false
no_box_at os place e lt =
    let rest = drop place os in
    let below : boxes_at_front rest < length rest = omega (arith, lt, length-drop place os) in
    ap is_box (sym (get_or-drop place os (boxes_at_front rest) e)) ∙ front_ends rest e below

-- ---- the groups that begin from a place on

-- Each is a group, and each box from there on is in one that the last group before doesn't take.
pub record AreFrom (n : ℕ) (os : List Object) (place left : ℕ) (gs : List Group) : Type 0 where
  pub each : (k : ℕ) (d : Group) → k < length gs → IsGroup n os (get_or gs k d)
  pub all : (o : ℕ) (e : Object) → place + min left (boxes_at_front (drop place os)) ≤ o → o < length os → is_box (get_or os o e) ≡ true → (k : ℕ) × (k < length gs) × ((d : Group) → IsMember (get_or gs k d) o)

no_groups : (n : ℕ) (os : List Object) (place left : ℕ) → length os ≤ place → AreFrom n os place left []
no_groups n os place left past = record {
  each = λ k d lt. absurd (omega (arith, lt));
  all = λ o e from lt box. absurd (omega (arith, past, from, lt));
}

-- no box stands at the place
all_end : (n : ℕ) (os : List Object) (place left : ℕ) (gs : List Group) (o : ℕ) (e : Object) → place < length os → is_box (get_or os place (Mesh 0 0)) ≡ false → AreFrom n os (place + 1) 0 gs → place ≤ o → o < length os
    → is_box (get_or os o e) ≡ true → (k : ℕ) × (k < length gs) × ((d : Group) → IsMember (get_or gs k d) o)
all_end n os place left gs o e lt none r from below box = elim (cases_lt place o) [
  | inl past ↦ r.all o e (omega (arith, past)) below box
  | inr first ↦
      let here : place ≡ o = omega (arith, from, first) in
      let is : is_box (get_or os place (Mesh 0 0)) ≡ true =
      ap is_box (get_or_default os place (Mesh 0 0) e lt) ∙ ap (λ (i : ℕ). is_box (get_or os i e)) here ∙ box in
      absurd (both_ways (is_box (get_or os place (Mesh 0 0))) none is)
]

from_end : (n : ℕ) (os : List Object) (place left : ℕ) (gs : List Group) → place < length os → is_box (get_or os place (Mesh 0 0)) ≡ false → AreFrom n os (place + 1) 0 gs → AreFrom n os place left gs
from_end n os place left gs lt none r = record {
  each = r.each;
  all = λ o e from below box. all_end n os place left gs o e lt none r (omega (arith, from)) below box;
}

-- the last group takes the box there
some_left : (left : ℕ) → nat_lt 0 left ≡ true → 0 < left
some_left left e = grind (arith, nat_tests)

from_taken : (n : ℕ) (os : List Object) (place left : ℕ) (gs : List Group) → place < length os → is_box (get_or os place (Mesh 0 0)) ≡ true → nat_lt 0 left ≡ true → AreFrom n os (place + 1) (left - 1) gs → AreFrom n os place left gs
from_taken n os place left gs lt is some r =
    let more = front_more os place (Mesh 0 0) lt is in
    let takes = some_left left some in
    record {
      each = r.each;
      all = λ o e from below box. r.all o e (omega (arith, from, more, takes)) below box;
    }

-- a group begins there
first_group : (n : ℕ) (os : List Object) (place : ℕ) → IsGroup n os (group place (min n (boxes_at_front (drop place os))))
first_group n os place = record {
  boxes = λ o e from below. box_at os place o e from (omega (arith, below));
  few = omega arith;
  ends = λ e fewer within.
      let whole : min n (boxes_at_front (drop place os)) ≡ boxes_at_front (drop place os) = omega (arith, fewer) in
      ap (λ (m : ℕ). is_box (get_or os (place + m) e)) whole ∙ no_box_at os place e (omega (arith, within, whole));
}

each_cons : (P : Group → Type 0) (g : Group) (gs : List Group) → P g → ((k : ℕ) (d : Group) → k < length gs → P (get_or gs k d)) → (k : ℕ) (d : Group) → k < length (g ∷ gs) → P (get_or (g ∷ gs) k d)
each_cons P g gs here rest zero d lt = here
each_cons P g gs here rest (suc k) d lt = rest k d (omega (arith, lt))

all_begun : (n : ℕ) (os : List Object) (place : ℕ) (gs : List Group) (o : ℕ) (e : Object) → 1 ≤ n → place < length os → is_box (get_or os place (Mesh 0 0)) ≡ true → AreFrom n os (place + 1) (n - 1) gs → place ≤ o → o < length os
    → is_box (get_or os o e) ≡ true
    → (k : ℕ) × (k < length (group place (min n (boxes_at_front (drop place os))) ∷ gs)) × ((d : Group) → IsMember (get_or (group place (min n (boxes_at_front (drop place os))) ∷ gs) k d) o)
all_begun n os place gs o e some lt is r from below box =
    let more = front_more os place (Mesh 0 0) lt is in
    elim (cases_lt o (place + min n (boxes_at_front (drop place os)))) [
      | inl within ↦ (0, omega arith, λ d. record { from = from; before = within })
      | inr past ↦
          let (k, there, member) = r.all o e (omega (arith, more, some, past)) below box in
          (suc k, omega (arith, there), λ d. member d)
    ]

from_begun : (n : ℕ) (os : List Object) (place left : ℕ) (gs : List Group) → 1 ≤ n → place < length os → is_box (get_or os place (Mesh 0 0)) ≡ true → AreFrom n os (place + 1) (n - 1) gs
    → AreFrom n os place left (group place (min n (boxes_at_front (drop place os))) ∷ gs)
from_begun n os place left gs some lt is r = record {
  each = each_cons (IsGroup n os) (group place (min n (boxes_at_front (drop place os)))) gs (first_group n os place) r.each;
  all = λ o e from below box. all_begun n os place gs o e some lt is r (omega (arith, from)) below box;
}

-- ---- object by object

one_more : (n : ℕ) (os : List Object) (place left : ℕ) → 1 ≤ n → place < length os → ((m : ℕ) → AreFrom n os (place + 1) m (groups_from n (place + 1) m (drop (place + 1) os))) → AreFrom n os place left (groups_from n place left (drop place os))
one_more n os place left some lt rest = by (is_box (get_or os place (Mesh 0 0))) (nat_lt 0 left) refl refl
  where
    by : (b t : Bool) → is_box (get_or os place (Mesh 0 0)) ≡ b → nat_lt 0 left ≡ t → AreFrom n os place left (groups_from n place left (drop place os))
    by true true is f =
        subst (AreFrom n os place left) (sym (group_takes n place left os (Mesh 0 0) lt is f)) (from_taken n os place left (groups_from n (place + 1) (left - 1) (drop (place + 1) os)) lt is f (rest (left - 1)))
    by true false is f =
        subst (AreFrom n os place left) (sym (group_begins n place left os (Mesh 0 0) lt is f)) (from_begun n os place left (groups_from n (place + 1) (n - 1) (drop (place + 1) os)) some lt is (rest (n - 1)))
    by false t is f =
        subst (AreFrom n os place left) (sym (group_ends n place left os (Mesh 0 0) lt is)) (from_end n os place left (groups_from n (place + 1) 0 (drop (place + 1) os)) lt is (rest 0))

cut_from : (n : ℕ) (os : List Object) (m place left : ℕ) → 1 ≤ n → place + m ≡ length os → AreFrom n os place left (groups_from n place left (drop place os))
cut_from n os zero place left some at =
    let past : length os ≤ place = omega (arith, at) in
    subst (λ (xs : List Object). AreFrom n os place left (groups_from n place left xs)) (sym (drop_all place os past)) (no_groups n os place left past)
cut_from n os (suc m) place left some at = one_more n os place left some (omega (arith, at)) (λ next. cut_from n os m (place + 1) next some (omega (arith, at)))

pub cuts_in_groups : CutsInGroups
cuts_in_groups s n some =
    let os = s.objects in
    let cut : AreFrom n os 0 0 (groups_from n 0 0 os) = subst (λ (xs : List Object). AreFrom n os 0 0 (groups_from n 0 0 xs)) (drop_nothing os) (cut_from n os (length os) 0 0 some (omega arith)) in
    record {
      each = λ k d lt. cut.each k d lt;
      all = λ o e lt box. cut.all o e (omega arith) lt box;
    }
