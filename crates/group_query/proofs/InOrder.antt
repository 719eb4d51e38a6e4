-- Groups in order: as they are made, and as they are looked up.
use Rattle.std.proofs.Common.{◌≡◌, ℕ, zero, suc, ◌+◌, ◌-◌, ◌<◌, ◌≤◌, min, Bool, true, false, cond, nat_lt, List, [], ◌∷◌, length, get_or, arith, refl, subst}
use Rattle.std.proofs.lemmas.Bool.Decides.{nat_tests}
use Rattle.cull_base.specs.declared.scene_types.Object.{Object}
use Rattle.group_query.specs.Grouping.{AreApart, boxes_at_front, group, groups_from, is_box}
use Rattle.group_query.specs.declared.grouping.Group.{Group}

-- groups in order from a place on, up to an end
abbrev pub FollowOn : ℕ → ℕ → List Group → Type 0
FollowOn place n [] = place ≤ n
FollowOn place n (g ∷ gs) = (place ≤ g.first) × (0 < g.count) × FollowOn (g.first + g.count) n gs

earlier : (place next n : ℕ) (gs : List Group) → place ≤ next → FollowOn next n gs → FollowOn place n gs
earlier place next n [] le h = omega (arith, le, h)
earlier place next n (g ∷ gs) le h = (omega (arith, le, h.0), h.1, h.2)

-- ---- as they are made

-- one object more: an object that is no box, one that the last group takes, and one at which a group begins
next_in_order : (n place left : ℕ) (o : Object) (os : List Object) → 1 ≤ n → ((m : ℕ) → FollowOn ((place + 1) + min m (boxes_at_front os)) ((place + 1) + length os) (groups_from n (place + 1) m os))
    → FollowOn (place + min left (boxes_at_front (o ∷ os))) (place + length (o ∷ os)) (groups_from n place left (o ∷ os))
next_in_order n place left o os some rest = by (is_box o) (nat_lt 0 left) refl
  where
    as_long : (m : ℕ) → FollowOn ((place + 1) + min m (boxes_at_front os)) (place + length (o ∷ os)) (groups_from n (place + 1) m os)
    as_long m =
        let e : (place + 1) + length os ≡ place + length (o ∷ os) = omega arith in
        subst (λ (end : ℕ). FollowOn ((place + 1) + min m (boxes_at_front os)) end (groups_from n (place + 1) m os)) e (rest m)

    by : (b t : Bool) → nat_lt 0 left ≡ t
        → FollowOn (place + min left (cond b (boxes_at_front os + 1) 0)) (place + length (o ∷ os))
        (cond b (cond t (groups_from n (place + 1) (left - 1) os) (group place (min n (cond b (boxes_at_front os + 1) 0)) ∷ groups_from n (place + 1) (n - 1) os)) (groups_from n (place + 1) 0 os))
    by true true f =
        let lt : 0 < left = grind (arith, nat_tests) in
        let le : place + min left (boxes_at_front os + 1) ≤ (place + 1) + min (left - 1) (boxes_at_front os) = omega (arith, lt) in
        earlier _ _ (place + length (o ∷ os)) (groups_from n (place + 1) (left - 1) os) le (as_long (left - 1))
    by true false f =
        let none : left ≡ 0 = grind (arith, nat_tests) in
        let le : place + min n (boxes_at_front os + 1) ≤ (place + 1) + min (n - 1) (boxes_at_front os) = omega (arith, some) in
        (omega (arith, none), omega (arith, some), earlier _ _ (place + length (o ∷ os)) (groups_from n (place + 1) (n - 1) os) le (as_long (n - 1)))
    by false t f =
        let le : place + min left 0 ≤ (place + 1) + min 0 (boxes_at_front os) = omega arith in
        earlier _ _ (place + length (o ∷ os)) (groups_from n (place + 1) 0 os) le (as_long 0)

-- behind the boxes that the last group takes still
pub made_in_order : (n place left : ℕ) (os : List Object) → 1 ≤ n → FollowOn (place + min left (boxes_at_front os)) (place + length os) (groups_from n place left os)
made_in_order n place left [] some = omega arith
made_in_order n place left (o ∷ os) some = next_in_order n place left o os some (λ m. made_in_order n (place + 1) m os some)

-- ---- as they are looked up

ends_by : (place n : ℕ) (gs : List Group) → FollowOn place n gs → place ≤ n
ends_by place n [] h = h
ends_by place n (g ∷ gs) h = omega (arith, h.0, ends_by (g.first + g.count) n gs h.2)

from_place : (place n : ℕ) (gs : List Group) (k : ℕ) (d : Group) → FollowOn place n gs → k < length gs → place ≤ (get_or gs k d).first
from_place place n [] k d h lt = absurd (omega (arith, lt))
from_place place n (g ∷ gs) zero d h lt = h.0
from_place place n (g ∷ gs) (suc k) d h lt = omega (arith, h.0, from_place (g.first + g.count) n gs k d h.2 (omega (arith, lt)))

has_some : (place n : ℕ) (gs : List Group) (k : ℕ) (d : Group) → FollowOn place n gs → k < length gs → 0 < (get_or gs k d).count
has_some place n [] k d h lt = absurd (omega (arith, lt))
has_some place n (g ∷ gs) zero d h lt = h.1
has_some place n (g ∷ gs) (suc k) d h lt = has_some (g.first + g.count) n gs k d h.2 (omega (arith, lt))

is_within : (place n : ℕ) (gs : List Group) (k : ℕ) (d : Group) → FollowOn place n gs → k < length gs → (get_or gs k d).first + (get_or gs k d).count ≤ n
is_within place n [] k d h lt = absurd (omega (arith, lt))
is_within place n (g ∷ gs) zero d h lt = ends_by (g.first + g.count) n gs h.2
is_within place n (g ∷ gs) (suc k) d h lt = is_within (g.first + g.count) n gs k d h.2 (omega (arith, lt))

is_apart : (place n : ℕ) (gs : List Group) (j k : ℕ) (d : Group) → FollowOn place n gs → j < k → k < length gs → (get_or gs j d).first + (get_or gs j d).count ≤ (get_or gs k d).first
is_apart place n [] j k d h below lt = absurd (omega (arith, lt))
is_apart place n (g ∷ gs) j zero d h below lt = absurd (omega (arith, below))
is_apart place n (g ∷ gs) zero (suc k) d h below lt = from_place (g.first + g.count) n gs k d h.2 (omega (arith, lt))
is_apart place n (g ∷ gs) (suc j) (suc k) d h below lt = is_apart (g.first + g.count) n gs j k d h.2 (omega (arith, below)) (omega (arith, lt))

pub apart_from : (place n : ℕ) (gs : List Group) → FollowOn place n gs → AreApart n gs
apart_from place n gs h = record {
  some = λ k d lt. has_some place n gs k d h lt;
  within = λ k d lt. is_within place n gs k d h lt;
  apart = λ j k d below lt. is_apart place n gs j k d h below lt;
}

-- the groups of all objects
pub groups_apart : (n : ℕ) (os : List Object) → 1 ≤ n → AreApart (length os) (groups_from n 0 0 os)
groups_apart n os some =
    let all : 0 + length os ≡ length os = omega arith in
    subst (λ (m : ℕ). AreApart m (groups_from n 0 0 os)) all (apart_from (0 + min 0 (boxes_at_front os)) (0 + length os) (groups_from n 0 0 os) (made_in_order n 0 0 os some))

-- ---- and back

tail_apart : (n : ℕ) (g : Group) (gs : List Group) → AreApart n (g ∷ gs) → AreApart n gs
tail_apart n g gs h = record {
  some = λ k d lt. h.some (suc k) d (omega (arith, lt));
  within = λ k d lt. h.within (suc k) d (omega (arith, lt));
  apart = λ j k d below lt. h.apart (suc j) (suc k) d (omega (arith, below)) (omega (arith, lt));
}

pub follow_on : (place n : ℕ) (gs : List Group) → AreApart n gs → place ≤ n → ((d : Group) → 0 < length gs → place ≤ (get_or gs 0 d).first) → FollowOn place n gs
follow_on place n [] h le first = le
follow_on place n (g ∷ gs) h le first = (
  first g (omega arith),
  h.some 0 g (omega arith),
  follow_on (g.first + g.count) n gs (tail_apart n g gs h) (h.within 0 g (omega arith)) (λ d some. h.apart 0 1 d (omega arith) (omega (arith, some))),
)
