-- Boxes that follow on one another, and the groups that are made of them object by object.
use Rattle.std.proofs.Common.{◌≡◌, ℕ, ◌+◌, ◌-◌, ◌<◌, ◌≤◌, min, Bool, true, false, cond, nat_lt, List, [], ◌∷◌, length, drop, get_or, arith, refl, sym, ap, ◌∙◌, subst}
use Rattle.std.proofs.lemmas.List.{drop_more}
use Rattle.cull_base.specs.declared.scene_types.Object.{Object}
use Rattle.group_query.specs.Grouping.{boxes_at_front, group, groups_from, is_box}

one_longer : (b : Bool) (m n : ℕ) → m ≤ n → cond b (m + 1) 0 ≤ n + 1
one_longer true m n le = omega (arith, le)
one_longer false m n le = omega arith

pub front_length : (os : List Object) → boxes_at_front os ≤ length os
front_length [] = omega arith
front_length (o ∷ os) = omega (arith, one_longer (is_box o) (boxes_at_front os) (length os) (front_length os))

-- a box at a place
pub front_more : (os : List Object) (k : ℕ) (d : Object) → k < length os → is_box (get_or os k d) ≡ true → boxes_at_front (drop k os) ≡ boxes_at_front (drop (k + 1) os) + 1
front_more os k d lt e = ap boxes_at_front (drop_more os k d lt) ∙ ap (λ (b : Bool). cond b (boxes_at_front (drop (k + 1) os) + 1) 0) e

-- no box there
pub front_none : (os : List Object) (k : ℕ) (d : Object) → k < length os → is_box (get_or os k d) ≡ false → boxes_at_front (drop k os) ≡ 0
front_none os k d lt e = ap boxes_at_front (drop_more os k d lt) ∙ ap (λ (b : Bool). cond b (boxes_at_front (drop (k + 1) os) + 1) 0) e

pub drop_nothing : (os : List Object) → drop 0 os ≡ os
drop_nothing [] = refl
drop_nothing (o ∷ os) = refl

-- the groups from a place on, by the object there
step : (n place left : ℕ) (o : Object) (os : List Object) (b t : Bool) → is_box o ≡ b → nat_lt 0 left ≡ t
    → groups_from n place left (o ∷ os)
    ≡ cond b (cond t (groups_from n (place + 1) (left - 1) os) (group place (min n (boxes_at_front (o ∷ os))) ∷ groups_from n (place + 1) (n - 1) os)) (groups_from n (place + 1) 0 os)
step n place left o os b t e f =
    let more = groups_from n (place + 1) (left - 1) os in
    let begun = group place (min n (boxes_at_front (o ∷ os))) ∷ groups_from n (place + 1) (n - 1) os in
    let ended = groups_from n (place + 1) 0 os in
    ap (λ (x : Bool). cond x (cond (nat_lt 0 left) more begun) ended) e ∙ ap (λ (x : Bool). cond b (cond x more begun) ended) f

-- no box ends the last group
pub group_ends : (n place left : ℕ) (os : List Object) (d : Object) → place < length os → is_box (get_or os place d) ≡ false
    → groups_from n place left (drop place os) ≡ groups_from n (place + 1) 0 (drop (place + 1) os)
group_ends n place left os d lt e =
    ap (groups_from n place left) (drop_more os place d lt) ∙ step n place left (get_or os place d) (drop (place + 1) os) false (nat_lt 0 left) e refl

-- the last group takes a box
pub group_takes : (n place left : ℕ) (os : List Object) (d : Object) → place < length os → is_box (get_or os place d) ≡ true → nat_lt 0 left ≡ true
    → groups_from n place left (drop place os) ≡ groups_from n (place + 1) (left - 1) (drop (place + 1) os)
group_takes n place left os d lt e f =
    ap (groups_from n place left) (drop_more os place d lt) ∙ step n place left (get_or os place d) (drop (place + 1) os) true true e f

-- a group begins
pub group_begins : (n place left : ℕ) (os : List Object) (d : Object) → place < length os → is_box (get_or os place d) ≡ true → nat_lt 0 left ≡ false
    → groups_from n place left (drop place os) ≡ group place (min n (boxes_at_front (drop place os))) ∷ groups_from n (place + 1) (n - 1) (drop (place + 1) os)
group_begins n place left os d lt e f =
    subst (λ (xs : List Object). groups_from n place left xs ≡ group place (min n (boxes_at_front xs)) ∷ groups_from n (place + 1) (n - 1) (drop (place + 1) os)) (sym (drop_more os place d lt))
    (step n place left (get_or os place d) (drop (place + 1) os) true false e f)
