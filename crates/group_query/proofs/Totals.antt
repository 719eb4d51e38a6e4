-- What is counted of groups, added up.
use Rattle.std.proofs.Common.{◌≡◌, ℕ, zero, suc, ◌+◌, ◌^◌, ◌<◌, ◌≤◌, Bool, true, false, cond, nat_lt, List, [], ◌∷◌, ◌++◌, length, take, drop, get_or, None, arith, refl, sym, ap, ◌∙◌}
use Rattle.std.proofs.lemmas.Bool.Decides.{nat_tests}
use Rattle.std.proofs.lemmas.List.{take_all, take_more, length-map, length-take}
use Rattle.cull_base.specs.declared.place.Sub.{Sub}
use Rattle.cull_base.specs.State.{State}
use Rattle.scene_reader.specs.Layout.{Parts}
use Rattle.cull_report.specs.Scene.{object_shape, size_of}
use Rattle.cull_report.specs.Tallies.{Adds, IsFew}
use Rattle.cull_report.specs.declared.tally.Tally.{Tally}
use Rattle.cull_report.proofs.MadeRuns.{tally_and}
use Rattle.group_query.specs.Grouping.{AreApart, AreBegun}
use Rattle.group_query.specs.Hidden.{group_tally, hidden_groups, hidden_members, is_hidden_group, members_hidden, one_hidden, told_before, total, total_before}
use Rattle.group_query.specs.Hulls.{hull_of, member_shapes, members_of}
use Rattle.group_query.specs.declared.grouping.Group.{Group}
use Rattle.group_query.proofs.HullMembers.{counted_few, members_are}
use Rattle.group_query.proofs.InOrder.{FollowOn, follow_on}

-- ---- group by group

total_push : (f : Group → ℕ) (gs : List Group) (g : Group) → total f (gs ++ g ∷ []) ≡ total f gs + f g
total_push f [] g = omega arith
total_push f (x ∷ gs) g = omega (arith, total_push f gs g)

pub total_more : (f : Group → ℕ) (gs : List Group) (k : ℕ) (d : Group) → k < length gs → total f (take (k + 1) gs) ≡ total f (take k gs) + f (get_or gs k d)
total_more f gs k d lt = ap (total f) (take_more gs k d lt) ∙ total_push f (take k gs) (get_or gs k d)

-- the first so many are no more than all
pub total_grows : (f : Group → ℕ) (gs : List Group) (k : ℕ) → total f (take k gs) ≤ total f gs
total_grows f [] k = omega (arith, ap (total f) (take_all k [] (omega arith)))
total_grows f (g ∷ gs) zero = omega arith
total_grows f (g ∷ gs) (suc k) = omega (arith, total_grows f gs k)

is_true : (a b : ℕ) → a < b → nat_lt a b ≡ true
is_true a b lt = grind (arith, nat_tests)

is_false : (a b : ℕ) → b ≤ a → nat_lt a b ≡ false
is_false a b le = grind (arith, nat_tests)

pub taken : (b : Bool) (m : ℕ) → b ≡ true → cond b m 0 ≡ m
taken b m e = ap (λ (x : Bool). cond x m 0) e

left_out : (b : Bool) (m : ℕ) → b ≡ false → cond b m 0 ≡ 0
left_out b m e = ap (λ (x : Bool). cond x m 0) e

-- those that begin before a place are the first so many
pub total_begun : (f : Group → ℕ) (place : ℕ) (gs : List Group) (k : ℕ) → AreBegun place gs k → total_before f place gs ≡ total f (take k gs)
total_begun f place [] k b = ap (total f) (sym (take_all k [] (omega arith)))
total_begun f place (g ∷ gs) zero b =
    let rest = total_begun f place gs 0 (record {
      within = omega arith;
      before = λ j d lt. absurd (omega (arith, lt));
      behind = λ j d from lt. b.behind (suc j) d (omega arith) (omega (arith, lt));
    }) in
    let none : total_before f place gs ≡ 0 = rest in
    omega (arith, none, left_out (nat_lt g.first place) (f g) (is_false g.first place (b.behind 0 g (omega arith) (omega arith))))
total_begun f place (g ∷ gs) (suc k) b =
    let rest = total_begun f place gs k (record {
      within = omega (arith, b.within);
      before = λ j d lt. b.before (suc j) d (omega (arith, lt));
      behind = λ j d from lt. b.behind (suc j) d (omega (arith, from)) (omega (arith, lt));
    }) in
    omega (arith, rest, taken (nat_lt g.first place) (f g) (is_true g.first place (b.before 0 g (omega arith))))

-- ---- all, and none

at_most : (b : Bool) (m : ℕ) → cond b m 0 ≤ m
at_most true m = omega arith
at_most false m = omega arith

pub total_within : (f : Group → ℕ) (place : ℕ) (gs : List Group) → total_before f place gs ≤ total f gs
total_within f place [] = omega arith
total_within f place (g ∷ gs) = omega (arith, at_most (nat_lt g.first place) (f g), total_within f place gs)

all_before : (f : Group → ℕ) (place : ℕ) (gs : List Group) → ((k : ℕ) (d : Group) → k < length gs → (get_or gs k d).first < place) → total_before f place gs ≡ total f gs
all_before f place [] h = refl
all_before f place (g ∷ gs) h =
    let rest = all_before f place gs (λ k d lt. h (suc k) d (omega (arith, lt))) in
    omega (arith, rest, taken (nat_lt g.first place) (f g) (is_true g.first place (h 0 g (omega arith))))

none_before : (f : Group → ℕ) (gs : List Group) → total_before f 0 gs ≡ 0
none_before f [] = refl
none_before f (g ∷ gs) = omega (arith, none_before f gs, left_out (nat_lt g.first 0) (f g) (is_false g.first 0 (omega arith)))

-- ---- what fits

-- what is no more than a group's members is in all no more than the objects
total_few : (f : Group → ℕ) (place n : ℕ) (gs : List Group) → FollowOn place n gs → ((g : Group) → 0 < g.count → f g ≤ g.count) → total f gs + place ≤ n
total_few f place n [] h le = omega (arith, h)
total_few f place n (g ∷ gs) h le = omega (arith, h.0, le g h.1, total_few f (g.first + g.count) n gs h.2 le)

one_few : (s : Parts) (frame : ℕ) (states : Sub → State) (g : Group) → 0 < g.count → one_hidden s frame states g ≤ g.count
one_few s frame states g some = omega (arith, some, at_most (is_hidden_group s frame states g) 1)

members_few : (s : Parts) (frame : ℕ) (states : Sub → State) (g : Group) → members_hidden s frame states g ≤ g.count
members_few s frame states g =
    let size = size_of s in
    let shapes = member_shapes s frame g in
    let front = take g.count (drop g.first s.objects) in
    let all : members_of (hull_of s frame g) ≤ g.count =
    omega (arith, members_are size None shapes, counted_few size shapes, length-map front (object_shape s frame), length-take g.count (drop g.first s.objects)) in
    omega (arith, all, at_most (is_hidden_group s frame states g) (members_of (hull_of s frame g)))

pub total_fits : (f : Group → ℕ) (n : ℕ) (gs : List Group) → AreApart n gs → ((g : Group) → 0 < g.count → f g ≤ g.count) → total f gs ≤ n
total_fits f n gs apart le = omega (arith, total_few f 0 n gs (follow_on 0 n gs apart (omega arith) (λ d some. omega arith)) le)

pub hidden_fit : (s : Parts) (frame : ℕ) (states : Sub → State) (n : ℕ) (gs : List Group) → AreApart n gs → total (one_hidden s frame states) gs ≤ n
hidden_fit s frame states n gs apart = total_fits (one_hidden s frame states) n gs apart (one_few s frame states)

pub members_fit : (s : Parts) (frame : ℕ) (states : Sub → State) (n : ℕ) (gs : List Group) → AreApart n gs → total (members_hidden s frame states) gs ≤ n
members_fit s frame states n gs apart = total_fits (members_hidden s frame states) n gs apart (λ g some. members_few s frame states g)

pub told_few : (s : Parts) (frame : ℕ) (states : Sub → State) (gs : List Group) (n place : ℕ) → AreApart n gs → n < 2 ^ 32 → IsFew (told_before s frame states gs place)
told_few s frame states gs n place apart small = record {
  hidden = omega (arith, small, total_within (one_hidden s frame states) place gs, hidden_fit s frame states n gs apart);
  members = omega (arith, small, total_within (members_hidden s frame states) place gs, members_fit s frame states n gs apart);
}

-- ---- from group to group

-- what is counted of the groups from one number to another
pub record CountsTo (s : Parts) (frame : ℕ) (states : Sub → State) (gs : List Group) (from to : ℕ) (t : Tally) : Type 0 where
  pub hidden : total (one_hidden s frame states) (take from gs) + t.hidden ≡ total (one_hidden s frame states) (take to gs)
  pub members : total (members_hidden s frame states) (take from gs) + t.members ≡ total (members_hidden s frame states) (take to gs)

module _ (s : Parts) (frame : ℕ) (states : Sub → State) (gs : List Group) where
  -- with one group more
  pub counts_next : (from k : ℕ) (t more : Tally) (g : Group) → k < length gs → CountsTo s frame states gs from k t → more ≡ group_tally s frame states g → ((d : Group) → g ≡ get_or gs k d)
      → CountsTo s frame states gs from (k + 1) (tally_and t more)
  counts_next from k t more g lt so_far told at =
      let hidden = ap (λ (x : Tally). x.hidden) told in let members = ap (λ (x : Tally). x.members) told in
      record {
        hidden = omega (arith, so_far.hidden, hidden, total_more (one_hidden s frame states) gs k g lt, ap (one_hidden s frame states) (at g));
        members = omega (arith, so_far.members, members, total_more (members_hidden s frame states) gs k g lt, ap (members_hidden s frame states) (at g));
      }

  -- and then no more than there are objects
  pub next_fits : (n from k to : ℕ) (t more : Tally) (g : Group) → AreApart n gs → k < to → to ≤ length gs → CountsTo s frame states gs from k t → more ≡ group_tally s frame states g
      → ((d : Group) → g ≡ get_or gs k d) → (t.hidden + more.hidden ≤ n) × (t.members + more.members ≤ n)
  next_fits n from k to t more g apart below within so_far told at =
      let counted = counts_next from k t more g (omega (arith, below, within)) so_far told at in (
        omega (arith, counted.hidden, total_grows (one_hidden s frame states) gs (k + 1), hidden_fit s frame states n gs apart),
        omega (arith, counted.members, total_grows (members_hidden s frame states) gs (k + 1), members_fit s frame states n gs apart),
      )

  -- of those that begin between two places
  pub counts_told : (first end from to : ℕ) (t : Tally) → AreBegun first gs from → AreBegun end gs to → CountsTo s frame states gs from to t
      → Adds (told_before s frame states gs first) t (told_before s frame states gs end)
  counts_told first end from to t begun ended counted = record {
    hidden = omega (arith, total_begun (one_hidden s frame states) first gs from begun, total_begun (one_hidden s frame states) end gs to ended, counted.hidden);
    members = omega (arith, total_begun (members_hidden s frame states) first gs from begun, total_begun (members_hidden s frame states) end gs to ended, counted.members);
  }

-- ---- what is told of all objects

ends_behind : (n : ℕ) (gs : List Group) → AreApart n gs → (k : ℕ) (d : Group) → k < length gs → (get_or gs k d).first < n
ends_behind n gs apart k d lt = omega (arith, apart.some k d lt, apart.within k d lt)

pub told_hidden : (s : Parts) (frame : ℕ) (states : Sub → State) (gs : List Group) (n : ℕ) (t : Tally) → AreApart n gs → Adds (told_before s frame states gs 0) t (told_before s frame states gs n)
    → t.hidden ≡ hidden_groups s frame states gs
told_hidden s frame states gs n t apart adds =
    let f = one_hidden s frame states in
    omega (arith, adds.hidden, none_before f gs, all_before f n gs (ends_behind n gs apart))

pub told_members : (s : Parts) (frame : ℕ) (states : Sub → State) (gs : List Group) (n : ℕ) (t : Tally) → AreApart n gs → Adds (told_before s frame states gs 0) t (told_before s frame states gs n)
    → t.members ≡ hidden_members s frame states gs
told_members s frame states gs n t apart adds =
    let f = members_hidden s frame states in
    omega (arith, adds.members, none_before f gs, all_before f n gs (ends_behind n gs apart))
