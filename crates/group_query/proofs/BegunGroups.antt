-- How many groups begin before a place: what is known of it when one more is looked at.
use Rattle.std.proofs.Common.{◌≡◌, ℕ, ◌+◌, ◌<◌, ◌≤◌, true, false, nat_lt, List, length, get_or, arith, sym, subst, inl, inr}
use Rattle.std.proofs.lemmas.Bool.{cases_lt}
use Rattle.std.proofs.lemmas.Bool.Decides.{nat_tests}
use Rattle.group_query.specs.Grouping.{AreApart, AreBegun, AreBegunBetween}
use Rattle.group_query.specs.declared.grouping.Group.{Group}

-- groups begin in order
begin_in_order : (n : ℕ) (gs : List Group) (j k : ℕ) (d : Group) → AreApart n gs → j ≤ k → k < length gs → (get_or gs j d).first ≤ (get_or gs k d).first
begin_in_order n gs j k d h le lt = elim (cases_lt j k) [
  | inl below ↦ (let a = h.apart j k d below lt in omega (arith, a))
  | inr past ↦ (let same : k ≡ j = omega (arith, le, past) in subst (λ (i : ℕ). (get_or gs j d).first ≤ (get_or gs i d).first) (sym same) (omega arith))
]

is_before : (a b : ℕ) → nat_lt a b ≡ true → a < b
is_before a b e = grind (arith, nat_tests)

is_behind : (a b : ℕ) → nat_lt a b ≡ false → b ≤ a
is_behind a b e = grind (arith, nat_tests)

pub begun_more : (n place : ℕ) (gs : List Group) (least greatest m : ℕ) → AreApart n gs → AreBegunBetween place gs least greatest → least ≤ m → m < greatest
    → ((d : Group) → nat_lt (get_or gs m d).first place ≡ true) → AreBegunBetween place gs (m + 1) greatest
begun_more n place gs least greatest m apart b le lt test = record {
  ordered = omega (arith, lt);
  within = b.within;
  before = λ k d below.
      let at = is_before (get_or gs m d).first place (test d) in
      let order = begin_in_order n gs k m d apart (omega (arith, below)) (omega (arith, lt, b.within)) in
      omega (arith, at, order);
  behind = b.behind;
}

pub begun_no_more : (n place : ℕ) (gs : List Group) (least greatest m : ℕ) → AreApart n gs → AreBegunBetween place gs least greatest → least ≤ m → m < greatest
    → ((d : Group) → nat_lt (get_or gs m d).first place ≡ false) → AreBegunBetween place gs least m
begun_no_more n place gs least greatest m apart b le lt test = record {
  ordered = le;
  within = omega (arith, lt, b.within);
  before = b.before;
  behind = λ k d from below.
      let at = is_behind (get_or gs m d).first place (test d) in
      let order = begin_in_order n gs m k d apart from below in
      omega (arith, at, order);
}

pub begun_exactly : (place : ℕ) (gs : List Group) (least greatest : ℕ) → AreBegunBetween place gs least greatest → greatest ≤ least → AreBegun place gs least
begun_exactly place gs least greatest b le = record {
  within = omega (arith, b.ordered, b.within);
  before = b.before;
  behind = λ k d from below. b.behind k d (omega (arith, from, le)) below;
}

-- no fewer begin before a later place
pub begun_rises : (a b : ℕ) (gs : List Group) (j k : ℕ) (d : Group) → AreBegun a gs j → AreBegun b gs k → a ≤ b → j ≤ k
begun_rises a b gs j k d f g le = elim (cases_lt k j) [
  | inl less ↦ (let before = f.before k d less in let behind = g.behind k d (omega arith) (omega (arith, less, f.within)) in absurd (omega (arith, before, behind, le)))
  | inr no_less ↦ no_less
]
