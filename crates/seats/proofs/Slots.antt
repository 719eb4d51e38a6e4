-- The seats of tasks: what is in one, and how many are empty after one is set.
use Rattle.std.proofs.Common.{◌≡◌, ℕ, ◌+◌, ◌<◌, zero, suc, List, [], ◌∷◌, None, Some, IfSome, length, get_or, slice_index, set, get_or-set_other, get_or-set_same, length-set, inl, inr, arith, refl, ap, sym, subst, ◌∙◌}
use Rattle.std.specs.declared.option.Option.{Option}
use Rattle.std.proofs.Math.Logic.{∥∥₁_elim}
use Rattle.std.proofs.lemmas.Bool.{cases_eq}
use Rattle.std.proofs.lemmas.List.Sums.{sum_by-set, sum_by-cons}
use Rattle.seats.specs.Seats.{ArePlaced, AreSeated, IsLoan, IsSeated, Known, gap, gaps}
use Rattle.seats.specs.declared.seats.Loan.{Loan}

pub same_some : {X : Type 0} (x y : X) → ◌≡◌ {A = Option X} (Some x) (Some y) → x ≡ y
same_some x y same = cc

-- one seat is set
pub put_in : {X : Type 0} (holds : ℕ → X → Type 0) (names : List ℕ) (seats : List (Option (Loan X))) (i : ℕ) (seat : Option (Loan X)) → ArePlaced holds names seats → ((l : Loan X) → seat ≡ Some l → IsLoan holds names i l) → ArePlaced holds names (set seats i seat)
put_in holds names seats i seat old new = record {
  count = length-set seats i seat ∙ old.count;
  each = λ b d l lt is.
      let same_length = length-set seats i seat in
      let below : b < length seats = omega (arith, lt, same_length) in
      elim (cases_eq b i) [
        | inl same ↦ (let inside : i < length seats = omega (arith, below, same) in
            subst (λ n. IsLoan holds names n l) (sym same) (new l (sym (ap (λ n. get_or (set seats i seat) n d) same ∙ get_or-set_same seats i seat d inside) ∙ is)))
        | inr other ↦ old.each b d l below (sym (get_or-set_other seats i b seat d other) ∙ is)
      ];
}

-- one seat more is empty where a task is taken, and one less where it is put back
pub gaps_set : {A : Type 0} (seats : List (Option A)) (i : ℕ) (old new : Option A) → i < length seats → old ≡ get_or seats i old → gaps (set seats i new) + gap old ≡ gaps seats + gap new
gaps_set seats i old new lt is = subst (λ o. gaps (set seats i new) + gap o ≡ gaps seats + gap new) (sym is) (sum_by-set gap seats i new old lt)

-- what is known of a task holds, where it has at most one proof
pub from_known : {X : Type 0} (holds : ℕ → X → Type 0) (names : List ℕ) (seat : ℕ) (l : Loan X) → ((i : ℕ) (x : X) → IsProp (holds i x)) → IsLoan (Known holds) names seat l → IsLoan holds names seat l
from_known holds names seat l fact k = record {
  seat_is = k.seat_is;
  there = k.there;
  seal_is = k.seal_is;
  seal_parts = k.seal_parts;
  at = ∥∥₁_elim k.at (fact seat l.task) (λ h. h);
}

pub to_known : {X : Type 0} (holds : ℕ → X → Type 0) (names : List ℕ) (seat : ℕ) (l : Loan X) → IsLoan holds names seat l → IsLoan (Known holds) names seat l
to_known holds names seat l k = record {
  seat_is = k.seat_is;
  there = k.there;
  seal_is = k.seal_is;
  seal_parts = k.seal_parts;
  at = ∣ k.at ∣₁;
}

-- who is in a seat has the seal of the seat
pub same_seal : {X : Type 0} (holds : ℕ → X → Type 0) (names : List ℕ) (seats : List (Option (Loan X))) (loan : Loan X) (other d : Option (Loan X)) → ArePlaced (Known holds) names seats → loan.seat < length seats → loan.seal.name ≡ slice_index names loan.seat → other ≡ get_or seats loan.seat d → IfSome other (λ o. (o.seal.name ≡ loan.seal.name) × (o.seal.parts ≡ 1))
same_seal holds names seats loan None d are lt name is = tt
same_seal holds names seats loan (Some o) d are lt name is =
    let at = are.each loan.seat d o lt (sym is) in (at.seal_is ∙ sym name, at.seal_parts)

-- seats that all have their tasks
full : {X : Type 0} (holds : ℕ → X → Type 0) (names : List ℕ) (i : ℕ) (o : Option (Loan X)) → IsSeated holds names i o → gap o ≡ 0
full holds names i None missing = absurd missing
full holds names i (Some l) at = refl

gaps_full : {A : Type 0} (xs : List (Option A)) → ((i : ℕ) (d : Option A) → i < length xs → gap (get_or xs i d) ≡ 0) → gaps xs ≡ 0
gaps_full [] each = refl
gaps_full (x ∷ xs) each =
    let first : gap x ≡ 0 = each 0 x (omega arith) in
    let rest = gaps_full xs (λ i d lt. each (suc i) d (omega arith)) in
    omega (arith, sum_by-cons gap x xs, first, rest)

pub seated_gaps : {X : Type 0} (holds : ℕ → X → Type 0) (names : List ℕ) (seats : List (Option (Loan X))) → AreSeated holds names seats → gaps seats ≡ 0
seated_gaps holds names seats are = gaps_full seats (λ i d lt. full holds names i (get_or seats i d) (are.each i d lt))

pub seated_placed : {X : Type 0} (holds : ℕ → X → Type 0) (names : List ℕ) (seats : List (Option (Loan X))) → AreSeated holds names seats → ArePlaced (Known holds) names seats
seated_placed holds names seats are = record {
  count = are.count;
  each = λ i d l lt is. to_known holds names i l (subst (IsSeated holds names i) is (are.each i d lt));
}

-- where no seat is empty, each has its task
none_empty : {A : Type 0} (xs : List (Option A)) (i : ℕ) (d : Option A) → gaps xs ≡ 0 → i < length xs → gap (get_or xs i d) ≡ 0
none_empty [] i d none lt = absurd (omega arith)
none_empty (x ∷ xs) zero d none lt = omega (arith, sum_by-cons gap x xs, none)
none_empty (x ∷ xs) (suc i) d none lt = none_empty xs i d (omega (arith, sum_by-cons gap x xs, none)) (omega arith)

in_place : {X : Type 0} (holds : ℕ → X → Type 0) (names : List ℕ) (i : ℕ) (o : Option (Loan X)) → ((j : ℕ) (x : X) → IsProp (holds j x)) → gap o ≡ 0 → ((l : Loan X) → o ≡ Some l → IsLoan (Known holds) names i l) → IsSeated holds names i o
in_place holds names i None fact none each = absurd (omega (arith, none))
in_place holds names i (Some l) fact none each = from_known holds names i l fact (each l refl)

pub placed_seated : {X : Type 0} (holds : ℕ → X → Type 0) (names : List ℕ) (seats : List (Option (Loan X))) → ((j : ℕ) (x : X) → IsProp (holds j x)) → ArePlaced (Known holds) names seats → gaps seats ≡ 0 → AreSeated holds names seats
placed_seated holds names seats fact are none = record {
  count = are.count;
  each = λ i d lt. in_place holds names i (get_or seats i d) fact (none_empty seats i d none lt) (λ l is. are.each i d l lt is);
}
