-- Seats that tasks begin in, each under a seal of its own.
use Rattle.std.proofs.Common.{◌≡◌, ℕ, ◌<◌, zero, suc, List, [], ◌∷◌, ◌++◌, None, Some, MatchOption, length, get_or, slice_index, inl, inr, arith, refl, sym, subst}
use Rattle.std.specs.declared.option.Option.{Option}
use Rattle.std.proofs.lemmas.Bool.{cases_lt}
use Rattle.std.proofs.lemmas.List.{get_or_append_left, get_or_push, length-append, length-map}
use Rattle.seats.specs.Seats.{AreAllSeated, AreSeated, IsSeated, seal_of, seals_of}
use Rattle.seats.specs.declared.seats.Loan.{Loan}

-- a seat that a new task begins in
pub record IsFirst {X : Type 0} (holds : ℕ → X → Type 0) (seat : ℕ) (l : Loan X) : Type 0 where
  pub seat_is : l.seat ≡ seat
  pub seal_parts : l.seal.parts ≡ 1
  pub at : holds seat l.task

abbrev pub BeginsWith : {X : Type 0} → (ℕ → X → Type 0) → ℕ → Option (Loan X) → Type 0
BeginsWith holds seat None = ⊥
BeginsWith holds seat (Some l) = IsFirst holds seat l

-- seats of which each begins so
pub record AreFirst {X : Type 0} (holds : ℕ → X → Type 0) (seats : List (Option (Loan X))) : Type 0 where
  pub each : (i : ℕ) (d : Option (Loan X)) → i < length seats → BeginsWith holds i (get_or seats i d)

pub none_first : {X : Type 0} (holds : ℕ → X → Type 0) → AreFirst {X = X} holds []
none_first holds = record { each = λ i d lt. absurd (omega (arith, lt)) }

-- one seat more, at the end
pub first_pushed : {X : Type 0} (holds : ℕ → X → Type 0) (seats : List (Option (Loan X))) (o : Option (Loan X)) → AreFirst holds seats → BeginsWith holds (length seats) o → AreFirst holds (seats ++ o ∷ [])
first_pushed holds seats o are new = record {
  each = λ i d lt.
      let n = length-append seats (o ∷ []) in
      elim (cases_lt i (length seats)) [
        | inl below ↦ subst (BeginsWith holds i) (sym (get_or_append_left seats (o ∷ []) d i below)) (are.each i d below)
        | inr last ↦ (let same : i ≡ length seats = omega (arith, lt, last, n) in
            subst (BeginsWith holds i) (sym (get_or_push seats o d i (sym same))) (subst (λ m. BeginsWith holds m o) (sym same) new))
      ];
}

-- and so a new task in the seat after them
pub first_more : {X : Type 0} (holds : ℕ → X → Type 0) (seats after : List (Option (Loan X))) (n : ℕ) (l : Loan X) (x : X) → after ≡ seats ++ Some l ∷ [] → length seats ≡ n → AreFirst holds seats
    → l.seat ≡ n → l.seal.parts ≡ 1 → l.task ≡ x → holds n x → AreFirst holds after
first_more {X} holds seats after n l x is count are seat seal task at =
    let begins : BeginsWith holds n (Some l) = record { seat_is = seat; seal_parts = seal; at = subst (holds n) (sym task) at } in
    subst (λ (xs : List (Option (Loan X))). AreFirst holds xs) (sym is) (first_pushed holds seats (Some l) are (subst (λ m. BeginsWith holds m (Some l)) (sym count) begins))

seal_at : {X : Type 0} (seats : List (Option (Loan X))) (i : ℕ) (d : Option (Loan X)) → i < length seats → seal_of (get_or seats i d) ≡ slice_index (seals_of seats) i
seal_at [] i d lt = absurd (omega arith)
seal_at (x ∷ xs) zero d lt = refl
seal_at (x ∷ xs) (suc i) d lt = seal_at xs i d (omega arith)

-- the seals of new tasks name their seats
first_seated : {X : Type 0} (holds : ℕ → X → Type 0) (names : List ℕ) (seat : ℕ) (o : Option (Loan X)) → seat < length names → seal_of o ≡ slice_index names seat → BeginsWith holds seat o → IsSeated holds names seat o
first_seated holds names seat None lt name first = first
first_seated holds names seat (Some l) lt name first = record {
  seat_is = first.seat_is;
  there = lt;
  seal_is = name;
  seal_parts = first.seal_parts;
  at = first.at;
}

pub all_seated : {X : Type 0} (holds : ℕ → X → Type 0) (seats : List (Option (Loan X))) → AreFirst holds seats → AreAllSeated holds seats
all_seated holds seats first = record {
  count = sym (length-map seats seal_of);
  each = λ i d lt. first_seated holds (seals_of seats) i (get_or seats i d) (omega (arith, lt, length-map seats seal_of)) (seal_at seats i d lt) (first.each i d lt);
}

-- tasks in their seats are under the seals that are in them
named_by_own : {X : Type 0} (holds : ℕ → X → Type 0) (names own : List ℕ) (seat : ℕ) (o : Option (Loan X)) → seat < length own → seal_of o ≡ slice_index own seat → IsSeated holds names seat o → IsSeated holds own seat o
named_by_own holds names own seat None lt name at = at
named_by_own holds names own seat (Some l) lt name at = record {
  seat_is = at.seat_is;
  there = lt;
  seal_is = name;
  seal_parts = at.seal_parts;
  at = at.at;
}

pub by_own_names : {X : Type 0} (holds : ℕ → X → Type 0) (names : List ℕ) (seats : List (Option (Loan X))) → AreSeated holds names seats → AreAllSeated holds seats
by_own_names holds names seats are = record {
  count = sym (length-map seats seal_of);
  each = λ i d lt. named_by_own holds names (seals_of seats) i (get_or seats i d) (omega (arith, lt, length-map seats seal_of)) (seal_at seats i d lt) (are.each i d lt);
}

-- what a slot has where all tasks are in their seats
pub there_at : {X : Type 0} (holds : ℕ → X → Type 0) (seats : List (Option (Loan X))) (seat : ℕ) (o : Option (Loan X)) → o ≡ get_or seats seat o → seat < length seats → AreAllSeated holds seats → MatchOption o ⊥ (λ l. holds seat l.task)
there_at holds seats seat None is lt are = subst (IsSeated holds (seals_of seats) seat) (sym is) (are.each seat None lt)
there_at holds seats seat (Some l) is lt are =
    let here : IsSeated holds (seals_of seats) seat (Some l) = subst (IsSeated holds (seals_of seats) seat) (sym is) (are.each seat (Some l) lt) in
    here.at
