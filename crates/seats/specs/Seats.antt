-- The seats of tasks, each with its task but while a worker has it.
use Rattle.std.specs.Prelude.{◌≡◌, ℕ, ◌<◌, List, None, Some, length, slice_index, slice_index_or, sum_by, map}
use Rattle.std.specs.declared.option.Option.{Option}
use Rattle.seats.specs.declared.seats.Loan.{Loan}

-- the task of a seat, of which something holds, under the seal that has the seat's name
pub record IsLoan {X : Type 0} (holds : ℕ → X → Type 0) (names : List ℕ) (seat : ℕ) (l : Loan X) : Type 0 where
  pub seat_is : l.seat ≡ seat
  pub there : seat < length names
  pub seal_is : l.seal.name ≡ slice_index names seat
  pub seal_parts : l.seal.parts ≡ 1
  pub at : holds seat l.task

-- the same as a fact, whatever it is
abbrev pub Known : {X : Type 0} → (ℕ → X → Type 0) → ℕ → X → Type 0
Known holds seat x = ∥ holds seat x ∥₁

-- a seat for each name, in which no other task than the seat's is
pub record ArePlaced {X : Type 0} (holds : ℕ → X → Type 0) (names : List ℕ) (seats : List (Option (Loan X)))
    : Type 0 where
  pub count : length seats ≡ length names
  pub each : (i : ℕ) (d : Option (Loan X)) (l : Loan X) → i < length seats → slice_index_or seats i d ≡ Some l
      → IsLoan holds names i l

-- 1 where nothing is
abbrev pub gap : {A : Type 0} → Option A → ℕ
gap None = 1
gap (Some x) = 0

-- how many seats are empty
abbrev pub gaps : {A : Type 0} → List (Option A) → ℕ
gaps seats = sum_by gap seats

-- a seat that has its task
abbrev pub IsSeated : {X : Type 0} → (ℕ → X → Type 0) → List ℕ → ℕ → Option (Loan X) → Type 0
IsSeated holds names i None = ⊥
IsSeated holds names i (Some l) = IsLoan holds names i l

-- each seat has its task
pub record AreSeated {X : Type 0} (holds : ℕ → X → Type 0) (names : List ℕ) (seats : List (Option (Loan X)))
    : Type 0 where
  pub count : length seats ≡ length names
  pub each : (i : ℕ) (d : Option (Loan X)) → i < length seats → IsSeated holds names i (slice_index_or seats i d)

-- the names of seats that have their tasks
abbrev pub seal_of : {X : Type 0} → Option (Loan X) → ℕ
seal_of None = 0
seal_of (Some l) = l.seal.name

abbrev pub seals_of : {X : Type 0} → List (Option (Loan X)) → List ℕ
seals_of seats = map seal_of seats

-- each seat has its task, under the seal that is in it
abbrev pub AreAllSeated : {X : Type 0} → (ℕ → X → Type 0) → List (Option (Loan X)) → Type 0
AreAllSeated holds seats = AreSeated holds (seals_of seats) seats

-- two facts hold of the same tasks
abbrev pub Means : {X : Type 0} → (ℕ → X → Type 0) → (ℕ → X → Type 0) → Type 0
Means {X} P Q = (i : ℕ) (x : X) → (P i x → Q i x) × (Q i x → P i x)
