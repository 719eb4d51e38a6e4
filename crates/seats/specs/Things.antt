-- Things that are made one by one, each in the seat of its number.
use Rattle.std.specs.Prelude.{◌≡◌, ℕ, ◌<◌, List, length, slice_index_or}
use Rattle.seats.specs.declared.pool.Thing.{Thing}
use Rattle.seats.specs.declared.pool.Thing.TheVariants.{Waits, Made}

-- a thing waits, or is made
abbrev pub IsThing : {V X : Type 0} → (ℕ → V → Type 0) → (ℕ → X → Type 0) → ℕ → Thing V X → Type 0
IsThing waits made number (Waits thing) = waits number thing
IsThing waits made number (Made thing) = made number thing

-- so many things in order, each made
pub record AreAllMade {X : Type 0} (made : ℕ → X → Type 0) (count : ℕ) (things : List X) : Type 0 where
  pub count_is : length things ≡ count
  pub each : (k : ℕ) (d : X) → k < count → made k (slice_index_or things k d)
