-- The bytes of a log that are still to be looked at: those in a buffer, and then what is left of the source.
use Rattle.std.specs.Prelude.{ℕ, ◌≡◌, ◌<◌, ◌≤◌, List, [], ◌∷◌, ◌++◌, Option, option_map, IfSome, Result, OnErr}
use Rattle.cull_base.specs.Stream.{SourceSays, Rose}

abbrev pub waiting : List ℕ → Option (List ℕ) → Option (List ℕ)
waiting held left = option_map (λ rest. held ++ rest) left

-- these bytes came, where they are told
abbrev pub Came : Option (List ℕ) → Option (List ℕ) → List ℕ → Type 0
Came before after bytes = before ≡ option_map (λ rest. bytes ++ rest) after

-- the log doesn't go on with these bytes
abbrev pub NeverComes : Option (List ℕ) → List ℕ → Type 0
NeverComes before bytes = IfSome before (λ log. (more : List ℕ) → log ≡ bytes ++ more → ⊥)

-- a digit of a number in decimal
abbrev pub IsDigit : ℕ → Type 0
IsDigit b = (48 ≤ b) × (b < 58)

-- text that goes on with no digit
abbrev pub IsBehindNumber : List ℕ → Type 0
IsBehindNumber [] = Unit {0}
IsBehindNumber (b ∷ bs) = IsDigit b → ⊥

-- a call that reads fails only where the source did, and the count of faults doesn't fall
pub record Fails {T E : Type 0} (before after : SourceSays) (result : Result T E) : Type 0 where
  pub failed : OnErr result (Rose before.faults after.faults)
  pub faults_stay : before.faults ≤ after.faults
