-- What holds of the elements of a part of a slice, by their places in the whole.
use Rattle.std.specs.Prelude.{ℕ, ◌+◌, ◌<◌, List, length, slice_index_or}

-- P holds of each element and its place, where the first stands at base
abbrev pub EachFrom : {X : Type 0} → (ℕ → X → Type 0) → ℕ → List X → Type 0
EachFrom P base xs = (k : ℕ) (d : _) → k < length xs → P (base + k) (slice_index_or xs k d)

-- R holds of each place and the elements there before and after
pub record EachBothFrom {X : Type 0} (R : ℕ → X → X → Type 0) (base : ℕ) (xs ys : List X) : Type 0 where
  pub each : (k : ℕ) (d : X) → k < length xs → R (base + k) (slice_index_or xs k d) (slice_index_or ys k d)
