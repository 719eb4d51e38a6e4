-- The fields of a subtile: what they are seen as, and what is true of them. What is said of a merge, and of hiding.
use Rattle.std.specs.Prelude.{ℕ, ◌-◌, ◌<◌, ◌≤◌, ◌^◌, ◌≡◌, IsTrue, true, Bool, List, [], ◌∷◌, ◌++◌}
use Rattle.cull_base.specs.declared.nearness.TheConstants.{HELD_TOP}
use Rattle.cull_base.specs.declared.place.Sub.{Sub}
use Rattle.cull_base.specs.Piece.{Piece, IsPiece, covered}
use Rattle.cull_base.specs.Depth.{low_of}
use Rattle.cull_base.specs.State.{State, samples_of, has, hides}
use Rattle.cull_base.specs.Fold.{IsSound}
use Rattle.cull_base.specs.Tiles.{ArePieces}

abbrev pub seen : ℕ → ℕ → ℕ → State
seen reference working mask = record { reference = reference; working = working; samples = samples_of mask }

-- An empty mask has no working depth, another one a working depth above the reference. No mask is full.
pub record Layers (reference working mask : ℕ) : Type 0 where
  pub reference_within : reference ≤ HELD_TOP
  pub working_within : working ≤ HELD_TOP
  pub working_nearer : 0 < mask → reference < working
  pub working_empty : mask ≡ 0 → working ≡ 0
  pub not_full : mask < 2 ^ 32 - 1

-- Where a bound and some samples are a piece's low bound and its covered samples, what was sound for some pieces is now
-- sound for them and it.
abbrev pub KeepsSound : ℕ → List Bool → State → State → Type 0
KeepsSound bound samples old new =
    (u : Sub) (pieces : List Piece) (x : Piece) → ArePieces pieces → IsPiece x → bound ≡ low_of x u → samples ≡ covered x u
    → IsSound u pieces old → IsSound u (pieces ++ x ∷ []) new

-- q is below the depth, if there is any sample
abbrev pub AllBelow : List Bool → ℕ → ℕ → Type 0
AllBelow samples q depth = (k : ℕ) → k < 32 → has samples k ≡ true → q < depth

-- each of the samples hides the nearness q
abbrev pub AllHide : State → List Bool → ℕ → Type 0
AllHide s samples q = (k : ℕ) → k < 32 → has samples k ≡ true → IsTrue (hides s k q)
