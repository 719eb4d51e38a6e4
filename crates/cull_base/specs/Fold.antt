-- The states of a subtile under a list of pieces, and what makes them sound.
use Rattle.std.specs.Prelude.{ℕ, ◌≡◌, ◌<◌, List, true, false, ◌⊎◌}
use Rattle.std.specs.List.{fold, Contains}
use Rattle.cull_base.specs.State.{State, step_with, empty_state, is_none, bound_at}
use Rattle.cull_base.specs.Piece.{Piece, Point, covered, covers, sample}
use Rattle.cull_base.specs.Depth.{low_of, DepthAtLeast, DepthNoGreater}
use Rattle.cull_base.specs.declared.place.Sub.{Sub}

-- the masked update of a subtile by a piece
abbrev pub step : Sub → State → Piece → State
step u s t = step_with s (low_of t u) (covered t u)

-- The state after a whole list. It knows no tile, box, bin, batch or thread, and no mask as a number.
unfoldable pub after : Sub → List Piece → State
after u pieces = fold (step u) empty_state pieces

-- t has the best depth at p: it is a member that covers p, and no member that covers p has a greater depth there
pub record HasBestDepth (pieces : List Piece) (p : Point) (t : Piece) : Type 0 where
  pub member : Contains pieces t
  pub covering : covers t p ≡ true
  pub greatest : (other : Piece) → Contains pieces other → covers other p ≡ true → DepthNoGreater other t p

-- the best depth at p is there, and at least v
abbrev pub BestAtLeast : List Piece → Point → ℕ → Type 0
BestAtLeast pieces p v = (t : Piece) × HasBestDepth pieces p t × DepthAtLeast t p v

-- at each sample the bound is 0, or the best depth is there and at least the bound
abbrev pub IsSound : Sub → List Piece → State → Type 0
IsSound u pieces s = (k : ℕ) → k < 32 → (bound_at s k ≡ 0) ⊎ BestAtLeast pieces (sample u k) (bound_at s k)

-- a set that isn't empty has a working depth above the reference, an empty one has none
pub record IsLayered (s : State) : Type 0 where
  pub above : is_none s.samples ≡ false → s.reference < s.working
  pub none : is_none s.samples ≡ true → s.working ≡ 0
