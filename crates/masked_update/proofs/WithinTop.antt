-- A bound of a sound state is no nearer than the pieces that it is sound for.
use Rattle.std.proofs.Common.{◌≡◌, ℕ, pos, ◌<◌, ◌≤◌, List, arith, inl, inr}
use Rattle.std.specs.List.{Contains}
use Rattle.std.proofs.lemmas.Int.{ints}
use Rattle.cull_base.specs.declared.place.Sub.{Sub}
use Rattle.cull_base.specs.Depth.{denominator, greatest_nearness}
use Rattle.cull_base.specs.Fold.{BestAtLeast, IsSound}
use Rattle.cull_base.specs.Piece.{Piece, Point, sample}
use Rattle.cull_base.specs.State.{State, bound_at}
use Rattle.cull_base.specs.Tiles.{ArePieces}
use Rattle.depth_plane.proofs.Products.{le_times}
use Rattle.masked_update.proofs.Unchanged.{depth_within}

none_within : (v top : ℕ) → v ≡ 0 → v ≤ top
none_within v top e = omega (arith, e)

through : (v m top : ℕ) → v ≤ m → m ≤ top → v ≤ top
through v m top le most = omega (arith, le, most)

pub bound_within : (u : Sub) (pieces : List Piece) (s : State) (top k : ℕ) → ArePieces pieces → ((t : Piece) → Contains pieces t → greatest_nearness t ≤ top) → IsSound u pieces s → k < 32 → bound_at s k ≤ top
bound_within u pieces s top k all most sound lt = elim (sound k lt) [
  | inl none ↦ none_within (bound_at s k) top none
  | inr best ↦
      let (t, has, deep) = best in
      through (bound_at s k) (greatest_nearness t) top (depth_within t (sample u k) (bound_at s k) (all t has.member) has.covering deep) (most t has.member)
]

-- the best depth is at least what is less
pub best_less : (pieces : List Piece) (p : Point) (v w : ℕ) → ArePieces pieces → w ≤ v → BestAtLeast pieces p v → BestAtLeast pieces p w
best_less pieces p v w all le (t, best, at_least) =
    let d = (all t best.member).positive_area in
    let x = le_times (pos w) (pos v) (denominator t) (omega (arith, ints, d)) (omega (arith, ints, le)) in
    (t, best, omega (arith, ints, x, at_least))
