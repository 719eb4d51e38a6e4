-- A sample that hides a nearness has a piece that is nearer.
use Rattle.std.proofs.Common.{◌≡◌, ℕ, ℤ, pos, negsuc, suc, ◌*◌, ◌≤◌, ◌<◌, ◌*ℤ◌, ◌≤ℤ◌, ◌<ℤ◌, true, arith, List, inl, inr, nat_lt}
use Rattle.std.proofs.lemmas.Bool.Decides.{nat_tests}
use Rattle.std.proofs.lemmas.Int.{ints}
use Rattle.std.proofs.Math.Nat.{mul-le-mul_right}
use Rattle.cull_base.specs.declared.place.Sub.{Sub}
use Rattle.cull_base.specs.Piece.{Piece, Point, sample}
use Rattle.cull_base.specs.Depth.{numerator, denominator}
use Rattle.cull_base.specs.Fraction.{whole_number}
use Rattle.cull_base.specs.State.{State, bound_at, hides}
use Rattle.cull_base.specs.Fold.{IsSound}
use Rattle.cull_base.specs.Tiles.{ArePieces}
use Rattle.cull_base.specs.Nearer.{HasNearerPiece}

-- a depth that reaches a bound is strictly above what is below the bound
above : (q b : ℕ) (d n : ℤ) → q < b → pos 0 <ℤ d → (pos b *ℤ d) ≤ℤ n → (pos q *ℤ d) <ℤ (n *ℤ pos 1)
above q b (pos d) n lt p le = let m : suc q * d ≤ b * d = mul-le-mul_right d (omega arith) in let some : 0 < d = omega (arith, ints, p) in omega (arith, ints, le)
above q b (negsuc d) n lt p le = absurd (omega (arith, ints, p))

below : (m n : ℕ) → nat_lt m n ≡ true → m < n
below m n e = grind (arith, nat_tests)

-- a sample that hides a nearness has a piece strictly nearer
pub nearer_piece : (pieces : List Piece) (u : Sub) (s : State) (k q : ℕ) (p : Point) → ArePieces pieces → IsSound u pieces s → k < 32 → sample u k ≡ p → hides s k q ≡ true
    → HasNearerPiece pieces p (whole_number (pos q))
nearer_piece pieces u s k q p all sound lt at h =
    let under = below q (bound_at s k) h in
    elim (sound k lt) [
      | inl z ↦ absurd (omega arith)
      | inr best ↦ let (t, has, reach) = best in
          let positive = (all t has.member).positive_area in
          (t, has.member, rw (← at) has.covering, rw (← at) (above q (bound_at s k) (denominator t) (numerator t (sample u k)) under positive reach))
    ]
