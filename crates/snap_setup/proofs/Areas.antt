-- A triangle turned has the opposite area.
use Rattle.std.proofs.Common.{◌≡◌, ℤ, pos, ◌<ℤ◌, ◌-ℤ◌, ◌*ℤ◌, arith}
use Rattle.std.proofs.lemmas.Int.{ints}
use Rattle.cull_base.specs.Piece.{doubled_area}
use Rattle.std.proofs.Math.IntN.{*ℤ_comm}
use Rattle.snap_setup.specs.declared.snapping.Snapped.{Snapped}
use Rattle.snap_setup.specs.Pieces.{triangle}

opposite : (p q r s : ℤ) → ((p *ℤ q) -ℤ (r *ℤ s)) <ℤ pos 0 → pos 0 <ℤ ((s *ℤ r) -ℤ (q *ℤ p))
opposite p q r s h = omega (arith, ints, h, *ℤ_comm p q, *ℤ_comm r s)

pub turned_area : (a b c : Snapped) (z : ℤ) → z ≡ doubled_area (triangle a b c) → z <ℤ pos 0 → pos 0 <ℤ doubled_area (triangle a c b)
turned_area a b c z e h = let k : doubled_area (triangle a b c) <ℤ pos 0 = rw (← e) h in opposite (b.x -ℤ a.x) (c.y -ℤ a.y) (b.y -ℤ a.y) (c.x -ℤ a.x) k
