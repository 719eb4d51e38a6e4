use Rattle.std.proofs.Common.{◌≡◌, ℤ, pos, ◌*ℤ◌, ◌<ℤ◌, ap, rules, FitsSigned, Bool, IsTrue}
use Rattle.std.specs.Int.{w128}
use Rattle.std.proofs.lemmas.Int.{to_z-of_z}
use Rattle.cull_base.specs.Piece.{Piece, Point}
use Rattle.cull_base.specs.Depth.{DepthLess}
use Rattle.depth_plane.specs.Plane.{Coefficients, plane_of, numerator_at, IsNearer, point_of}
use Rattle.depth_plane.proofs.Planes.{numerator_at-plane_of, area-plane_of}
use Rattle.depth_plane.proofs.plane.Plane.nearer.Goals as goal

joined : (c o : Coefficients) (p : Point) (b : Bool) (n m d e : ℤ) → (IsTrue b → (m *ℤ d) <ℤ (n *ℤ e)) × ((m *ℤ d) <ℤ (n *ℤ e) → IsTrue b) →
    n ≡ numerator_at c p → m ≡ numerator_at o p → d ≡ c.area → e ≡ o.area → (IsTrue b → IsNearer c o p) × (IsNearer c o p → IsTrue b)
joined c o p b n m d e h en em ed ee = rw (← en, ← em, ← ed, ← ee) h

of_pieces : (c o : Coefficients) (s t : Piece) (p : Point) (b : Bool) → (IsTrue b → IsNearer c o p) × (IsNearer c o p → IsTrue b) → c ≡ plane_of s → o ≡ plane_of t → (IsTrue b → DepthLess t s p) × (DepthLess t s p → IsTrue b)
of_pieces c o s t p b h ec eo =
    let n = numerator_at-plane_of s p in let m = numerator_at-plane_of t p in let d = area-plane_of s in let e = area-plane_of t in
    let k = rw (ec, eo) at h in
    rw (← n, ← m, ← d, ← e) k

pub returns-clause-value : goal.returns-clause-value
returns-clause-value c =
    let fn : FitsSigned w128 c.at.result = search rules in let fm : FitsSigned w128 c.at-2.result = search rules in
    let h = simp to_z-of_z at c.is_greater.ensures in
    joined c.args.self.now c.args.other.now (point_of c.args.sample) c.is_greater.result c.at.result c.at-2.result (pos c.self.inside.area) (pos c.other.inside.area) h
    c.at.ensures.value c.at-2.ensures.value (ap (λ (v : Coefficients). v.area) c.self.view_is) (ap (λ (v : Coefficients). v.area) c.other.view_is)

pub returns-clause-pieces : goal.returns-clause-pieces
returns-clause-pieces c s t es et = of_pieces c.args.self.now c.args.other.now s t (point_of c.args.sample) c.is_greater.result (returns-clause-value c) es et
