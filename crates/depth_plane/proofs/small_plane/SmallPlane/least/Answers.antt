use Rattle.std.proofs.Common.{◌≡◌, ℕ, ℤ, pos, ◌*◌, ◌+ℤ◌, ◌*ℤ◌, FitsSigned, w64, rules, subst}
use Rattle.std.proofs.lemmas.Int.{to_z-of_z}
use Rattle.cull_base.specs.Piece.{least_of, sample, each_sample}
use Rattle.cull_base.specs.declared.place.Sub.{Sub}
use Rattle.depth_plane.specs.Plane.{Coefficients, numerator_at, IsNarrow}
use Rattle.depth_plane.proofs.Corners.{least_from_first}
use Rattle.depth_plane.proofs.small_plane.SmallPlane.least.Goals as goal

joined : (c v : Coefficients) (u : Sub) (f r : ℤ) (i j : ℕ) → c ≡ v → IsNarrow c f → r ≡ (f +ℤ (c.across *ℤ pos (128 * i))) +ℤ (c.down *ℤ pos (64 * j)) → i ≡ u.column → j ≡ u.row →
    r ≡ least_of (each_sample (λ k. numerator_at v (sample u k)))
joined c v u f r i j ev h er ei ej = let g = subst (λ w. IsNarrow w f) ev h in rw (er, ev, ei, ej) (least_from_first v u f g)

pub returns-clause-value : goal.returns-clause-value
returns-clause-value c =
    let fa : FitsSigned w64 c.self.inside.across = search rules in
    let fd : FitsSigned w64 c.self.inside.down = search rules in
    let ff : FitsSigned w64 c.self.inside.first = search rules in
    let fr : FitsSigned w64 c.narrow_numerator.result = search rules in
    simp to_z-of_z (joined _ c.args.self.now c.args.sub c.self.inside.first c.narrow_numerator.result c.from-right.result c.from-below.result c.self.view_is c.self.invariant.1.0
    (simp to_z-of_z at c.narrow_numerator.ensures.value) c.from-right.ensures c.from-below.ensures)
