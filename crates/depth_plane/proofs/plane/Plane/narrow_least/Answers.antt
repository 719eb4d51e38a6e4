use Rattle.std.proofs.Common.{◌≡◌, ℕ, ℤ, pos, ◌*◌, ◌+ℤ◌, ◌*ℤ◌, FitsSigned, w64, rules}
use Rattle.std.proofs.lemmas.Int.{to_z-of_z}
use Rattle.cull_base.specs.Piece.{least_of, sample, each_sample}
use Rattle.cull_base.specs.declared.place.Sub.{Sub}
use Rattle.depth_plane.specs.Plane.{Coefficients, numerator_at, IsNarrow}
use Rattle.depth_plane.proofs.Corners.{least_from_first}
use Rattle.depth_plane.proofs.plane.Plane.narrow_least.Goals as goal

joined : (c v : Coefficients) (u : Sub) (f r : ℤ) (i j : ℕ) → c ≡ v → IsNarrow v f → r ≡ (f +ℤ (c.across *ℤ pos (128 * i))) +ℤ (c.down *ℤ pos (64 * j)) → i ≡ u.column → j ≡ u.row →
    r ≡ least_of (each_sample (λ k. numerator_at v (sample u k)))
joined c v u f r i j ev h er ei ej = rw (er, ev, ei, ej) (least_from_first v u f h)

pub returns-clause-value : goal.returns-clause-value
returns-clause-value c =
    let fa : FitsSigned w64 c.self.inside.across = search rules in
    let fd : FitsSigned w64 c.self.inside.down = search rules in
    let ff : FitsSigned w64 c.args.first = c.ranges.first in
    let fr : FitsSigned w64 c.narrow_numerator.result = search rules in
    simp to_z-of_z (joined _ c.args.self.now c.args.sub c.args.first c.narrow_numerator.result c.from-right.result c.from-below.result c.self.view_is c.requires.first
    (simp to_z-of_z at c.narrow_numerator.ensures.value) c.from-right.ensures c.from-below.ensures)
