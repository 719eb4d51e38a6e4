use Rattle.std.proofs.Common.{◌≡◌, ℕ, ℤ, pos, ◌+◌, ◌*◌, ◌+ℤ◌, ◌*ℤ◌, FitsSigned, w64, rules, refl}
use Rattle.std.specs.Int.{w128}
use Rattle.std.proofs.lemmas.Int.{to_z-of_z}
use Rattle.cull_base.specs.Piece.{sample, each_sample}
use Rattle.cull_base.specs.declared.place.Sub.{Sub}
use Rattle.depth_plane.specs.Plane.{Coefficients, numerator_at}
use Rattle.depth_plane.specs.Corner.{best_of, end_place}
use Rattle.depth_plane.specs.declared.corner.End.{End}
use Rattle.depth_plane.proofs.Corners.{corner_best}
use Rattle.depth_plane.proofs.plane.Plane.outermost.Goals as goal

joined : (end : End) (c v : Coefficients) (u : Sub) (r : ℤ) (fx fy px py x y : ℕ) → c ≡ v → r ≡ ((c.across *ℤ pos x) +ℤ (c.down *ℤ pos y)) +ℤ c.level →
    x ≡ px + end_place end c.across 112 → y ≡ py + end_place end c.down 48 → px ≡ 16 * fx + 8 → py ≡ 16 * fy + 8 → fx ≡ 8 * u.column → fy ≡ 4 * u.row →
    r ≡ best_of end (each_sample (λ k. numerator_at v (sample u k)))
joined end c v u r fx fy px py x y ev er ex ey epx epy efx efy = rw (← ev, er) (corner_best end c u x y (rw (ex, epx, efx) refl) (rw (ey, epy, efy) refl))

pub returns-clause-value : goal.returns-clause-value
returns-clause-value c =
    let fa : FitsSigned w64 c.self.inside.across = search rules in let fd : FitsSigned w64 c.self.inside.down = search rules in
    let fl : FitsSigned w128 c.self.inside.level = search rules in let fr : FitsSigned w128 c.numerator_at.result = search rules in
    simp to_z-of_z (joined c.args.end _ c.args.self.now c.args.sub c.numerator_at.result (8 * c.args.sub.column) (4 * c.args.sub.row) c.place.result c.place-2.result c.place_along-x.result c.place_along-y.result c.self.view_is
    (simp to_z-of_z at c.numerator_at.ensures.value) (simp to_z-of_z at c.place_along-x.ensures.value) (simp to_z-of_z at c.place_along-y.ensures.value) c.place.ensures.value c.place-2.ensures.value refl refl)
