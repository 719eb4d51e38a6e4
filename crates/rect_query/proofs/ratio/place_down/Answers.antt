use Rattle.std.proofs.Common.{◌≡◌, ◌∙◌, ◌*◌, ◌*ℤ◌, ◌-ℤ◌, pos, ap, arith, FitsSigned, w64}
use Rattle.std.proofs.lemmas.Int.{ints, to_z-of_z}
use Rattle.snap_setup.specs.declared.snapping.Place.{Place}
use Rattle.snap_setup.specs.Snapping.{round_half}
use Rattle.snap_setup.proofs.BoxSteps.{coordinate_fits}
use Rattle.rect_query.proofs.Rising.{place_down_is, number_small, w_small, fits_small}
use Rattle.rect_query.proofs.ratio.place_down.Goals as goal

pub returns-clause-value : goal.returns-clause-value
returns-clause-value c =
    let r = c.args.ratio in
    let far = number_small c.args.near.distance r c.args.near.most c.requires in let wide = w_small c.args.near.distance r c.args.near.most c.requires in
    let fn = fits_small r.number far in let fw = fits_small r.w wide in
    let fy : FitsSigned w64 (pos 0 -ℤ r.number) = omega (arith, ints, far) in let fx : FitsSigned w64 (pos 0 -ℤ r.w) = omega (arith, ints, wide) in
    let fits = coordinate_fits c.place_of.result.y c.place_of.ensures.y_within in
    let e : c.place_of.result.y ≡ round_half (pos (8 * c.args.size.height) *ℤ (r.w -ℤ (pos 0 -ℤ r.number))) r.w = simp to_z-of_z at (ap (λ (q : Place). q.y) c.place_of.ensures.value) in
    simp to_z-of_z (e ∙ place_down_is c.args.size.height r)
