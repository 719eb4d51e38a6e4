use lib.Signed.{le_z}
use Rattle.std.proofs.Common.{ℤ, pos, true, ◌≤ℤ◌, arith, ◌≡◌, ◌∙◌, ap, rules, FitsSigned}
use Rattle.std.specs.Int.{w128, int_max}
use Rattle.std.proofs.lemmas.Int.{ints, to_z-of_z}
use Rattle.cull_base.specs.Depth.{floor_of}
use Rattle.depth_plane.specs.Plane.{Coefficients}
use Rattle.depth_plane.proofs.Floors.{least_of_floor}
use Rattle.depth_plane.proofs.plane.Plane.floor_from.Goals as goal

from_test : (x y : ℤ) → le_z x y ≡ true → x ≤ℤ y
from_test x y h = grind (arith, ints, h)

pub returns-then-numerator-least : goal.returns-then-numerator-least
returns-then-numerator-least c =
    let fn : FitsSigned w128 c.args.numerator = c.ranges.numerator in let fl : FitsSigned w128 c.from-least.result = search rules in
    let fa : FitsSigned w128 c.from.result = search rules in
    let k = least_of_floor c.args.numerator c.args.nearness c.from-least.result c.from.result (pos c.self.inside.area) c.ranges.nearness.fits c.from-least.ensures (c.from.ensures ∙ ap pos c.number.ensures.value) c.self.invariant.0.positive_area c.self.invariant.0.area_within in
    let fp = k.0 in
    simp to_z-of_z (k.1 (from_test _ _ (simp to_z-of_z at c.if-numerator-least.true)) ∙ ap (λ (v : Coefficients). int_max (pos c.args.nearness) (floor_of c.args.numerator v.area)) c.self.view_is)
