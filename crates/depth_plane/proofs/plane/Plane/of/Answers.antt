use Rattle.std.proofs.Common.{◌≡◌, ℕ, ℤ, pos, negsuc, ◌<◌, ◌<ℤ◌, ◌*ℤ◌, Option, Some, None, IfSome, ◌∙◌, ap, arith, FitsSigned, rules, w64}
use Rattle.std.specs.Int.{w128}
use Rattle.std.specs.Int.RustNames.{unsigned_abs}
use Rattle.std.proofs.lemmas.Int.{ints, to_z-of_z}
use Rattle.depth_plane.specs.Plane.{Coefficients, coefficients, numerator_at, HasLanes}
use Rattle.depth_plane.specs.declared.floor_lanes.FloorLanes.{FloorLanes}
use Rattle.depth_plane.proofs.Planes.{numerator_at-plane_of, area-plane_of, plane-bounded, plane_of-sized, positive, size_is}
use Rattle.depth_plane.proofs.plane.Plane.of.Goals as goal

-- the number that the divisor takes is the doubled area
area_is : (n : ℤ) (u r : ℕ) → pos 0 <ℤ n → u ≡ unsigned_abs n → r ≡ u → pos r ≡ n
area_is n u r h e f = ap pos f ∙ size_is n u h e

not_zero : (n : ℤ) (u : ℕ) → pos 0 <ℤ n → u ≡ unsigned_abs n → 0 < u
not_zero (pos k) u h e = omega (arith, ints, h, e)
not_zero (negsuc k) u h e = absurd (omega (arith, ints, h))

lanes_hold : (o : Option FloorLanes) (a d l : ℤ) (n : ℕ) → IfSome o (λ f. f.right ≡ a *ℤ pos 128) → IfSome o (λ f. f.below ≡ d *ℤ pos 64) → IfSome o (λ f. f.size ≡ n) → IfSome o (HasLanes (coefficients a d l (pos n)))
lanes_hold None a d l n right below size = tt
lanes_hold (Some f) a d l n right below size = record { right = right; below = below; size = ap pos size }

pub of-divisor-requires : goal.of-divisor-requires
of-divisor-requires c =
    let fn : FitsSigned w64 c.area-area.result = search rules in
    not_zero c.area-area.result c.unsigned_abs.result
    (positive c.args.tri.now c.of-vertices.result c.area-area.result c.of-vertices.ensures.valid c.of-vertices.ensures.value c.area-area.ensures.value)
    (simp to_z-of_z at c.unsigned_abs.ensures.value)

pub returns-clause-value : goal.returns-clause-value
returns-clause-value c =
    let fa : FitsSigned w64 c.across-across.result = search rules in
    let fd : FitsSigned w64 c.down-down.result = search rules in
    let fl : FitsSigned w128 c.level-level.result = search rules in
    let fn : FitsSigned w64 c.area-area.result = search rules in
    let p = positive c.args.tri.now c.of-vertices.result c.area-area.result c.of-vertices.ensures.valid c.of-vertices.ensures.value c.area-area.ensures.value in
    simp to_z-of_z (plane_of-sized c.args.tri.now c.of-vertices.result c.across-across.result c.down-down.result c.level-level.result c.area-area.result (pos c.of-divisor.result)
    (area_is c.area-area.result c.unsigned_abs.result c.of-divisor.result p (simp to_z-of_z at c.unsigned_abs.ensures.value) c.of-divisor.ensures)
    c.of-vertices.ensures.value c.across-across.ensures.value c.down-down.ensures.value c.area-area.ensures.value (simp to_z-of_z at c.level-level.ensures.value))

pub invariant_of-result : goal.invariant_of-result
invariant_of-result c =
    let fa : FitsSigned w64 c.across-across.result = search rules in
    let fd : FitsSigned w64 c.down-down.result = search rules in
    let fl : FitsSigned w128 c.level-level.result = search rules in
    let fn : FitsSigned w64 c.area-area.result = search rules in
    let p = positive c.args.tri.now c.of-vertices.result c.area-area.result c.of-vertices.ensures.valid c.of-vertices.ensures.value c.area-area.ensures.value in
    let is = area_is c.area-area.result c.unsigned_abs.result c.of-divisor.result p (simp to_z-of_z at c.unsigned_abs.ensures.value) c.of-divisor.ensures in (
      simp to_z-of_z (plane-bounded c.across-across.result c.down-down.result c.level-level.result c.area-area.result (pos c.of-divisor.result) is p
          c.across-across.ensures.bounded c.down-down.ensures.bounded c.level-level.ensures.bounded c.area-area.ensures.bounded),
      simp to_z-of_z (simp to_z-of_z at (c.narrow_first.ensures (pos c.of-divisor.result))),
      simp to_z-of_z (lanes_hold c.lanes_along.result c.across-across.result c.down-down.result c.level-level.result c.of-divisor.result
          (simp to_z-of_z at c.lanes_along.ensures.right) (simp to_z-of_z at c.lanes_along.ensures.below) c.lanes_along.ensures.size),
    )

pub returns-clause-numerator : goal.returns-clause-numerator
returns-clause-numerator c p = ap (λ v. numerator_at v p) (returns-clause-value c) ∙ numerator_at-plane_of c.args.tri.now p

pub returns-clause-denominator : goal.returns-clause-denominator
returns-clause-denominator c = ap (λ (v : Coefficients). v.area) (returns-clause-value c) ∙ area-plane_of c.args.tri.now

pub returns-clause-positive : goal.returns-clause-positive
returns-clause-positive c = (invariant_of-result c).0.positive_area
