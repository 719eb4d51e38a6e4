use Rattle.std.proofs.Common.{pos, arith, FitsSigned, rules, w64}
use Rattle.std.specs.Int.{w128}
use Rattle.std.proofs.lemmas.Int.{to_z-of_z}
use Rattle.std.proofs.lemmas.Bool.Decides.{nat_tests}
use Rattle.depth_plane.proofs.Planes.{plane-bounded, plane_of-sized, positive, size_is}
use Rattle.depth_plane.proofs.small_plane.SmallPlane.of.Goals as goal

pub returns : goal.returns
returns c =
    let fa : FitsSigned w64 c.across-across.result = search rules in
    let fd : FitsSigned w64 c.down-down.result = search rules in
    let fl : FitsSigned w128 c.level-level.result = search rules in
    let fn : FitsSigned w64 c.area-area.result = search rules in
    let v = c.of-vertices.ensures in
    simp to_z-of_z (plane_of-sized c.args.tri.now c.of-vertices.result c.across-across.result c.down-down.result c.level-level.result c.area-area.result (pos c.unsigned_abs-area.result)
    (size_is c.area-area.result c.unsigned_abs-area.result (positive c.args.tri.now c.of-vertices.result c.area-area.result v.valid v.value c.area-area.ensures.value) (simp to_z-of_z at c.unsigned_abs-area.ensures.value))
    v.value c.across-across.ensures.value c.down-down.ensures.value c.area-area.ensures.value (simp to_z-of_z at c.level-level.ensures.value))

pub invariant_of-result : goal.invariant_of-result
invariant_of-result c =
    let v = c.of-vertices.ensures in
    let ff : FitsSigned w64 c.in_ok-first.first = search rules in
    let fa : FitsSigned w64 c.across-across.result = search rules in
    let fd : FitsSigned w64 c.down-down.result = search rules in
    let fl : FitsSigned w128 c.level-level.result = search rules in
    let fn : FitsSigned w64 c.area-area.result = search rules in
    let p = positive c.args.tri.now c.of-vertices.result c.area-area.result v.valid v.value c.area-area.ensures.value in
    let is = size_is c.area-area.result c.unsigned_abs-area.result p (simp to_z-of_z at c.unsigned_abs-area.ensures.value) in (
      simp to_z-of_z (plane-bounded c.across-across.result c.down-down.result c.level-level.result c.area-area.result (pos c.unsigned_abs-area.result) is p
          c.across-across.ensures.bounded c.down-down.ensures.bounded c.level-level.ensures.bounded c.area-area.ensures.bounded),
      (simp to_z-of_z (simp to_z-of_z at (c.in_ok-first.ensures (pos c.unsigned_abs-area.result))), (let t = c.if-area-ge-GREATEST.false in grind (arith, nat_tests, t))),
    )
