use Rattle.std.proofs.Common.{ℤ, ◌^◌, ◌+ℤ◌, FitsSigned, w64, arith, rules, refl}
use Rattle.std.proofs.lemmas.Int.{ints, to_z-of_z}
use Rattle.cull_base.specs.Bounds.{Bounded}
use Rattle.camera_path.proofs.camera.Camera.added_up.Goals as goal

fits : (s o : ℤ) → Bounded (2 ^ 62) s → Bounded (2 ^ 24) o → FitsSigned w64 (s +ℤ o)
fits s o h k = omega (arith, ints, h, k)

pub overflow_add-result : goal.overflow_add-result
overflow_add-result c =
    let fs : FitsSigned w64 c.floor_of_sum.result = search rules in let fo : FitsSigned w64 c.number.result = search rules in
    simp to_z-of_z (fits c.floor_of_sum.result c.number.result c.floor_of_sum.ensures.bounded c.number.ensures.bounded)

pub returns : goal.returns
returns c =
    let fs : FitsSigned w64 c.floor_of_sum.result = search rules in let fo : FitsSigned w64 c.number.result = search rules in
    let sum = fits c.floor_of_sum.result c.number.result c.floor_of_sum.ensures.bounded c.number.ensures.bounded in
    let fx : FitsSigned w64 c.args.x = c.ranges.x in let fy : FitsSigned w64 c.args.y = c.ranges.y in let fz : FitsSigned w64 c.args.z = c.ranges.z in
    let e = simp to_z-of_z at c.floor_of_sum.ensures.value in
    simp to_z-of_z (rw (e, c.number.ensures.value) refl)
