use Rattle.std.proofs.Common.{◌*ℤ◌, ◌^◌, FitsSigned, w64, arith}
use Rattle.std.proofs.lemmas.Int.{ints, to_z-of_z}
use Rattle.cull_base.proofs.Bounds.{bounded-mul}
use Rattle.box_rays.proofs.half_space.product.Goals as goal

pub returns : goal.returns
returns c =
    let times : FitsSigned w64 c.args.times = c.ranges.times in let steps : FitsSigned w64 c.args.steps = c.ranges.steps in
    let n = bounded-mul (2 ^ 11) (2 ^ 49) c.args.times c.args.steps c.requires.times c.requires.steps in
    let p : FitsSigned w64 (c.args.times *ℤ c.args.steps) = omega (arith, ints, n) in
    record { value = simp to_z-of_z; bounded = simp to_z-of_z n }
