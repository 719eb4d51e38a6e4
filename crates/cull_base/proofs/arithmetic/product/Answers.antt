use Rattle.std.proofs.Common.{◌*ℤ◌, ◌^◌, FitsSigned, w64, arith}
use Rattle.std.proofs.lemmas.Int.{ints, to_z-of_z}
use Rattle.cull_base.proofs.Bounds.{bounded-mul}
use Rattle.cull_base.proofs.arithmetic.product.Goals as goal

pub returns : goal.returns
returns c =
    let a : FitsSigned w64 c.args.a = c.ranges.a in let b : FitsSigned w64 c.args.b = c.ranges.b in
    let n = bounded-mul (2 ^ 30) (2 ^ 30) c.args.a c.args.b c.requires.a_bounded c.requires.b_bounded in let p : FitsSigned w64 (c.args.a *ℤ c.args.b) = omega (arith, ints, n) in
    record { value = simp to_z-of_z; bounded = simp to_z-of_z n }
