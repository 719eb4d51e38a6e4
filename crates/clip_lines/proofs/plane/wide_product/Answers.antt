use Rattle.std.proofs.Common.{◌*◌, ◌*ℤ◌, ◌^◌, FitsSigned, w64, arith}
use Rattle.std.specs.Int.{w128}
use Rattle.std.proofs.lemmas.Int.{ints, to_z-of_z}
use Rattle.cull_base.proofs.Bounds.{bounded-mul}
use Rattle.clip_lines.proofs.plane.wide_product.Goals as goal

pub returns : goal.returns
returns c =
    let a : FitsSigned w64 c.args.a = c.ranges.a in let b : FitsSigned w64 c.args.b = c.ranges.b in
    let fa : FitsSigned w128 c.args.a = omega (arith, ints, a) in let fb : FitsSigned w128 c.args.b = omega (arith, ints, b) in
    let e = simp to_z-of_z at c.from.ensures in let f = simp to_z-of_z at c.from-2.ensures in
    let w = bounded-mul (3 * 2 ^ 61) (2 ^ 30) c.args.a c.args.b c.requires.a c.requires.b in
    let p : FitsSigned w128 (c.args.a *ℤ c.args.b) = omega (arith, ints, w) in
    rw (e, f) (record { value = simp to_z-of_z; bounded = simp to_z-of_z w })
