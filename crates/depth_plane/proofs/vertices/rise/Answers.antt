use Rattle.std.proofs.Common.{◌*ℤ◌, ◌^◌, FitsSigned, w64, arith}
use Rattle.std.proofs.lemmas.Int.{ints, to_z-of_z}
use Rattle.cull_base.proofs.Bounds.{bounded-mul}
use Rattle.depth_plane.proofs.vertices.rise.Goals as goal

pub returns : goal.returns
returns c =
    let a : FitsSigned w64 c.args.q = c.ranges.q in let b : FitsSigned w64 c.args.v = c.ranges.v in
    let n = bounded-mul (2 ^ 24) (2 ^ 30) c.args.q c.args.v c.requires.q c.requires.v in let p : FitsSigned w64 (c.args.q *ℤ c.args.v) = omega (arith, ints, n) in
    record { value = simp to_z-of_z; bounded = simp to_z-of_z n }
