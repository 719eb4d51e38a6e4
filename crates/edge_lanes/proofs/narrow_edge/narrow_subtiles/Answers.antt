use Rattle.std.proofs.Common.{arith, FitsSigned, w32, ◌+ℤ◌, ◌*ℤ◌, pos}
use Rattle.std.proofs.lemmas.Int.{ints, to_z-of_z}
use Rattle.edge_lanes.proofs.narrow_edge.narrow_subtiles.Goals as goal

pub overflow_add-result : goal.overflow_add-result
overflow_add-result c = omega (arith, ints, c.requires, c.ranges)

pub returns : goal.returns
returns c =
    let t = c.args.column in let r = c.args.row in
    let ft : FitsSigned w32 t = c.ranges.column in
    let fr : FitsSigned w32 r = c.ranges.row in
    let p0 : FitsSigned w32 (t *ℤ pos 0) = omega (arith, ints, c.requires) in
    let p1 : FitsSigned w32 (t *ℤ pos 8) = omega (arith, ints, c.requires) in
    let p2 : FitsSigned w32 (t *ℤ pos 16) = omega (arith, ints, c.requires) in
    let p3 : FitsSigned w32 (t *ℤ pos 24) = omega (arith, ints, c.requires) in
    let q0 : FitsSigned w32 (r *ℤ pos 0) = omega (arith, ints, c.requires) in
    let q1 : FitsSigned w32 (r *ℤ pos 4) = omega (arith, ints, c.requires) in
    let s0 : FitsSigned w32 ((r *ℤ pos 0) +ℤ (t *ℤ pos 0)) = omega (arith, ints, c.requires) in
    let s1 : FitsSigned w32 ((r *ℤ pos 0) +ℤ (t *ℤ pos 8)) = omega (arith, ints, c.requires) in
    let s2 : FitsSigned w32 ((r *ℤ pos 0) +ℤ (t *ℤ pos 16)) = omega (arith, ints, c.requires) in
    let s3 : FitsSigned w32 ((r *ℤ pos 0) +ℤ (t *ℤ pos 24)) = omega (arith, ints, c.requires) in
    let s4 : FitsSigned w32 ((r *ℤ pos 4) +ℤ (t *ℤ pos 0)) = omega (arith, ints, c.requires) in
    let s5 : FitsSigned w32 ((r *ℤ pos 4) +ℤ (t *ℤ pos 8)) = omega (arith, ints, c.requires) in
    let s6 : FitsSigned w32 ((r *ℤ pos 4) +ℤ (t *ℤ pos 16)) = omega (arith, ints, c.requires) in
    let s7 : FitsSigned w32 ((r *ℤ pos 4) +ℤ (t *ℤ pos 24)) = omega (arith, ints, c.requires) in
    simp to_z-of_z
