use Rattle.std.proofs.Common.{◌^◌, ◌-ℤ◌, FitsSigned, w32, arith, rules}
use Rattle.std.proofs.lemmas.Int.{ints, to_z-of_z}
use Rattle.edge_lanes.specs.Around.{lane}
use Rattle.edge_lanes.proofs.Around.{bounded_around}
use Rattle.edge_lanes.proofs.small_lanes.past.Goals as goal

pub returns-clause-value : goal.returns-clause-value
returns-clause-value c =
    let v = c.args.place in let h = c.requires.at in
    let a = lane c.args.at 0 in let b = lane c.args.at 1 in let d = lane c.args.at 2 in
    let fv : FitsSigned w32 v = c.ranges.place in
    let fa : FitsSigned w32 a = search rules in let fb : FitsSigned w32 b = search rules in let fd : FitsSigned w32 d = search rules in
    let p : FitsSigned w32 (v -ℤ a) = omega (arith, ints, c.requires) in let q : FitsSigned w32 (v -ℤ b) = omega (arith, ints, c.requires, h) in let r : FitsSigned w32 (v -ℤ d) = omega (arith, ints, c.requires, h) in
    simp to_z-of_z

pub returns-clause-bounded : goal.returns-clause-bounded
returns-clause-bounded c =
    let v = c.args.place in let h = c.requires.at in
    let a = lane c.args.at 0 in let b = lane c.args.at 1 in let d = lane c.args.at 2 in
    bounded_around (2 ^ 11) _ (v -ℤ a) (v -ℤ b) (v -ℤ d) (returns-clause-value c)
    (omega (arith, ints, c.requires, h), omega (arith, ints, c.requires, h)) (omega (arith, ints, c.requires, h), omega (arith, ints, c.requires, h)) (omega (arith, ints, c.requires, h), omega (arith, ints, c.requires, h))
