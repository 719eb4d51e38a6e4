use Rattle.std.proofs.Common.{◌^◌, ◌-ℤ◌, FitsSigned, w32, arith, rules}
use Rattle.std.proofs.lemmas.Int.{ints, to_z-of_z}
use Rattle.edge_lanes.specs.Around.{lane}
use Rattle.edge_lanes.proofs.Around.{bounded_around}
use Rattle.edge_lanes.proofs.small_lanes.steps_back.Goals as goal

pub returns-clause-value : goal.returns-clause-value
returns-clause-value c =
    let a = lane c.args.at 0 in let b = lane c.args.at 1 in let d = lane c.args.at 2 in
    let fa : FitsSigned w32 a = search rules in let fb : FitsSigned w32 b = search rules in let fd : FitsSigned w32 d = search rules in
    let p : FitsSigned w32 (a -ℤ b) = omega (arith, ints, c.requires) in let q : FitsSigned w32 (b -ℤ d) = omega (arith, ints, c.requires) in let r : FitsSigned w32 (d -ℤ a) = omega (arith, ints, c.requires) in
    simp to_z-of_z

pub returns-clause-bounded : goal.returns-clause-bounded
returns-clause-bounded c =
    let a = lane c.args.at 0 in let b = lane c.args.at 1 in let d = lane c.args.at 2 in
    bounded_around (2 ^ 30) _ (a -ℤ b) (b -ℤ d) (d -ℤ a) (returns-clause-value c)
    (omega (arith, ints, c.requires), omega (arith, ints, c.requires)) (omega (arith, ints, c.requires), omega (arith, ints, c.requires)) (omega (arith, ints, c.requires), omega (arith, ints, c.requires))
