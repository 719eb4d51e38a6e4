use Rattle.std.proofs.Common.{◌^◌, FitsSigned, w64, arith, rules}
use Rattle.std.proofs.lemmas.Int.{ints, to_z-of_z}
use Rattle.depth_plane.proofs.vertices.slope.Goals as goal

pub minus-requires-clause-a_bounded : goal.minus-requires-clause-a_bounded
minus-requires-clause-a_bounded c =
    let f : FitsSigned w64 c.rise.result = search rules in
    simp to_z-of_z (omega (arith, ints, c.rise.ensures.bounded), omega (arith, ints, c.rise.ensures.bounded))

pub minus-requires-clause-b_bounded : goal.minus-requires-clause-b_bounded
minus-requires-clause-b_bounded c =
    let f : FitsSigned w64 c.rise-2.result = search rules in
    simp to_z-of_z (omega (arith, ints, c.rise-2.ensures.bounded), omega (arith, ints, c.rise-2.ensures.bounded))

pub returns-clause-closer : goal.returns-clause-closer
returns-clause-closer c =
    let f : FitsSigned w64 c.rise.result = search rules in let g : FitsSigned w64 c.rise-2.result = search rules in
    let fm : FitsSigned w64 c.minus.result = search rules in
    let within = simp to_z-of_z at (c.minus.ensures.bounded (2 ^ 54)) in
    let b = within c.rise.ensures.bounded c.rise-2.ensures.bounded in
    simp to_z-of_z (omega (arith, ints, b), omega (arith, ints, b))

pub returns-clause-bounded : goal.returns-clause-bounded
returns-clause-bounded c = let b = returns-clause-closer c in (omega (arith, ints, b), omega (arith, ints, b))
