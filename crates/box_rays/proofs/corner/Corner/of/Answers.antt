use Rattle.std.proofs.Common.{◌^◌, ◌≤◌, ◌*◌, ◌-ℤ◌, negsuc, rules, FitsSigned, w64, arith}
use Rattle.std.proofs.lemmas.Int.{ints, to_z-of_z}
use Rattle.std.proofs.Math.Pow.{pow_mono}
use Rattle.box_rays.proofs.Steps.{about, about_turned, positive}
use Rattle.box_rays.proofs.corner.Corner.of.Goals as goal

pub returns-clause-stands : goal.returns-clause-stands
returns-clause-stands c =
    let v = c.args.v.now in let s = 2 ^ c.args.shift in
    let four : 4 ≤ s = pow_mono {i = 2} {j = c.args.shift} c.requires.least in
    let fx : FitsSigned w64 v.x = search rules in let fy : FitsSigned w64 v.y = search rules in let fw : FitsSigned w64 v.w = search rules in
    let x : FitsSigned w64 c.steps_of.result = search rules in let y : FitsSigned w64 c.steps_of-2.result = search rules in let z : FitsSigned w64 c.steps_of-3.result = search rules in
    let d : FitsSigned w64 (negsuc 1 -ℤ c.steps_of-2.result) = omega (arith, ints, c.steps_of-2.ensures.small) in
    λ unit exact holds.
    let down = about unit s c.steps_of-2.result v.y exact.y four (simp to_z-of_z at c.steps_of-2.ensures.low) (simp to_z-of_z at c.steps_of-2.ensures.high) holds.y in
    simp to_z-of_z (record {
      proper = positive unit s v.w exact.w four holds.w;
      across = about unit s c.steps_of.result v.x exact.x four (simp to_z-of_z at c.steps_of.ensures.low) (simp to_z-of_z at c.steps_of.ensures.high) holds.x;
      down = about_turned (unit * s) c.steps_of-2.result (negsuc 1 -ℤ c.steps_of-2.result) exact.y (omega (arith, ints)) down;
      w = about unit s c.steps_of-3.result v.w exact.w four (simp to_z-of_z at c.steps_of-3.ensures.low) (simp to_z-of_z at c.steps_of-3.ensures.high) holds.w;
    })

pub returns-clause-small : goal.returns-clause-small
returns-clause-small c =
    let x : FitsSigned w64 c.steps_of.result = search rules in let y : FitsSigned w64 c.steps_of-2.result = search rules in let z : FitsSigned w64 c.steps_of-3.result = search rules in
    let d : FitsSigned w64 (negsuc 1 -ℤ c.steps_of-2.result) = omega (arith, ints, c.steps_of-2.ensures.small) in
    let a = c.steps_of.ensures.small in let b = c.steps_of-2.ensures.small in let e = c.steps_of-3.ensures.small in
    simp to_z-of_z (record {
      across = (omega (arith, ints, a), omega (arith, ints, a));
      down = (omega (arith, ints, b), omega (arith, ints, b));
      w = (omega (arith, ints, e), omega (arith, ints, e));
    })
