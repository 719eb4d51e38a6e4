use Rattle.std.proofs.Common.{◌^◌, FitsSigned, w64}
use lib.Signed.{shr_z}
use Rattle.std.proofs.lemmas.Int.{to_z-of_z}
use Rattle.std.proofs.lemmas.Nat.{pow_pos}
use Rattle.box_rays.proofs.Floors.{shift_fits, shift_low, shift_high, steps_bounded}
use Rattle.box_rays.proofs.corner.steps_of.Goals as goal

pub returns-clause-small : goal.returns-clause-small
returns-clause-small c =
    let units = c.args.units in let d = 2 ^ c.args.shift in let p = pow_pos c.args.shift in
    let f : FitsSigned w64 units = c.ranges.units in let g : FitsSigned w64 (shr_z units d) = shift_fits units d p f in
    simp to_z-of_z (steps_bounded (2 ^ 47) d (shr_z units d) units p c.requires.short (shift_low units d p) (shift_high units d p))
