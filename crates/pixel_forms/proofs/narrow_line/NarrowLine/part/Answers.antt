use Rattle.std.proofs.Common.{◌^◌, FitsSigned, w64}
use lib.Signed.{shr_z}
use Rattle.std.proofs.lemmas.Int.{to_z-of_z}
use Rattle.pixel_forms.proofs.Widths.{shift-floor, shift-fits, floor-bounded, split-power}
use Rattle.pixel_forms.proofs.narrow_line.NarrowLine.part.Goals as goal

pub returns-clause-bounded : goal.returns-clause-bounded
returns-clause-bounded c =
    let f : FitsSigned w64 c.args.units = c.ranges.units in
    let g : FitsSigned w64 (shr_z c.args.units (2 ^ c.args.shift)) = shift-fits c.args.units c.args.shift f in
    simp to_z-of_z (floor-bounded (2 ^ 34) (2 ^ c.args.shift) c.args.units (shr_z c.args.units (2 ^ c.args.shift)) (split-power _ 34 c.args.shift c.requires.small) (shift-floor c.args.units c.args.shift))
