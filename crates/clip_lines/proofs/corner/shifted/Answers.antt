use Rattle.std.proofs.Common.{FitsSigned, w64}
use Rattle.std.proofs.lemmas.Int.{to_z-of_z}
use Rattle.clip_lines.proofs.Steps.{floored}
use Rattle.clip_lines.proofs.corner.shifted.Goals as goal

pub returns : goal.returns
returns c = let f : FitsSigned w64 c.args.units = c.ranges.units in simp to_z-of_z (floored c.args.units c.args.shift f)
