use Rattle.std.proofs.Common.{◌^◌, FitsSigned, w64, rules}
use Rattle.std.proofs.lemmas.Int.{to_z-of_z}
use Rattle.clip_lines.specs.Parts.{of_line}
use Rattle.pixel_forms.proofs.Narrow.{narrow-stands}
use Rattle.pixel_forms.proofs.narrow_line.NarrowLine.of.Goals as goal

pub returns-clause-stands : goal.returns-clause-stands
returns-clause-stands c scale exact h =
    let l = c.args.line.now in
    let lx : FitsSigned w64 l.x = search rules in let ly : FitsSigned w64 l.y = search rules in let lw : FitsSigned w64 l.w = search rules in
    let fx : FitsSigned w64 c.part.result = search rules in let fy : FitsSigned w64 c.part-2.result = search rules in let fw : FitsSigned w64 c.part-3.result = search rules in
    simp to_z-of_z (narrow-stands scale (2 ^ c.shift_below-shift.result) l.off c.unsure.result (of_line l) (record { x = c.part.result; y = c.part-2.result; w = c.part-3.result }) exact
    (simp to_z-of_z at c.part.ensures.floor) (simp to_z-of_z at c.part-2.ensures.floor) (simp to_z-of_z at c.part-3.ensures.floor) c.unsure.ensures.enough h)
