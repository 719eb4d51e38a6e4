use Rattle.std.proofs.Common.{FitsSigned, w64, rules}
use Rattle.std.proofs.lemmas.Int.{to_z-of_z}
use Rattle.clip_lines.specs.Parts.{of_line}
use Rattle.clip_lines.proofs.Crosses.{opposite-stands}
use Rattle.clip_lines.proofs.line.Line.opposite.Goals as goal

pub returns-clause-stands : goal.returns-clause-stands
returns-clause-stands c scale a b h =
    let l = c.args.self.now in
    let lx : FitsSigned w64 l.x = search rules in let ly : FitsSigned w64 l.y = search rules in let lw : FitsSigned w64 l.w = search rules in
    let fx : FitsSigned w64 c.opposite_part.result = search rules in let fy : FitsSigned w64 c.opposite_part-2.result = search rules in let fw : FitsSigned w64 c.opposite_part-3.result = search rules in
    simp to_z-of_z (opposite-stands scale l.off c.opposite_part.result c.opposite_part-2.result c.opposite_part-3.result (of_line l) a b
    (simp to_z-of_z at c.opposite_part.ensures.value) (simp to_z-of_z at c.opposite_part-2.ensures.value) (simp to_z-of_z at c.opposite_part-3.ensures.value) h)
