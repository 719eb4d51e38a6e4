use Rattle.std.proofs.Common.{FitsSigned, w64, rules}
use Rattle.std.proofs.lemmas.Int.{to_z-of_z}
use Rattle.pixel_forms.specs.Narrow.{of_narrow}
use Rattle.pixel_forms.proofs.Narrow.{turned-parts}
use Rattle.pixel_forms.proofs.narrow_line.NarrowLine.turned.Goals as goal

pub returns-then-is_turned-clause-stands : goal.returns-then-is_turned-clause-stands
returns-then-is_turned-clause-stands c scale exact h =
    let l = c.args.self in
    let lx : FitsSigned w64 l.x = search rules in let ly : FitsSigned w64 l.y = search rules in let lw : FitsSigned w64 l.w = search rules in
    let fx : FitsSigned w64 c.opposite.result = search rules in let fy : FitsSigned w64 c.opposite-then-is_turned.result = search rules in let fw : FitsSigned w64 c.opposite-then-is_turned-2.result = search rules in
    simp to_z-of_z (turned-parts scale l.off c.args.is_turned c.opposite.result c.opposite-then-is_turned.result c.opposite-then-is_turned-2.result (of_narrow l) exact c.if-is_turned.true
    (simp to_z-of_z at c.opposite.ensures.value) (simp to_z-of_z at c.opposite-then-is_turned.ensures.value) (simp to_z-of_z at c.opposite-then-is_turned-2.ensures.value) h)
