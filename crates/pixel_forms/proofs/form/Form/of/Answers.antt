use Rattle.std.proofs.Common.{FitsSigned, w64, rules}
use Rattle.std.proofs.lemmas.Int.{to_z-of_z}
use Rattle.pixel_forms.specs.Narrow.{of_narrow}
use Rattle.pixel_forms.proofs.Stands.{form-stands}
use Rattle.pixel_forms.proofs.Made.{made-by, small-by}
use Rattle.pixel_forms.proofs.form.Form.of.Goals as goal

pub returns-clause-made : goal.returns-clause-made
returns-clause-made c =
    let l = c.args.line.now in
    let lx : FitsSigned w64 l.x = search rules in let ly : FitsSigned w64 l.y = search rules in let lw : FitsSigned w64 l.w = search rules in
    let fa : FitsSigned w64 c.slope-a.result = search rules in let fo : FitsSigned w64 c.slope.result = search rules in let fb : FitsSigned w64 c.opposite-b.result = search rules in
    let fs : FitsSigned w64 c.corner_sum.result = search rules in let fv : FitsSigned w64 c.level.result = search rules in let fd : FitsSigned w64 c.both.result = search rules in
    simp to_z-of_z (made-by c.args.eye.now.width c.args.eye.now.height c.args.eye.now.reach l.off (of_narrow l)
    c.slope-a.result c.slope.result c.opposite-b.result c.corner_sum.result c.level.result c.both.result c.whole.result c.span.result c.fall.result c.slack.result
    (simp to_z-of_z at c.slope-a.ensures.value) (simp to_z-of_z at c.slope.ensures.value) (simp to_z-of_z at c.opposite-b.ensures.value) (simp to_z-of_z at c.corner_sum.ensures.value)
    c.whole.ensures.value (simp to_z-of_z at c.level.ensures.value) (simp to_z-of_z at c.fall.ensures.value) c.span.ensures.value c.slack.ensures.value c.both.ensures)

pub returns-clause-small : goal.returns-clause-small
returns-clause-small c =
    let fa : FitsSigned w64 c.slope-a.result = search rules in let fb : FitsSigned w64 c.opposite-b.result = search rules in
    let fv : FitsSigned w64 c.level.result = search rules in let fd : FitsSigned w64 c.both.result = search rules in
    simp to_z-of_z (small-by c.slope-a.result c.opposite-b.result c.level.result c.both.result c.fall.result c.slack.result
    c.slope-a.ensures.bounded c.opposite-b.ensures.bounded c.level.ensures.bounded c.both.ensures c.fall.ensures.most c.slack.ensures.most)

pub returns-clause-stands : goal.returns-clause-stands
returns-clause-stands c scale exact h =
    form-stands c.args.eye.now.width c.args.eye.now.height c.args.eye.now.reach c.args.line.now.off scale (of_narrow c.args.line.now) exact _ (returns-clause-made c) h
