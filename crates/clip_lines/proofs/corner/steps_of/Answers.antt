use Rattle.std.proofs.Common.{ℤ, pos, ◌+ℤ◌, ◌^◌, FitsSigned, w64, arith, rules}
use Rattle.std.proofs.lemmas.Int.{ints, to_z-of_z}
use Rattle.cull_base.specs.Bounds.{Bounded}
use Rattle.clip_lines.proofs.Steps.{steps-bounded, steps-near}
use Rattle.clip_lines.proofs.corner.steps_of.Goals as goal

one-fits : (q : ℤ) → Bounded (2 ^ 30) (q +ℤ pos 1) → FitsSigned w64 (q +ℤ pos 1)
one-fits q b = omega (arith, ints, b)

pub overflow_add-result : goal.overflow_add-result
overflow_add-result c =
    let fu : FitsSigned w64 c.args.units = c.ranges.units in let fs : FitsSigned w64 c.shifted.result = search rules in
    let f = simp to_z-of_z at c.shifted.ensures in
    simp to_z-of_z (one-fits c.shifted.result (steps-bounded c.args.units c.shifted.result c.args.shift f c.requires.small))

pub returns-clause-bounded : goal.returns-clause-bounded
returns-clause-bounded c =
    let fu : FitsSigned w64 c.args.units = c.ranges.units in let fs : FitsSigned w64 c.shifted.result = search rules in
    let f = simp to_z-of_z at c.shifted.ensures in
    let b = steps-bounded c.args.units c.shifted.result c.args.shift f c.requires.small in
    let fr = one-fits c.shifted.result b in
    simp to_z-of_z b

pub returns-clause-near : goal.returns-clause-near
returns-clause-near c unit exact held =
    let fu : FitsSigned w64 c.args.units = c.ranges.units in let fs : FitsSigned w64 c.shifted.result = search rules in
    let f = simp to_z-of_z at c.shifted.ensures in
    let fr = one-fits c.shifted.result (steps-bounded c.args.units c.shifted.result c.args.shift f c.requires.small) in
    simp to_z-of_z (steps-near c.args.units c.shifted.result c.args.shift unit exact c.requires.least f held)
