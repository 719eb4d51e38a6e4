use Rattle.std.proofs.Common.{rules, FitsSigned, w64}
use Rattle.std.proofs.lemmas.Int.{to_z-of_z}
use Rattle.box_rays.proofs.Steps.{product_above, product_below}
use Rattle.box_rays.proofs.half_space.least_product.Goals as goal

pub returns-then-times-lt0-clause-least : goal.returns-then-times-lt0-clause-least
returns-then-times-lt0-clause-least c =
    let times : FitsSigned w64 c.args.times = c.ranges.times in let steps : FitsSigned w64 c.args.steps = c.ranges.steps in
    let upper : FitsSigned w64 c.upper_bound.result = search rules in let product : FitsSigned w64 c.product.result = search rules in
    λ step exact about.
    simp to_z-of_z (product_above step c.args.times c.args.steps c.upper_bound.result c.product.result exact
    (simp to_z-of_z at c.if-times-lt0.true) (simp to_z-of_z at c.upper_bound.ensures.value) (simp to_z-of_z at c.product.ensures.value) about)

pub returns-else-times-lt0-clause-least : goal.returns-else-times-lt0-clause-least
returns-else-times-lt0-clause-least c =
    let times : FitsSigned w64 c.args.times = c.ranges.times in let steps : FitsSigned w64 c.args.steps = c.ranges.steps in
    let product : FitsSigned w64 c.product-else-times-lt0.result = search rules in
    λ step exact about.
    simp to_z-of_z (product_below step c.args.times c.args.steps c.product-else-times-lt0.result exact
    (simp to_z-of_z at c.if-times-lt0.false) (simp to_z-of_z at c.product-else-times-lt0.ensures.value) about)
