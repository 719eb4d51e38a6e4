use Rattle.std.proofs.Common.{◌≡◌, ℤ, pos, length, get_or, rules, FitsSigned, w32, w64, sym, ap, ◌∙◌, ◌*ℤ◌, ◌^◌, subst}
use Rattle.std.proofs.lemmas.Int.{to_z-of_z}
use Rattle.cull_base.specs.Bounds.{Bounded}
use Rattle.point_lanes.proofs.Rowing.{factor_fits, factor_wide, held_product, held_same, held_wider, products_fit, read}
use Rattle.point_lanes.proofs.rows.times.Goals as goal

pub overflow_mul-result : goal.overflow_mul-result
overflow_mul-result c =
    let k : FitsSigned w32 c.args.factor = c.ranges.factor in
    let f = c.from-factors.result in
    let same : f ≡ c.args.factor = simp to_z-of_z at c.from-factors.ensures in
    let near : Bounded (2 ^ 22) f = subst (λ (t : ℤ). Bounded (2 ^ 22) t) (sym same) c.requires.factor in
    let long : length c.args.numbers ≡ 8 = search rules in
    products_fit w64 _ _ (λ j. f) (λ j. get_or c.args.numbers j (pos 0)) (held_same w64 f (factor_wide f near)) (held_wider c.args.numbers long c.requires.numbers)
    (λ j lt. factor_fits f (get_or c.args.numbers j (pos 0)) near (c.requires.numbers j lt))

pub returns : goal.returns
returns c j lt =
    let k : FitsSigned w32 c.args.factor = c.ranges.factor in
    let f = c.from-factors.result in
    let same : f ≡ c.args.factor = simp to_z-of_z at c.from-factors.ensures in
    let near : Bounded (2 ^ 22) f = subst (λ (t : ℤ). Bounded (2 ^ 22) t) (sym same) c.requires.factor in
    let long : length c.args.numbers ≡ 8 = search rules in
    read w64 _ (λ j. f *ℤ get_or c.args.numbers j (pos 0))
    (held_product w64 _ _ (λ j. f) (λ j. get_or c.args.numbers j (pos 0)) (held_same w64 f (factor_wide f near)) (held_wider c.args.numbers long c.requires.numbers)
    (λ j lt. factor_fits f (get_or c.args.numbers j (pos 0)) near (c.requires.numbers j lt))) j lt
    ∙ ap (λ (t : ℤ). t *ℤ get_or c.args.numbers j (pos 0)) same
