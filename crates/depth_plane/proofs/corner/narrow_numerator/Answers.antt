use Rattle.std.proofs.Common.{◌≡◌, ℤ, ◌+◌, ◌+ℤ◌, ◌^◌, FitsSigned, w64, arith, rules, refl}
use Rattle.std.proofs.lemmas.Int.{ints, to_z-of_z}
use Rattle.cull_base.specs.Bounds.{Bounded}
use Rattle.depth_plane.proofs.corner.narrow_numerator.Goals as goal

-- both sums fit
fit_one : (f a : ℤ) → Bounded (2 ^ 61 + 2 ^ 54) f → Bounded (2 ^ 61) a → FitsSigned w64 (f +ℤ a)
fit_one f a h i = omega (arith, ints, h, i)

fit_both : (f a b : ℤ) → Bounded (2 ^ 61 + 2 ^ 54) f → Bounded (2 ^ 61) a → Bounded (2 ^ 61) b → FitsSigned w64 ((f +ℤ a) +ℤ b)
fit_both f a b h i j = omega (arith, ints, h, i, j)

joined : (f a b p q : ℤ) → a ≡ p → b ≡ q → (f +ℤ a) +ℤ b ≡ (f +ℤ p) +ℤ q
joined f a b p q e g = rw (e, g) refl

pub overflow_add-result-2 : goal.overflow_add-result-2
overflow_add-result-2 c =
    let ff : FitsSigned w64 c.args.first = c.ranges.first in
    let fa : FitsSigned w64 c.narrow_term.result = search rules in let fb : FitsSigned w64 c.narrow_term-2.result = search rules in
    let one = fit_one c.args.first c.narrow_term.result c.requires.first c.narrow_term.ensures.bounded in
    simp to_z-of_z (fit_both c.args.first c.narrow_term.result c.narrow_term-2.result c.requires.first c.narrow_term.ensures.bounded c.narrow_term-2.ensures.bounded)

pub returns-clause-value : goal.returns-clause-value
returns-clause-value c =
    let ff : FitsSigned w64 c.args.first = c.ranges.first in
    let fa : FitsSigned w64 c.narrow_term.result = search rules in let fb : FitsSigned w64 c.narrow_term-2.result = search rules in
    let ga : FitsSigned w64 c.args.across = c.ranges.across in let gd : FitsSigned w64 c.args.down = c.ranges.down in
    let one = fit_one c.args.first c.narrow_term.result c.requires.first c.narrow_term.ensures.bounded in
    let two = fit_both c.args.first c.narrow_term.result c.narrow_term-2.result c.requires.first c.narrow_term.ensures.bounded c.narrow_term-2.ensures.bounded in
    simp to_z-of_z (joined c.args.first c.narrow_term.result c.narrow_term-2.result _ _ (simp to_z-of_z at c.narrow_term.ensures.value) (simp to_z-of_z at c.narrow_term-2.ensures.value))

bound_both : (f a b : ℤ) → Bounded (2 ^ 61 + 2 ^ 54) f → Bounded (2 ^ 61) a → Bounded (2 ^ 61) b → Bounded (2 ^ 62 + 2 ^ 61 + 2 ^ 54) ((f +ℤ a) +ℤ b)
bound_both f a b h i j = (omega (arith, ints, h, i, j), omega (arith, ints, h, i, j))

pub returns-clause-bounded : goal.returns-clause-bounded
returns-clause-bounded c =
    let ff : FitsSigned w64 c.args.first = c.ranges.first in
    let fa : FitsSigned w64 c.narrow_term.result = search rules in let fb : FitsSigned w64 c.narrow_term-2.result = search rules in
    let one = fit_one c.args.first c.narrow_term.result c.requires.first c.narrow_term.ensures.bounded in
    let two = fit_both c.args.first c.narrow_term.result c.narrow_term-2.result c.requires.first c.narrow_term.ensures.bounded c.narrow_term-2.ensures.bounded in
    simp to_z-of_z (bound_both c.args.first c.narrow_term.result c.narrow_term-2.result c.requires.first c.narrow_term.ensures.bounded c.narrow_term-2.ensures.bounded)
