use Rattle.std.proofs.Common.{◌≡◌, ◌∙◌, ◌^◌, ap, subst, sym, ℤ, pos, negsuc, nat_abs, ◌*ℤ◌, ◌≤ℤ◌, to_z, of_z, w32, w64, FitsSigned, arith, rules}
use Rattle.std.specs.Int.{int_max}
use Rattle.std.proofs.lemmas.Int.{ints, to_z-of_z}
use Rattle.cull_base.specs.Bounds.{Bounded}
use Rattle.edge_lanes.proofs.Levels.{counts_level}
use Rattle.edge_lanes.proofs.slant.level.Goals as goal

pub invariant_of-result-clause-start_bounded : goal.invariant_of-result-clause-start_bounded
invariant_of-result-clause-start_bounded c =
    let e : c.from-2.result ≡ pos 2048 = c.from-2.ensures in
    rw e (omega (arith, ints, c.clamp-rows.ensures.lower_bound, c.clamp-rows.ensures.upper_bound))

step_bounded : (s : ℤ) → FitsSigned w32 s → negsuc 0 ≤ℤ s → s ≤ℤ pos 1 → Bounded (2 ^ 20) (to_z w32 (of_z w32 (pos 2048 *ℤ to_z w32 (of_z w32 s))))
step_bounded s f l h =
    let p : FitsSigned w32 (pos 2048 *ℤ s) = omega (arith, ints, l, h) in
    let e : to_z w32 (of_z w32 (pos 2048 *ℤ to_z w32 (of_z w32 s))) ≡ pos 2048 *ℤ s = ap (λ (v : ℤ). to_z w32 (of_z w32 (pos 2048 *ℤ v))) (to_z-of_z w32 s f) ∙ to_z-of_z w32 (pos 2048 *ℤ s) p in
    subst (Bounded (2 ^ 20)) (sym e) (omega (arith, ints, l, h))

pub invariant_of-result-clause-row_bounded : goal.invariant_of-result-clause-row_bounded
invariant_of-result-clause-row_bounded c =
    let fg : FitsSigned w32 c.signum.result = search rules in
    step_bounded c.signum.result fg c.signum.ensures.lower_bound c.signum.ensures.upper_bound

pub returns : goal.returns
returns c x y hx hy =
    let fs : FitsSigned w64 c.args.start = c.ranges.start in let fr : FitsSigned w32 c.args.row = c.ranges.row in
    let ff : FitsSigned w64 c.from.result = search rules in
    let fa : FitsSigned w64 c.abs.result = search rules in
    let fm : FitsSigned w64 c.max-size.result = search rules in
    let fd : FitsSigned w64 c.div_euclid.result = search rules in
    let fc : FitsSigned w64 c.clamp-rows.result = search rules in
    let fg : FitsSigned w32 c.signum.result = search rules in
    let f2 : FitsSigned w64 (pos 2048) = omega (arith, ints) in
    let p : FitsSigned w64 (pos 2048 *ℤ c.clamp-rows.result) = omega (arith, ints, c.clamp-rows.ensures.lower_bound, c.clamp-rows.ensures.upper_bound) in
    let q : FitsSigned w32 (pos 2048 *ℤ c.signum.result) = omega (arith, ints, c.signum.ensures.lower_bound, c.signum.ensures.upper_bound) in
    let e : c.from-2.result ≡ pos 2048 = c.from-2.ensures in
    let r = simp to_z-of_z at c.from.ensures in
    let a = simp to_z-of_z at c.abs.ensures.value in
    let m = simp to_z-of_z at c.max-size.ensures.value in
    rw e (simp to_z-of_z (counts_level c.args.start c.args.row c.max-size.result c.div_euclid.result c.clamp-rows.result c.signum.result x y
    (m ∙ ap (λ (v : ℤ). int_max v (pos 1)) (a ∙ ap (λ (v : ℤ). pos (nat_abs v)) r))
    (simp to_z-of_z at c.div_euclid.ensures) (simp to_z-of_z at c.clamp-rows.ensures.value) (simp to_z-of_z at c.signum.ensures.value) hx hy))
