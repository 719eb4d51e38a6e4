use Rattle.std.proofs.Common.{◌≡◌, ◌≤◌, ◌*ℤ◌, ◌+ℤ◌, ◌≤ℤ◌, ℕ, ℤ, pos, neg_ℤ, FitsSigned, w64, to_z, of_z, rules, ◌*◌}
use Rattle.std.specs.Int.{w128}
use Rattle.std.proofs.lemmas.Int.{to_z-of_z}
use Rattle.cull_base.specs.Depth.{floor_of}
use Rattle.snap_setup.proofs.Floors.{IsPlace, is_place}
use Rattle.snap_setup.proofs.snapping.wide_place.Goals as goal

placed : (p : ℕ) (o w : ℤ) (a : ℕ) (d s e q : ℤ) → FitsSigned w64 o → FitsSigned w64 w → a ≡ p → d ≡ pos (16 * a) *ℤ to_z w64 (of_z w64 o) → FitsSigned w128 d → FitsSigned w128 s →
    s ≡ to_z w128 (of_z w128 d) +ℤ to_z w64 (of_z w64 w) → e ≡ pos 2 *ℤ w → q ≡ floor_of (to_z w128 (of_z w128 s)) e →
    p ≤ 2048 → pos 1 ≤ℤ w → neg_ℤ (pos 16385 *ℤ w) ≤ℤ o → o ≤ℤ (pos 16385 *ℤ w) → IsPlace p o w q
placed p o w a d s e q fo fw ea ed fd fs es ee eq hp hw low high =
    is_place p o w d s e q (rw ea at (simp to_z-of_z at ed)) (simp to_z-of_z at es) ee (simp to_z-of_z at eq) hp hw low high

found : (c : goal.After-wide_floor) → IsPlace c.args.pixels c.args.offset c.args.w c.wide_floor.result
found c =
    placed c.args.pixels c.args.offset c.args.w _ c.wide_product-product.result c.wide_sum.result _ _ c.ranges.offset c.ranges.w c.from.ensures c.wide_product-product.ensures.value (search rules) (search rules)
    c.wide_sum.ensures c.requires.twice c.wide_floor.ensures.value c.requires.within c.requires.w_least c.requires.low c.requires.high

pub overflow_cast-result : goal.overflow_cast-result
overflow_cast-result c = let fq : FitsSigned w128 c.wide_floor.result = search rules in simp to_z-of_z (found c).fits

pub returns-clause-value : goal.returns-clause-value
returns-clause-value c = let fq : FitsSigned w128 c.wide_floor.result = search rules in let f = (found c).fits in simp to_z-of_z (found c).value

pub returns-clause-within : goal.returns-clause-within
returns-clause-within c = let fq : FitsSigned w128 c.wide_floor.result = search rules in let f = (found c).fits in simp to_z-of_z (found c).within
