use Rattle.std.proofs.Common.{◌≡◌, ◌∙◌, ap, ℕ, ℤ, pos, negsuc, ◌*◌, ◌^◌, ◌<◌, arith, nat_abs, int_lt, FitsSigned, rules}
use Rattle.std.specs.Int.{w128}
use Rattle.std.proofs.lemmas.Int.{ints, to_z-of_z}
use Rattle.cull_base.specs.Bounds.{Bounded}
use Rattle.clip_lines.proofs.Determinants.{plane-stands}
use Rattle.clip_lines.proofs.plane.Plane.of.Goals as goal

below : (n : ℤ) (l : ℕ) → Bounded (9 * 2 ^ 91) n → l ≡ nat_abs n → l < 2 ^ 96
below (pos n) l h e = omega (arith, ints, h, e)
below (negsuc n) l h e = omega (arith, ints, h, e)

pub returns-then-unsure-length : goal.returns-then-unsure-length
returns-then-unsure-length c =
    let f : FitsSigned w128 c.product_of-product.result = search rules in
    let e = c.product_of-product.ensures.value in
    let size = (simp to_z-of_z at c.unsigned_abs-length.ensures.value) ∙ ap nat_abs e in
    record {
      sum = c.sum_of-sum.ensures.value;
      sized = c.sum_of-sum.ensures.sized;
      length = size;
      small = below c.product_of-product.result c.unsigned_abs-length.result c.product_of-product.ensures.bounded (simp to_z-of_z at c.unsigned_abs-length.ensures.value);
      unsure = c.unsure_of-unsure.ensures.value;
      stands = λ scale a b d are.
          simp to_z-of_z (plane-stands scale c.args.first.now c.args.ab.now c.args.bc.now c.args.ca.now a b d
          (record { sum = c.sum_of-sum.result; length = c.unsigned_abs-length.result; unsure = c.unsure_of-unsure.result; is_turned = int_lt c.product_of-product.result (pos 0) })
          c.sum_of-sum.ensures.value size c.unsure_of-unsure.ensures.value (ap (λ x. int_lt x (pos 0)) e) c.if-unsure-length.true are);
      thin = c.if-unsure-length.true;
    }
