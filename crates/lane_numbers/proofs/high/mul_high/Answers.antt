use Rattle.lane_numbers.proofs.Halves.{high_products, products_fit}
use Rattle.lane_numbers.proofs.high.mul_high.Goals as goal

pub overflow_mul-products : goal.overflow_mul-products
overflow_mul-products c = products_fit c.widened.result c.widened-2.result c.widened.ensures.small c.widened-2.ensures.small

pub returns-clause-value : goal.returns-clause-value
returns-clause-value c =
    high_products c.args.a c.args.b c.widened.result c.widened-2.result c.upper_halves.result c.widened.ensures.value c.widened-2.ensures.value c.upper_halves.ensures.value
