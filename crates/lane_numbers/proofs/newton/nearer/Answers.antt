use Rattle.lane_numbers.proofs.StepLanes.{halves_small, products_positive, step_at}
use Rattle.lane_numbers.proofs.newton.nearer.Goals as goal

pub left_of-rests-requires : goal.left_of-rests-requires
left_of-rests-requires c = products_positive c.args.numbers c.args.guesses c.mul_high-products.result c.requires.numbers c.requires.guesses c.mul_high-products.ensures.value c.requires.good

pub twice-requires : goal.twice-requires
twice-requires c =
    halves_small c.args.numbers c.args.guesses c.mul_high-products.result c.left_of-rests.result c.mul_high.result c.requires.numbers c.requires.guesses c.left_of-rests.ensures.eight
    c.mul_high-products.ensures.value c.left_of-rests.ensures.value c.mul_high.ensures.value c.requires.good

pub returns-clause-value : goal.returns-clause-value
returns-clause-value c =
    step_at c.args.numbers c.args.guesses c.mul_high-products.result c.left_of-rests.result c.mul_high.result c.twice.result c.requires.numbers c.requires.guesses c.left_of-rests.ensures.eight
    c.mul_high-products.ensures.value c.left_of-rests.ensures.value c.mul_high.ensures.value c.twice.ensures.value
