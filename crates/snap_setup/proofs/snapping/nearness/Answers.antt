use Rattle.std.proofs.Common.{◌≤◌, ℕ, Fits, w32, arith, rules}
use Rattle.cull_base.specs.declared.nearness.Grade.{Grade}
use Rattle.cull_base.specs.Grade.{top_of}
use Rattle.snap_setup.proofs.Tops.{top_held}
use Rattle.snap_setup.proofs.Reached.{IsRoundedNearness, nearness_doubled}
use Rattle.snap_setup.proofs.snapping.nearness.Goals as goal

small : (grade : Grade) (q : ℕ) → q ≤ top_of grade → Fits w32 q
small grade q h = omega (arith, h, top_held grade)

found : (c : goal.After-quotient) → IsRoundedNearness (top_of c.args.grade) c.args.near.distance c.args.point.now c.args.side c.quotient.result
found c =
    nearness_doubled c.args.side (top_of c.args.grade) c.args.near.distance c.args.point.now _ _ _ _ _ c.quotient.result c.args.near.least c.args.near.most c.requires.reach c.requires.sight.w_least
    (search rules) (search rules) c.unsigned_abs.ensures.value c.nearness_numerator-numerator.ensures.value c.unsigned_abs-2.ensures.value c.requires.doubled c.addend.ensures.value c.quotient.ensures

pub overflow_cast-result : goal.overflow_cast-result
overflow_cast-result c = small c.args.grade c.quotient.result (found c).within

pub returns-clause-value : goal.returns-clause-value
returns-clause-value c = (found c).value

pub returns-clause-within : goal.returns-clause-within
returns-clause-within c = (found c).within
