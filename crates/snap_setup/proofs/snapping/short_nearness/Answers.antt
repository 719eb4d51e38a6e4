use Rattle.std.proofs.Common.{◌≤◌, ℕ, Fits, w32, arith, rules}
use Rattle.cull_base.specs.declared.nearness.Grade.{Grade}
use Rattle.cull_base.specs.Grade.{top_of}
use Rattle.snap_setup.proofs.Tops.{top_held}
use Rattle.snap_setup.proofs.Reached.{IsRoundedNearness, nearness_by_w}
use Rattle.snap_setup.proofs.snapping.short_nearness.Goals as goal

small : (grade : Grade) (q : ℕ) → q ≤ top_of grade → Fits w32 q
small grade q h = omega (arith, h, top_held grade)

found : (c : goal.In-Some) → IsRoundedNearness (top_of c.args.grade) c.args.near.distance c.args.point.now c.args.side c.in-Some.q
found c =
    nearness_by_w c.args.side (top_of c.args.grade) c.args.near.distance c.args.point.now _ _ _ _ c.in-Some.q c.args.near.least c.args.near.most c.requires.reach c.requires.sight.w_least
    (search rules) (search rules) c.unsigned_abs.ensures.value c.nearness_numerator-numerator.ensures.value c.unsigned_abs-w.ensures.value c.addend.ensures.value c.in-Some.ensures

pub overflow_cast-result : goal.overflow_cast-result
overflow_cast-result c = small c.args.grade c.in-Some.q (found c).within

pub returns-in-Some : goal.returns-in-Some
returns-in-Some c = ((found c).value, (found c).within)
