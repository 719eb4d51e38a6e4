use Rattle.std.proofs.Common.{ℤ, pos, ◌+ℤ◌, ◌^◌, get_or, FitsSigned, w32, arith}
use Rattle.std.proofs.lemmas.Int.{ints}
use Rattle.cull_base.specs.Bounds.{Bounded}
use Rattle.point_lanes.proofs.Rowing.{held, held_same, held_sum, read, sums_fit}
use Rattle.point_lanes.proofs.rows.moved.Goals as goal

short : (z : ℤ) → Bounded (2 ^ 30) z → FitsSigned w32 z
short z h = omega (arith, ints, h)

both : (z b : ℤ) → Bounded (2 ^ 30) z → Bounded (2 ^ 24) b → FitsSigned w32 (z +ℤ b)
both z b h k = omega (arith, ints, h, k)

pub overflow_add-result : goal.overflow_add-result
overflow_add-result c =
    sums_fit w32 _ _ (λ j. get_or c.args.numbers j (pos 0)) (λ j. c.args.by) (held w32 c.args.numbers c.requires.eight (λ j lt. short (get_or c.args.numbers j (pos 0)) (c.requires.numbers j lt))) (held_same w32 c.args.by c.ranges.by)
    (λ j lt. both (get_or c.args.numbers j (pos 0)) c.args.by (c.requires.numbers j lt) c.requires.by)

pub returns : goal.returns
returns c =
    read w32 _ (λ j. get_or c.args.numbers j (pos 0) +ℤ c.args.by)
    (held_sum w32 _ _ (λ j. get_or c.args.numbers j (pos 0)) (λ j. c.args.by) (held w32 c.args.numbers c.requires.eight (λ j lt. short (get_or c.args.numbers j (pos 0)) (c.requires.numbers j lt))) (held_same w32 c.args.by c.ranges.by)
    (λ j lt. both (get_or c.args.numbers j (pos 0)) c.args.by (c.requires.numbers j lt) c.requires.by))
