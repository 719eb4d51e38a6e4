use Rattle.std.proofs.Common.{arith}
use Rattle.snap_setup.proofs.Floors.{quotient_within, step_within, first_within, in_two_steps}
use Rattle.snap_setup.proofs.snapping.quotient_in_two.Goals as goal

pub overflow_mul-first : goal.overflow_mul-first
overflow_mul-first c = omega (arith, first_within c.args.n c.args.d c.in-Some.upper c.requires c.in-Some.ensures, c.ranges.n)

pub overflow_mul-rest : goal.overflow_mul-rest
overflow_mul-rest c = omega (arith, step_within c.args.n c.args.d c.in-Some.upper c.in-Some.ensures, c.ranges.n)

pub overflow_sub-rest : goal.overflow_sub-rest
overflow_sub-rest c = step_within c.args.n c.args.d c.in-Some.upper c.in-Some.ensures

pub overflow_add-result : goal.overflow_add-result
overflow_add-result c =
    let whole = in_two_steps c.args.n c.args.d c.in-Some.upper c.in-Some-short_quotient.lower c.requires c.in-Some.ensures c.in-Some-short_quotient.ensures in
    omega (arith, whole, quotient_within c.args.n c.args.d c.requires, c.ranges.n)

pub returns : goal.returns
returns c = in_two_steps c.args.n c.args.d c.in-Some.upper c.in-Some-short_quotient.lower c.requires c.in-Some.ensures c.in-Some-short_quotient.ensures
