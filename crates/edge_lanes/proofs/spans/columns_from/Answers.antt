use Rattle.std.proofs.Common.{◌-◌, ◌∙◌, ap, arith}
use Rattle.edge_lanes.proofs.SpanLanes.{none_above, taken_at, taken_long}
use Rattle.edge_lanes.proofs.spans.columns_from.Goals as goal

pub overflow_sub-result : goal.overflow_sub-result
overflow_sub-result c = none_above 256 c.columns_before.result c.columns_before.ensures.eight (λ i lt. omega (arith, c.columns_before.ensures.value i lt))

pub returns-clause-eight : goal.returns-clause-eight
returns-clause-eight c = taken_long 256 c.columns_before.result c.columns_before.ensures.eight

pub returns-clause-value : goal.returns-clause-value
returns-clause-value c r lt = taken_at 256 c.columns_before.result c.columns_before.ensures.eight r lt ∙ ap (λ n. 256 - n) (c.columns_before.ensures.value r lt)
