use Rattle.std.proofs.Common.{◌≤◌, ◌∙◌, arith, sym, subst, slice_index_or}
use Rattle.edge_lanes.proofs.SpanEnds.{clear_apart}
use Rattle.edge_lanes.proofs.spans.Spans.ahead.Goals as goal

pub overflow_sub-end : goal.overflow_sub-end
overflow_sub-end c =
    let le = c.least_column.ensures 0 (omega arith) in
    let is = c.columns_from-past.ensures.value 0 (omega arith) in
    omega (arith, le, is)

pub returns-clause-met : goal.returns-clause-met
returns-clause-met c i lt clear r x lr from to =
    let s = c.tidied-spans.result in
    sym (c.tidied-spans.ensures r x lr)
    ∙ clear_apart (slice_index_or s.first r 0) (slice_index_or s.end r 0) c.args.column c.least_column-first.result c.least_column.result i x lt
    (subst (λ n. c.least_column-first.result ≤ n) (c.columns_before-before.ensures.value r lr) (c.least_column-first.ensures r lr))
    (subst (λ n. c.least_column.result ≤ n) (c.columns_from-past.ensures.value r lr) (c.least_column.ensures r lr))
    (sym (c.ones_between.ensures.bits i lt) ∙ clear) from to
