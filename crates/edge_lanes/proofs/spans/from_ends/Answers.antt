use Rattle.std.proofs.Common.{ℕ, ◌+◌, ◌-◌, ◌*◌, ◌/◌, ◌%◌, ◌^◌, ◌∙◌, ap, min, arith, slice_index_or}
use Rattle.edge_lanes.proofs.SpanBytes.{of_subtile}
use Rattle.edge_lanes.proofs.spans.from_ends.Goals as goal

pub returns-clause-value : goal.returns-clause-value
returns-clause-value c i lt =
    let r : ℕ = 4 * (i / 16) + i % 4 in
    c.bytes_from.ensures.value i lt
    ∙ ap (λ n. 2 ^ 8 - 2 ^ n) (c.in_bytes.ensures.value i lt
    ∙ ap (λ n. min (n - 8 * (i / 4 % 4)) 8) (c.columns_before.ensures.value r (omega arith))
    ∙ of_subtile (slice_index_or c.args.ends r 0) c.args.column (i / 4 % 4) (omega arith))
