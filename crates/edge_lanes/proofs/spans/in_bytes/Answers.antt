use Rattle.std.proofs.Common.{◌-◌, ◌∙◌, ap₂, min}
use Rattle.edge_lanes.proofs.SpanBytes.{before_at}
use Rattle.edge_lanes.proofs.spans.in_bytes.Goals as goal

pub returns-clause-value : goal.returns-clause-value
returns-clause-value c i lt = c.past.ensures.value i lt ∙ ap₂ (λ n b. min (n - b) 8) (c.by_rows.ensures.value i lt) (before_at i lt)
