use Rattle.edge_lanes.proofs.SpanBytes.{mask_at}
use Rattle.edge_lanes.proofs.spans.Spans.masks.Goals as goal

pub returns : goal.returns
returns c =
    let firsts = c.from_ends-from_first in let ends = c.from_ends-from_end in
    mask_at c.args.self.now c.args.column firsts.result ends.result firsts.ensures.long ends.ensures.long firsts.ensures.value ends.ensures.value
