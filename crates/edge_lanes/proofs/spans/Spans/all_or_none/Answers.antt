use Rattle.std.proofs.Common.{arith}
use Rattle.edge_lanes.proofs.SpanEnds.{all_set}
use Rattle.edge_lanes.proofs.SpanLanes.{none_between}
use Rattle.edge_lanes.proofs.spans.Spans.all_or_none.Goals as goal

pub returns-then-some-eq0-clause-met : goal.returns-then-some-eq0-clause-met
returns-then-some-eq0-clause-met c column i lt clear r x lr from to =
    let s = c.args.self.now in none_between s.first s.end s.eight_firsts s.eight_ends c.if-some-eq0.true r x lr

pub returns-else-some-eq0-clause-met : goal.returns-else-some-eq0-clause-met
returns-else-some-eq0-clause-met c column i lt clear r x lr from to = let set = all_set i lt in absurd (omega (arith, set, clear))
