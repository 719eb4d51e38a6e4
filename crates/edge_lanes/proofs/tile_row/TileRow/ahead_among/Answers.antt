use Rattle.std.proofs.Common.{arith}
use Rattle.edge_lanes.proofs.SpanEnds.{all_set}
use Rattle.edge_lanes.proofs.TileRows.{ahead-crossed}
use Rattle.edge_lanes.proofs.tile_row.TileRow.ahead_among.Goals as goal

pub returns-then-count-eq1-clause-clear : goal.returns-then-count-eq1-clause-clear
returns-then-count-eq1-clause-clear c =
    ahead-crossed c.args.self.now c.in-Crossed.field-0 c.args.column c.all_or_none.result c.in-Crossed.is (c.all_or_none.ensures.met c.args.column)

pub returns-else-count-eq1-clause-clear : goal.returns-else-count-eq1-clause-clear
returns-else-count-eq1-clause-clear c = ahead-crossed c.args.self.now c.in-Crossed.field-0 c.args.column c.ahead.result c.in-Crossed.is c.ahead.ensures.met

pub returns-in-Plain-clause-clear : goal.returns-in-Plain-clause-clear
returns-in-Plain-clause-clear c i l within z j lj = let s = all_set i l in absurd (omega (arith, s, z))
