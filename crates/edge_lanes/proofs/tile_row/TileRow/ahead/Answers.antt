use Rattle.std.proofs.Common.{arith}
use Rattle.edge_lanes.proofs.SpanEnds.{all_set}
use Rattle.edge_lanes.proofs.TileRows.{ahead-crossed}
use Rattle.edge_lanes.proofs.tile_row.TileRow.ahead.Goals as goal

pub returns-in-Crossed-clause-clear : goal.returns-in-Crossed-clause-clear
returns-in-Crossed-clause-clear c = ahead-crossed c.args.self.now c.in-Crossed.field-0 c.args.column c.ahead.result c.in-Crossed.is c.ahead.ensures.met

pub returns-in-Plain-clause-clear : goal.returns-in-Plain-clause-clear
returns-in-Plain-clause-clear c i l within z j lj = let s = all_set i l in absurd (omega (arith, s, z))
