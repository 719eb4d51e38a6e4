use Rattle.std.proofs.Common.{arith}
use Rattle.std.proofs.lemmas.Nat.Bits.{bit_at-zero}
use Rattle.edge_lanes.specs.Lines.{whole_of_all}
use Rattle.edge_lanes.proofs.Tiles.{are_held, of_narrow, whole_of_all-set}
use Rattle.edge_lanes.proofs.tile_edges.TileEdges.whole.Goals as goal

pub whole-requires : goal.whole-requires
whole-requires c = let h = are_held c.args.self.now c.in-Narrow.edges c.in-Narrow.is in record { first = h.first_bounded; second = h.second_bounded; third = h.third_bounded }

pub returns-in-Narrow : goal.returns-in-Narrow
returns-in-Narrow c = whole_of_all-set c.args.self.now c.whole.result (of_narrow c.args.self.now c.in-Narrow.edges c.in-Narrow.is whole_of_all c.whole.result c.whole.ensures.value)

pub returns-in-Wide : goal.returns-in-Wide
returns-in-Wide c j lt set = absurd (omega (arith, bit_at-zero j, set))
