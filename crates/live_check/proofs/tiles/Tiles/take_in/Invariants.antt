use Rattle.std.proofs.Common.{◌+◌, ◌*◌, ◌≤◌}
use Rattle.cull_base.specs.Screen.{tile_columns_of}
use Rattle.live_check.proofs.Taking.{TookBefore}
use Rattle.live_check.proofs.tiles.Tiles.take_in.Given as goal

abbrev pub invariant-loop-row : goal.invariant-loop-row
invariant-loop-row l = record {
  took : TookBefore l.fn.reached (l.row * tile_columns_of l.fn.self.size) l.fn.tri l.fn.index l.fn.self l.self;
  few : l.done ≤ l.row * 64;
}

abbrev pub invariant-loop-column : goal.invariant-loop-column
invariant-loop-column l = record {
  took : TookBefore l.fn.reached (l.row * tile_columns_of l.fn.self.size + l.column) l.fn.tri l.fn.index l.fn.self l.self;
  few : l.done ≤ l.row * 64 + l.column;
}
