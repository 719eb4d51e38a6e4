use Rattle.std.proofs.Common.{◌≡◌, ℕ, ◌+◌, ◌*◌, ◌≤◌, List, Option}
use Rattle.cull_base.specs.Screen.{tile_columns_of}
use Rattle.live_check.specs.Moving.{StatedTo}
use Rattle.live_check.specs.Standing.{StaysStanding, TilesOf}
use Rattle.live_check.specs.Waiting.{waiting}
use Rattle.live_check.proofs.tiles.Tiles.state_row.Given as goal

abbrev pub invariant-loop-column : goal.invariant-loop-column
invariant-loop-column g l = record {
  stays : StaysStanding l.fn.self l.self;
  stated : (first : TilesOf) (before : Option (List ℕ)) → first.size ≡ l.fn.self.size → StatedTo l.span (l.row * tile_columns_of first.size) first l.fn.self before (waiting l.fn.unread (g.S.Source.says l.fn.log).left)
      → StatedTo l.span (l.row * tile_columns_of first.size + l.column) first l.self before (waiting l.unread (g.S.Source.says l.log).left);
  faults : (g.S.Source.says l.fn.log).faults ≤ (g.S.Source.says l.log).faults;
}
