use Rattle.std.proofs.Common.{◌*◌, ◌≤◌}
use Rattle.cull_base.specs.Screen.{tile_columns_of}
use Rattle.live_check.specs.Moving.{StatedTo}
use Rattle.live_check.specs.Standing.{StaysStanding}
use Rattle.live_check.specs.Waiting.{waiting}
use Rattle.live_check.proofs.tiles.Tiles.state.Given as goal

abbrev pub invariant-loop-row : goal.invariant-loop-row
invariant-loop-row g l = record {
  stays : StaysStanding l.fn.self l.self;
  stated : StatedTo l.span (l.row * tile_columns_of l.fn.self.size) l.fn.self l.self (waiting l.fn.unread (g.S.Source.says l.fn.log).left) (waiting l.unread (g.S.Source.says l.log).left);
  faults : (g.S.Source.says l.fn.log).faults ≤ (g.S.Source.says l.log).faults;
}
