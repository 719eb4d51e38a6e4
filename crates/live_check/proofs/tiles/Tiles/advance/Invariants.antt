use Rattle.live_check.proofs.Advance.{MovedTo}
use Rattle.live_check.proofs.tiles.Tiles.advance.Given as goal

abbrev pub invariant-loop-index : goal.invariant-loop-index
invariant-loop-index l = MovedTo l.fn.list.list l.fn.span l.index l.fn.self l.self
