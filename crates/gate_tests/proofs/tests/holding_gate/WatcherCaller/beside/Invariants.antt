use Rattle.std.proofs.Common.{◌≡◌}
use Rattle.tile_queues.specs.Callers.{Follows}
use Rattle.gate_tests.proofs.tests.holding_gate.WatcherCaller.beside.Given as goal

abbrev pub invariant-loop : goal.invariant-loop
invariant-loop g l = record {
  follows : Follows l.fn.reader l.reader;
  cells : l.reader.cells ≡ l.cells;
  size : l.self.snapshot.size ≡ l.reader.list.size;
}
