use Rattle.std.proofs.Common.{◌*◌, ◌≤◌, take}
use Rattle.cull_base.specs.Stream.{Appends}
use Rattle.cull_report.specs.Text.{verdict_lines}
use Rattle.cull_report.proofs.frame_verdicts.write_runs.Given as goal

abbrev pub invariant-loop-run : goal.invariant-loop-run
invariant-loop-run g l = record {
  written : Appends (g.W.Sink.says l.fn.sink) (g.W.Sink.says l.sink) (verdict_lines 0 (take (l._size * l.run-index) l._verdicts));
  faults : (g.W.Sink.says l.fn.sink).faults ≤ (g.W.Sink.says l.sink).faults;
  refusals : (g.W.Sink.says l.fn.sink).refusals ≤ (g.W.Sink.says l.sink).refusals;
}
