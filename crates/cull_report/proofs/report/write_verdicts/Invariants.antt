use Rattle.std.proofs.Common.{◌*◌, ◌≤◌, take}
use Rattle.cull_base.specs.Stream.{Appends}
use Rattle.cull_report.specs.Text.{verdict_lines}
use Rattle.cull_report.proofs.report.write_verdicts.Given as goal

abbrev pub invariant-loop-batch : goal.invariant-loop-batch
invariant-loop-batch g l = record {
  written : Appends (g.W.Sink.says l.fn.sink) (g.W.Sink.says l.sink) (verdict_lines 0 (take (128 * l.batch) l.verdicts));
  faults : (g.W.Sink.says l.fn.sink).faults ≤ (g.W.Sink.says l.sink).faults;
  refusals : (g.W.Sink.says l.fn.sink).refusals ≤ (g.W.Sink.says l.sink).refusals;
}
