use Rattle.std.proofs.Common.{◌≤◌, length, take}
use Rattle.cull_base.specs.Stream.{Appends}
use Rattle.cull_report.proofs.frame_verdicts.write_by_ends.Given as goal

abbrev pub invariant-loop-end : goal.invariant-loop-end
invariant-loop-end g l = record {
  written : Appends (g.W.Sink.says l.fn.sink) (g.W.Sink.says l.sink) (take l.from l.text);
  within : l.from ≤ length l.text;
  faults : (g.W.Sink.says l.fn.sink).faults ≤ (g.W.Sink.says l.sink).faults;
  refusals : (g.W.Sink.says l.fn.sink).refusals ≤ (g.W.Sink.says l.sink).refusals;
}
