use Rattle.std.proofs.Common.{◌≤◌, take}
use Rattle.std.specs.List.{flat_map}
use Rattle.cull_base.specs.Stream.{Appends}
use Rattle.cull_report.specs.Live.{text_of_line}
use Rattle.frame_reports.proofs.live_frame.write_all.Given as goal

abbrev pub invariant-loop-line : goal.invariant-loop-line
invariant-loop-line g l = record {
  written : Appends (g.E.Sink.says l.fn.notes) (g.E.Sink.says l.notes) (flat_map text_of_line (take l.line-index l.lines));
  faults : (g.E.Sink.says l.fn.notes).faults ≤ (g.E.Sink.says l.notes).faults;
  refusals : (g.E.Sink.says l.fn.notes).refusals ≤ (g.E.Sink.says l.notes).refusals;
}
