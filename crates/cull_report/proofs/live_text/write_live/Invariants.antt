use Rattle.std.proofs.Common.{◌≡◌, ◌*◌, ◌≤◌, ◌++◌, List, ℕ, length, take}
use Rattle.cull_base.specs.Stream.{Appends}
use Rattle.cull_report.specs.LivePieces.{head_text, counts_text}
use Rattle.cull_report.proofs.live_text.write_live.Given as goal

abbrev pub invariant-loop-batch : goal.invariant-loop-batch
invariant-loop-batch g l = record {
  written : (front : List ℕ) × Appends (g.W.Sink.says l.fn.sink) (g.W.Sink.says l.sink) front × (front ++ l.text ≡ head_text l.line ++ counts_text (take (64 * l.batch) l.line.counts));
  short : length l.text ≤ 128;
  faults : (g.W.Sink.says l.fn.sink).faults ≤ (g.W.Sink.says l.sink).faults;
  refusals : (g.W.Sink.says l.fn.sink).refusals ≤ (g.W.Sink.says l.sink).refusals;
}
