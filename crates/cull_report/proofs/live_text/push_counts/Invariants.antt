use Rattle.std.proofs.Common.{◌≡◌, ◌+◌, ◌-◌, ◌*◌, ◌≤◌, ◌++◌, length, take, drop}
use Rattle.cull_report.specs.LivePieces.{counts_text}
use Rattle.cull_report.proofs.live_text.push_counts.Given as goal

abbrev pub invariant-loop-i : goal.invariant-loop-i
invariant-loop-i l = record {
  text : l.text ≡ l.fn.text ++ counts_text (take (l.i - l.fn.first) (drop l.fn.first l.line.counts));
  short : length l.text ≤ 128 + 42 * (l.i - l.fn.first);
}
