use Rattle.std.proofs.Common.{◌≡◌, ◌*◌, ◌≤◌, length, take}
use Rattle.cull_report.specs.Text.{verdict_lines}
use Rattle.cull_report.proofs.report.lines_from.Given as goal

abbrev pub invariant-loop-k : goal.invariant-loop-k
invariant-loop-k l = record {
  are : l.lines ≡ verdict_lines l.fn.first (take l.k l.verdicts);
  short : length l.lines ≤ 30 * l.k;
  within : l.k ≤ length l.verdicts;
}
