use Rattle.std.proofs.Common.{◌≡◌, ◌*◌, ◌≤◌, length, take, vec_capacity}
use Rattle.cull_report.specs.Text.{verdict_lines}
use Rattle.cull_report.proofs.frame_verdicts.text_with_ends.Given as goal

abbrev pub invariant-loop-number : goal.invariant-loop-number
invariant-loop-number l = record {
  lines : l.text.items ≡ verdict_lines 0 (take (l.size * l.number) l.verdicts);
  short : length l.text.items ≤ 30 * (l.size * l.number);
  room : 30 * length l.verdicts ≤ vec_capacity l.text;
  ends : length l.ends.items ≡ l.number;
  end_room : l.pieces ≤ vec_capacity l.ends;
}
