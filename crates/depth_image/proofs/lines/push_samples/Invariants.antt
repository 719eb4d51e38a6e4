use Rattle.std.proofs.Common.{◌≡◌, ◌+◌, ◌*◌, ◌≤◌, ◌++◌, length}
use Rattle.depth_image.specs.Samples.{sample_lines}
use Rattle.depth_image.proofs.lines.push_samples.Given as goal

abbrev pub invariant-loop-column : goal.invariant-loop-column
invariant-loop-column l = record {
  text : l.text ≡ l.fn.text ++ sample_lines l.fn.grade l.fn.sub (8 * l.fn.row) l.column;
  short : length l.text ≤ length l.fn.text + 6 * l.column;
}
