use Rattle.std.proofs.Common.{◌≡◌, drop}
use Rattle.scene_reader.specs.Fault.{first_among, fault_if, is_bad_row, first_bad_row}
use Rattle.scene_reader.proofs.checks.first_bad_row.Given as goal

abbrev pub invariant-loop-i : goal.invariant-loop-i
invariant-loop-i g l = first_among (λ k row. fault_if (is_bad_row row) k) l.i (drop l.i l.rows) ≡ first_bad_row l.rows
