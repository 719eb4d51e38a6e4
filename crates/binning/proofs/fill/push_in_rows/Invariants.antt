use Rattle.binning.specs.Pushed.{PushedWhere, is_bin_in_rows}
use Rattle.binning.proofs.fill.push_in_rows.Given as goal

abbrev pub invariant-loop-row : goal.invariant-loop-row
invariant-loop-row l = PushedWhere (is_bin_in_rows l.grid l.fn.reach.rows.first l.row l.fn.reach.columns.first l.fn.reach.columns.end) l.index l.initial.parts l.parts
