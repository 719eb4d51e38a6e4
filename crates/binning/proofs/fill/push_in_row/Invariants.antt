use Rattle.binning.specs.Pushed.{PushedWhere, is_bin_in_row}
use Rattle.binning.proofs.fill.push_in_row.Given as goal

abbrev pub invariant-loop-column : goal.invariant-loop-column
invariant-loop-column l = PushedWhere (is_bin_in_row l.grid l.row l.fn.columns.first l.column) l.index l.initial.parts l.parts
