use Rattle.binning.specs.Pushed.{GotIndices}
use Rattle.binning.proofs.fill.fill.Given as goal

abbrev pub invariant-loop-index : goal.invariant-loop-index
invariant-loop-index l = GotIndices l.list.list l.grid.cut l.fn.from l.index l.initial.parts l.parts
