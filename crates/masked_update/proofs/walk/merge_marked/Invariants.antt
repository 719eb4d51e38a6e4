use Rattle.masked_update.proofs.Marks.{AreDone}
use Rattle.masked_update.proofs.walk.merge_marked.Given as goal

abbrev pub invariant-loop-left : goal.invariant-loop-left
invariant-loop-left l = AreDone l.fn.reached.size l.fn.piece l.fn.at.row l.fn.span.first_column l.fn.bits l.left l.initial.canvas l.canvas

abbrev pub decreases-loop-left : goal.decreases-loop-left
decreases-loop-left l = l.left
