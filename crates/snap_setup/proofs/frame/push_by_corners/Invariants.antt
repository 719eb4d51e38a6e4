use Rattle.std.proofs.Common.{take}
use Rattle.snap_setup.specs.Keeping.{Took}
use Rattle.snap_setup.specs.Occluders.{list_of_part}
use Rattle.snap_setup.proofs.frame.push_by_corners.Given as goal

abbrev pub invariant-loop-tri : goal.invariant-loop-tri
invariant-loop-tri l = Took l.keeping l.initial.list l.list l.count (list_of_part l.fn.occluders l.winding (take l.tri-index l.tris))
