use Rattle.std.proofs.Common.{◌≤◌, take}
use Rattle.std.specs.List.{All}
use Rattle.box_rays.specs.Corners.{IsReach}
use Rattle.box_rays.proofs.corner.shift_of.Given as goal

abbrev pub invariant-loop-v : goal.invariant-loop-v
invariant-loop-v l = (1 ≤ l.most) × All (IsReach l.most) (take l.v-index l.corners)
