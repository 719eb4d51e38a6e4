use Rattle.std.proofs.Common.{take}
use Rattle.std.specs.List.{All}
use Rattle.box_rays.specs.HalfSpaces.{IsIn}
use Rattle.box_rays.proofs.Sums.{IsSure}
use Rattle.box_rays.proofs.half_space.HalfSpace.has_all.Given as goal

abbrev pub invariant-loop-v : goal.invariant-loop-v
invariant-loop-v l = All (IsSure (IsIn l.self)) (take l.v-index l.corners)
