use Rattle.std.proofs.Common.{◌≤ℤ◌, take}
use Rattle.std.specs.List.{All}
use Rattle.box_rays.proofs.nearness.nearest_of.Given as goal

abbrev pub invariant-loop-v : goal.invariant-loop-v
invariant-loop-v l = All (λ v. l.nearest ≤ℤ v.w) (take l.v-index l.corners)
