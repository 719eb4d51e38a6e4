use Rattle.std.proofs.Common.{◌≡◌, take}
use Rattle.cull_base.specs.Tiles.{with_members}
use Rattle.cull_base.proofs.frame_list.FrameList.append.Given as goal

abbrev pub invariant-loop-tri : goal.invariant-loop-tri
invariant-loop-tri l = l.self ≡ with_members l.initial.self (take l.tri-index l.other.list.members)
