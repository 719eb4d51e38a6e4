use Rattle.std.proofs.Common.{◌≡◌, take}
use Rattle.cull_base.specs.Tiles.{with_members}
use Rattle.snap_setup.specs.Runs.{members_of}
use Rattle.snap_setup.proofs.runs.join_all.Given as goal

abbrev pub invariant-loop-room : goal.invariant-loop-room
invariant-loop-room l = l.list ≡ with_members l.initial.list (members_of (take l.room-index l.rooms))
