use Rattle.std.proofs.Common.{length, take, ap, arith, length-append}
use Rattle.std.proofs.lemmas.List.Folds.{length-flat_map-take}
use Rattle.cull_base.specs.Tiles.{FrameListOf}
use Rattle.snap_setup.specs.Runs.{members_of}
use Rattle.snap_setup.proofs.runs.join_all.Goals as goal

pub append-requires : goal.append-requires
append-requires c =
    let rooms = c.args.rooms.now in
    let i = c.loop-room.room-index in
    let at = length-flat_map-take (λ (f : FrameListOf). f.list.members) rooms i c.room-item.result c.loop-room-test.true in
    let here = ap (λ (f : FrameListOf). length f.list.members) c.room-item.is in
    let old = ap (λ (f : FrameListOf). length f.list.members) c.loop-room.invariant in
    let room = ap (λ (f : FrameListOf). f.room) c.loop-room.invariant in
    omega (arith, at, here, old, room, c.requires, length-append c.args.list.now.list.members (members_of (take i rooms)))
