use Rattle.std.proofs.Common.{length, ap, ◌∙◌, arith, length-append}
use Rattle.cull_base.specs.Tiles.{FrameListOf}
use Rattle.cull_base.specs.Grade.{top_of}
use Rattle.snap_setup.specs.Runs.{members_of}
use Rattle.snap_setup.proofs.Batches.{batches_most}
use Rattle.snap_setup.proofs.Joining.{joined}
use Rattle.snap_setup.proofs.runs.frame_list_by_workers.Goals as goal

pub join_all-requires : goal.join_all-requires
join_all-requires g c =
    let o = c.args.occluders.now in
    let e = c.in_ok-rooms.ensures in
    let first = c.remove-list.result in
    let parts = joined o c.div_ceil-share.result c.in_ok-rooms.rooms.items c.as_slice-2.result.now first e.made (omega (arith, e.runs, c.if-runs-le1.false))
    (rw e.runs c.div_ceil-share.ensures) c.remove-list.ensures.value (c.as_slice-2.ensures.value ∙ c.remove-list.ensures.by_index.2) in
    let most = batches_most o.clips.now (top_of o.grade) o.near.distance o.size o.batches.now o.tris.now in
    let room = ap (λ (f : FrameListOf). f.room) c.remove-list.ensures.value in
    let enough = (e.first first).1 in
    omega (arith, ap length parts, most, room, enough, length-append first.list.members (members_of c.as_slice-2.result.now))

pub returns-clause-members : goal.returns-clause-members
returns-clause-members g c =
    let o = c.args.occluders.now in
    let e = c.in_ok-rooms.ensures in
    ap (λ (f : FrameListOf). f.list.members) c.join_all.ensures
    ∙ joined o c.div_ceil-share.result c.in_ok-rooms.rooms.items c.as_slice-2.result.now c.remove-list.result e.made (omega (arith, e.runs, c.if-runs-le1.false))
    (rw e.runs c.div_ceil-share.ensures) c.remove-list.ensures.value (c.as_slice-2.ensures.value ∙ c.remove-list.ensures.by_index.2)
