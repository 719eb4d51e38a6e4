use Rattle.std.proofs.Common.{[], get_or, arith}
use Rattle.cull_base.specs.Grade.{top_of}
use Rattle.snap_setup.proofs.FrameLists.{list_none}
use Rattle.snap_setup.proofs.Takes.{took_none, room_for_two, few_counted, one_more}
use Rattle.snap_setup.proofs.SharedVertices.{corners_of}
use Rattle.snap_setup.proofs.frame.push_by_vertices.Goals as goal

pub loop-tri-init : goal.loop-tri-init
loop-tri-init c = let o = c.args.occluders.now in took_none c.args.keeping c.args.list.now _ (list_none o.clips.now (top_of o.grade) o.near.distance o.size c.args.winding)

pub push_shared-count-requires-clause-room : goal.push_shared-count-requires-clause-room
push_shared-count-requires-clause-room c =
    room_for_two c.args.occluders.now c.args.winding c.args.tris.now c.loop-tri.tri-index c.loop-tri.count c.args.keeping c.args.list.now c.loop-tri.list c.loop-tri-test.true c.loop-tri.invariant c.requires.room

pub push_shared-count-requires-clause-corners : goal.push_shared-count-requires-clause-corners
push_shared-count-requires-clause-corners c =
    let o = c.args.occluders.now in
    let t = get_or c.args.tris.now c.loop-tri.tri-index (record { 0 = [] }) in
    let e = c.corner_references.ensures in let f = c.vertex_references-corners.ensures in
    let has = c.requires.indices c.loop-tri.tri-index (record { 0 = [] }) c.loop-tri-test.true in
    corners_of o t c.args.vertices.now c.corner_references.result c.vertex_references-corners.result c.requires.vertices f.three has e.first e.second e.third f.first f.second f.third

pub loop-tri-preserved : goal.loop-tri-preserved
loop-tri-preserved c =
    let e = c.corner_references.ensures in
    one_more c.args.occluders.now c.args.winding c.args.tris.now c.loop-tri.tri-index c.loop-tri.count c.push_shared-count.result (record { 0 = [] }) c.args.keeping c.args.list.now c.loop-tri.list _ c.corner_references.result c.loop-tri-test.true c.loop-tri.invariant
    e.first e.second e.third c.push_shared-count.ensures.value

pub overflow_add-count : goal.overflow_add-count
overflow_add-count c =
    let few = few_counted c.args.occluders.now c.args.winding c.args.tris.now c.loop-tri.tri-index c.loop-tri.count c.args.keeping c.args.list.now c.loop-tri.list c.loop-tri-test.true c.loop-tri.invariant in
    omega (arith, few, c.requires.room, c.len-length.ensures.small, c.push_shared-count.ensures.most, c.push_shared-count.ensures.value.counted)
