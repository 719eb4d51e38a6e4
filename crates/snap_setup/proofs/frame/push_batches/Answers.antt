use Rattle.std.proofs.Common.{length, drop, sym, subst, arith}
use Rattle.std.specs.List.{All}
use Rattle.std.proofs.lemmas.List.Elements.{All-take, All-drop}
use Rattle.cull_base.specs.declared.scene_types.Tri.{Tri}
use Rattle.snap_setup.specs.Batches.{without}
use Rattle.snap_setup.specs.Occluders.{list_of_some}
use Rattle.snap_setup.specs.Pieces.{HasClips}
use Rattle.snap_setup.proofs.Batches.{taken_none, taken_more, taken_all, room_for_part, part_within}
use Rattle.snap_setup.proofs.frame.push_batches.Goals as goal

pub loop-batch-init : goal.loop-batch-init
loop-batch-init c =
    let o = c.args.occluders.now in
    record {
      taken = taken_none o c.args.keeping c.args.list.now c.args.tris.now (without c.args.skipped o.batches.now);
      within = omega arith;
    }

pub push_all-count-requires-clause-room : goal.push_all-count-requires-clause-room
push_all-count-requires-clause-room c =
    let o = c.args.occluders.now in
    let tris = c.args.tris.now in
    let l = c.loop-batch in
    room_for_part o c.args.keeping c.args.list.now (list_of_some o tris c.args.skipped) tris o.batches.now l.list l.count l.done l.before l.batch-index _ c.next_of-part.result.now l.invariant.taken c.next_of-part.ensures c.requires.room

pub overflow_add-done : goal.overflow_add-done
overflow_add-done c =
    let within = part_within c.args.tris.now c.next_of-part.result.now c.loop-batch.done _ c.loop-batch.invariant.within c.next_of-part.ensures in
    omega (arith, within, c.requires.room, c.len-length.ensures.small)

pub overflow_add-count : goal.overflow_add-count
overflow_add-count c =
    let o = c.args.occluders.now in
    let tris = c.args.tris.now in
    let l = c.loop-batch in
    let more = taken_more o c.args.keeping c.args.list.now (list_of_some o tris c.args.skipped) tris o.batches.now l.list c.push_all-count.new.list l.count c.push_all-count.result l.done l.before l.batch-index _ _ _ c.next_of-part.result.now
    c.loop-batch-test.true l.invariant.taken c.saturating_sub.ensures c.saturating_sub-before.ensures c.next_of-part.ensures c.push_all-count.ensures in
    omega (arith, more.took.counted, more.few, c.requires.room, c.len-length.ensures.small)

pub loop-batch-preserved : goal.loop-batch-preserved
loop-batch-preserved c =
    let o = c.args.occluders.now in
    let tris = c.args.tris.now in
    let l = c.loop-batch in
    record {
      taken =
          taken_more o c.args.keeping c.args.list.now (list_of_some o tris c.args.skipped) tris o.batches.now l.list c.push_all-count.new.list l.count c.push_all-count.result l.done l.before l.batch-index _ _ _ c.next_of-part.result.now
          c.loop-batch-test.true l.invariant.taken c.saturating_sub.ensures c.saturating_sub-before.ensures c.next_of-part.ensures c.push_all-count.ensures;
      within = part_within tris c.next_of-part.result.now l.done _ l.invariant.within c.next_of-part.ensures;
    }

pub returns : goal.returns
returns c =
    let o = c.args.occluders.now in
    let tris = c.args.tris.now in
    let l = c.loop-batch in
    taken_all o c.args.keeping c.args.list.now (list_of_some o tris c.args.skipped) tris o.batches.now l.list l.count l.done l.before l.batch-index c.loop-batch-test.false l.invariant.taken

pub push_all-count-requires-clause-indices : goal.push_all-count-requires-clause-indices
push_all-count-requires-clause-indices c =
    let P : Tri → Type 0 = HasClips (length c.args.occluders.now.clips.now) in
    let rest = drop c.loop-batch.done c.args.tris.now in
    subst (All P) (sym c.next_of-part.ensures) (All-take P _ rest (All-drop P c.loop-batch.done c.args.tris.now c.requires.indices))
