use Rattle.std.proofs.Common.{◌≡◌, ◌+◌, length, arith, ap, sym, ◌∙◌, subst, rules}
use Rattle.crossbeam_queue.specs.Passes.{view, ruled_capacity}
use Rattle.cull_base.proofs.Lists.{turn}
use Rattle.bin_queues.specs.Intakes.{QueueToken}
use Rattle.bin_queues.specs.QueueRule.{submitter}
use Rattle.bin_queues.specs.QueueParts.{BatchedFrame}
use Rattle.bin_queues.specs.Submitters.{HavePushed, frame_of}
use Rattle.bin_queues.proofs.Submitting.{frame_kept, has_place, map_kept, may_push, parts_length, pushed_all, pushed_one}
use Rattle.bin_queues.proofs.sender.push_all.Given as given
use Rattle.bin_queues.proofs.sender.push_all.Goals as goal
use Rattle.bin_queues.proofs.sender.push_all.Goals.{In-None}

pub offset_bounds-queues-bin : goal.offset_bounds-queues-bin
offset_bounds-queues-bin g c =
    let i = c.loop-part.invariant in
    let place = has_place (λ q. q.table.shared.table_id) c.args.queues.now c.loop-part.passes.items c.args.passes.now.items c.args.parts.items _ (frame_of c.args.passes.now.items) c.args._batch c.loop-part.bin c.in-Some.part _ c.requires.batched c.requires.own c.requires.parts i.2 c.in-Some.ensures.steps.0 i.4 i.5 in
    let few = place.few in
    omega (arith, few)

pub bounds-queues-bin : goal.bounds-queues-bin
bounds-queues-bin g c =
    let i = c.loop-part.invariant in
    (has_place (λ q. q.table.shared.table_id) c.args.queues.now c.loop-part.passes.items c.args.passes.now.items c.args.parts.items _ (frame_of c.args.passes.now.items) c.args._batch c.loop-part.bin c.in-Some.part _ c.requires.batched c.requires.own c.requires.parts i.2 c.in-Some.ensures.steps.0 i.4 i.5).queue

pub index_mut-requires : goal.index_mut-requires
index_mut-requires g c =
    let i = c.loop-part.invariant in
    let place = has_place (λ q. q.table.shared.table_id) c.args.queues.now c.loop-part.passes.items c.args.passes.now.items c.args.parts.items _ (frame_of c.args.passes.now.items) c.args._batch c.loop-part.bin c.in-Some.part _ c.requires.batched c.requires.own c.requires.parts i.2 c.in-Some.ensures.steps.0 i.4 i.5 in
    let lt = place.pass in
    let same : c.loop-part.passes.len ≡ length c.loop-part.passes.items = search rules in
    omega (arith, lt, same)

pub push-requires : goal.push-requires
push-requires g c =
    let i = c.loop-part.invariant in
    let m = may_push (λ q. q.table.shared.table_id) (λ q. ruled_capacity q) c.args.queues.now c.loop-part.passes.items c.args.passes.now.items c.args.parts.items _ (frame_of c.args.passes.now.items) c.args._batch c.loop-part.bin c.in-Some.part _ c.index_mut.result.now c.index-queues-bin.result c.requires.batched c.requires.own c.requires.room c.requires.short c.requires.parts i.2 c.in-Some.ensures.steps.0 i.4 i.5 c.index_mut.ensures.value c.index-queues-bin.is in
    record { own = (m.own, m.free); submits = m.submits; next = m.next; short = m.short; room = m.roomy }

pub loop-part-preserved : goal.loop-part-preserved
loop-part-preserved g c =
    let i = c.loop-part.invariant in
    let s = c.in-Some.ensures.steps in
    let b = c.loop-part.bin in
    let p = c.index_mut.result.now in
    let m = may_push (λ q. q.table.shared.table_id) (λ q. ruled_capacity q) c.args.queues.now c.loop-part.passes.items c.args.passes.now.items c.args.parts.items _ (frame_of c.args.passes.now.items) c.args._batch b c.in-Some.part _ p c.index-queues-bin.result c.requires.batched c.requires.own c.requires.room c.requires.short c.requires.parts i.2 s.0 i.4 i.5 c.index_mut.ensures.value c.index-queues-bin.is in
    let place = has_place (λ q. q.table.shared.table_id) c.args.queues.now c.loop-part.passes.items c.args.passes.now.items c.args.parts.items _ (frame_of c.args.passes.now.items) c.args._batch b c.in-Some.part _ c.requires.batched c.requires.own c.requires.parts i.2 s.0 i.4 i.5 in
    let t = turn c.args.parts.items b c.in-Some.part _ (sym i.2 ∙ s.0) in
    let is = c.index_mut.ensures.value in
    let pushed = c.push.ensures.pushed ∙ (λ j. submitter (m.named j) (m.counted j + 1)) in (
      tt,
      tt,
      t.0,
      omega (arith, i.3, s.1),
      map_kept (λ (z : QueueToken). z.table_id) c.loop-part.passes.items b c.push.new.pass p place.pass (c.push.ensures.own.0 ∙ ap (λ (z : QueueToken). z.table_id) is) ∙ i.4,
      pushed_one (frame_of c.args.passes.now.items) c.args._batch b c.loop-part.passes.items c.push.new.pass p i.5 place.pass (subst (λ (z : QueueToken). Rattle.crossbeam_queue.specs.Passes.IsSamePass z c.push.new.pass) is c.push.ensures.own) pushed,
    )

-- once each part is pushed
all_pushed : (g : given.Over) (c : In-None g) → HavePushed (frame_of c.args.passes.now.items) (c.args._batch + 1) 0 c.loop-part.passes.items
all_pushed g c =
    let i = c.loop-part.invariant in
    let frame = frame_of c.args.passes.now.items in
    let none = c.in-None.ensures.steps.0 in
    let whole = parts_length frame c.args._batch c.args.parts.items c.requires.parts in
    let count = i.5.count in
    pushed_all frame c.args._batch c.loop-part.bin c.loop-part.passes.items i.5 (omega (arith, i.3, none, whole, count))

pub returns-clause-frame : goal.returns-clause-frame
returns-clause-frame g c = frame_kept (frame_of c.args.passes.now.items) (c.args._batch + 1) 0 c.loop-part.passes.items c.requires.batched.is_cut (all_pushed g (goal.at.returns-clause-frame g c).In-None)

pub returns-clause-pushed : goal.returns-clause-pushed
returns-clause-pushed g c =
    let pushed = all_pushed g (goal.at.returns-clause-pushed g c).In-None in
    let same = frame_kept (frame_of c.args.passes.now.items) (c.args._batch + 1) 0 c.loop-part.passes.items c.requires.batched.is_cut pushed in
    subst (λ (f : BatchedFrame). HavePushed f (c.args._batch + 1) 0 c.loop-part.passes.items) (sym same) pushed
