use Rattle.std.proofs.Common.{◌<◌, arith, rules, refl, ap, sym, ◌∙◌, subst}
use Rattle.cull_base.specs.Screen.{tile_count_of}
use Rattle.binning.specs.Cut.{bin_count_of}
use Rattle.tile_cells.proofs.Lists.{turn}
use Rattle.tile_queues.specs.Owners.{ArePutBack}
use Rattle.bin_queues.specs.QueueParts.{BatchedFrame, IsBatched}
use Rattle.bin_queues.specs.Tasks.{Tasking}
use Rattle.tile_queues.proofs.Returning.{bin_writer, put_back_more, put_back_none}
use Rattle.tile_queues.proofs.close_queues.put_tasks.Goals as goal

pub loop-task-init : goal.loop-task-init
loop-task-init g c = (tt, tt, search rules, search rules, refl, put_back_none g.frame c.args.tasks.items c.args.slots.now)

pub put_writers-requires : goal.put_writers-requires
put_writers-requires g c n d lt =
    let i = c.loop-task.invariant in
    let s = c.in-Some.ensures.steps in
    let x = c.in-Some.task in
    let t = turn c.args.tasks.items c.loop-task.done x _ (sym i.2 ∙ s.0) in
    let bins = c.requires.1 in
    let framed = ap (λ (z : Tasking). z.of.frame) t.1 ∙ bins.frame_is c.loop-task.done x t.2 in
    let parts = c.into_parts-intake in
    let real = subst (λ (z : Tasking). z.of.bin < bin_count_of z.of.frame.cut) parts.ensures.intake (subst (λ k. k < bin_count_of parts.result.0.of.frame.cut) c.bin-bin.ensures.value c.bin-bin.ensures.real) in
    let own = bin_writer x parts.result.1 n d parts.ensures.bin (subst IsBatched (sym framed) bins.batched) real lt in
    let on = own.on_screen in
    let whole = i.4 ∙ c.requires.0 in
    let size = ap (λ (f : BatchedFrame). tile_count_of f.list.size) framed in
    omega (arith, on, size, whole)

pub loop-task-preserved : goal.loop-task-preserved
loop-task-preserved g c =
    let i = c.loop-task.invariant in
    let s = c.in-Some.ensures.steps in
    let x = c.in-Some.task in
    let t = turn c.args.tasks.items c.loop-task.done x _ (sym i.2 ∙ s.0) in
    let parts = c.into_parts-intake in
    let real = subst (λ (z : Tasking). z.of.bin < bin_count_of z.of.frame.cut) parts.ensures.intake (subst (λ k. k < bin_count_of parts.result.0.of.frame.cut) c.bin-bin.ensures.value c.bin-bin.ensures.real) in
    let put = c.put_writers.ensures in (
      tt,
      tt,
      t.0,
      omega (arith, i.3, s.1),
      put.whole ∙ i.4,
      put_back_more g.frame c.args.tasks.items c.loop-task.done x parts.result.1 c.args.slots.now c.loop-task.slots c.put_writers.new.slots c.requires.1 t.1 t.2 parts.ensures.bin real (i.4 ∙ c.requires.0) i.5 put,
    )

pub returns-clause-back : goal.returns-clause-back
returns-clause-back g c =
    let i = c.loop-task.invariant in
    let none = c.in-None.ensures.steps.0 in
    subst (λ n. ArePutBack g.frame c.args.tasks.items n c.args.slots.now c.loop-task.slots) (omega (arith, i.3, none)) i.5
