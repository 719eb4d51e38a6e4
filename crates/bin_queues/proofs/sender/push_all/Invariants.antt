use Rattle.std.proofs.Common.{◌≡◌}
use Rattle.std.specs.Vec.Iter.{into_iter_items, into_iter_len}
use Rattle.cull_base.proofs.Lists.{GoesOver}
use Rattle.bin_queues.specs.Submitters.{HavePushed, frame_of, queues_of}
use Rattle.bin_queues.proofs.sender.push_all.Given as goal

abbrev pub invariant-loop-part : goal.invariant-loop-part
invariant-loop-part g l =
    GoesOver ((goal.iterator-loop-part g).can_next l.part-iterator) ((goal.iterator-loop-part g).is_finite l.part-iterator)
    l.fn.parts.items l.bin (into_iter_items l.part-iterator) (into_iter_len l.part-iterator)
    (queues_of l.passes.items ≡ queues_of l.initial.passes.items)
    (HavePushed (frame_of l.initial.passes.items) l._batch l.bin l.passes.items)
