use Rattle.std.proofs.Common.{◌≡◌, length}
use Rattle.std.specs.Vec.Iter.{into_iter_items, into_iter_len}
use Rattle.cull_base.proofs.Lists.{GoesOver}
use Rattle.bin_queues.specs.Frames.{over}
use Rattle.tile_queues.specs.Owners.{AreLeft}
use Rattle.tile_queues.specs.Shares.{AreDealt, IsFirstAt}
use Rattle.tile_queues.proofs.share.deal_to.Given as goal

abbrev pub invariant-loop-intake : goal.invariant-loop-intake
invariant-loop-intake g l =
    GoesOver ((goal.iterator-loop-intake g).can_next l.intake-iterator) ((goal.iterator-loop-intake g).is_finite l.intake-iterator)
    l.fn.intakes.items l.bin (into_iter_items l.intake-iterator) (into_iter_len l.intake-iterator)
    (length l.slots ≡ length l.fn.slots)
    (AreLeft (over l.frame g.cells) l.bin 0 l.slots × AreDealt (IsFirstAt l._queues (over l.frame g.cells)) l.workers l.bin l.shares)
