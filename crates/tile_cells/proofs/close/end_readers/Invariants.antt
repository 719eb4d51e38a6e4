use Rattle.std.proofs.Common.{take, length, All}
use Rattle.std.specs.Vec.Iter.{into_iter_items, into_iter_len}
use Rattle.cull_base.proofs.Lists.{GoesOver}
use Rattle.tile_cells.specs.Passes.{Hears, HeardBelow}
use Rattle.tile_cells.proofs.close.end_readers.Given as goal

abbrev pub invariant-loop-reader : goal.invariant-loop-reader
invariant-loop-reader l =
    GoesOver ((goal.iterator-loop-reader).can_next l.reader-iterator) ((goal.iterator-loop-reader).is_finite l.reader-iterator)
    l.fn.readers.items l.done (into_iter_items l.reader-iterator) (into_iter_len l.reader-iterator)
    (Hears l.fn.writers l.writers)
    (All (λ r. HeardBelow (length l.cells) r.seen l.writers) (take l.done l.fn.readers.items))
