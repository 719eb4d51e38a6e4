use Rattle.std.proofs.Common.{◌≤◌, map, length, vec_capacity}
use Rattle.std.specs.Vec.Iter.{into_iter_items, into_iter_len}
use Rattle.cull_base.proofs.Lists.{GoesOver}
use Rattle.tile_cells.specs.Passes.{AreOpened}
use Rattle.tile_cells.proofs.slots.take_all.Given as goal

abbrev pub invariant-loop-slot : goal.invariant-loop-slot
invariant-loop-slot l =
    GoesOver ((goal.iterator-loop-slot).can_next l.slot-iterator) ((goal.iterator-loop-slot).is_finite l.slot-iterator)
    l.fn.slots.items l.tile (into_iter_items l.slot-iterator) (into_iter_len l.slot-iterator)
    (AreOpened l.list.list l.tile (map (λ c. c.table.shared.table_id) l.cells.items) l.passes.items)
    ((length l.fn.slots.items ≤ vec_capacity l.cells) × (length l.fn.slots.items ≤ vec_capacity l.passes))
