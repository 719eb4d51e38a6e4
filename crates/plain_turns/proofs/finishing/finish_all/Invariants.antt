use Rattle.std.proofs.Common.{◌≡◌, ℕ, ◌+◌, ◌<◌, ◌≤◌, drop, length, get_or, vec_capacity}
use Rattle.std.specs.Vec.Iter.{into_iter_items, into_iter_len}
use Rattle.masked_update.specs.Canvas.{CanvasOf}
use Rattle.bin_tiles.specs.Bins.{IsBinAt}
use Rattle.bin_tiles.specs.Plain.{StandsPlain}
use Rattle.plain_turns.proofs.finishing.finish_all.Given as goal

abbrev pub invariant-loop-slot : goal.invariant-loop-slot
invariant-loop-slot g l =
    (goal.iterator-loop-slot g).can_next l.slot-iterator ×
    (goal.iterator-loop-slot g).is_finite l.slot-iterator ×
    (into_iter_items l.slot-iterator ≡ drop l.bin l.fn.slots.items) ×
    (l.bin + into_iter_len l.slot-iterator ≡ length l.fn.slots.items) ×
    (length l.bins.items ≡ l.bin) ×
    ((b : ℕ) (d : CanvasOf) → b < l.bin → IsBinAt StandsPlain (tt {0}) l.drawing.frame.list.now.list l.drawing.frame.cut.now (length l.drawing.frame.list.now.list.members) b (get_or l.bins.items b d)) ×
    (length l.fn.slots.items ≤ vec_capacity l.bins) ×
    (l.sender ≡ l.initial.sender)
