use Rattle.std.proofs.Common.{◌≡◌, ◌+◌, ◌≤◌, drop, length, vec_capacity}
use Rattle.std.specs.Vec.Iter.{into_iter_items, into_iter_len}
use Rattle.frame_reports.specs.Windows.{AreDrawnFrom}
use Rattle.frame_reports.proofs.frame_pool.frames_of.Given as goal

abbrev pub invariant-loop-slot : goal.invariant-loop-slot
invariant-loop-slot g l =
    (goal.iterator-loop-slot g).can_next l.slot-iterator ×
    (goal.iterator-loop-slot g).is_finite l.slot-iterator ×
    (into_iter_items l.slot-iterator ≡ drop l.number l.fn.slots.items) ×
    (l.number + into_iter_len l.slot-iterator ≡ length l.fn.slots.items) ×
    (length l.frames.items ≡ l.number) ×
    AreDrawnFrom l.window.drawing.now.scene.now l.window.drawing.now.groups.now l.window.first l.number l.frames.items ×
    (length l.fn.slots.items ≤ vec_capacity l.frames) ×
    (length l.clips ≡ length l.fn.clips)
