use Rattle.std.proofs.Common.{◌≡◌, ◌≤◌, ◌+◌, drop, length, vec_capacity}
use Rattle.std.specs.Vec.Iter.{into_iter_items, into_iter_len}
use Rattle.tile_cells.specs.Cells.{AreFresh}
use Rattle.tile_cells.proofs.make.write_all.Given as goal

abbrev pub invariant-loop-pass : goal.invariant-loop-pass
invariant-loop-pass l =
    (goal.iterator-loop-pass).can_next l.pass-iterator ×
    (goal.iterator-loop-pass).is_finite l.pass-iterator ×
    (into_iter_items l.pass-iterator ≡ drop l.tile l.fn.passes.items) × (l.tile + into_iter_len l.pass-iterator ≡ length l.fn.passes.items) × AreFresh l.cells l.list.list l.tile l.writers.items
    × (length l.fn.passes.items ≤ vec_capacity l.writers)
