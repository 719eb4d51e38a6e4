use Rattle.std.proofs.Common.{◌≡◌, ◌+◌, drop, length}
use Rattle.std.specs.Vec.Iter.{into_iter_items, into_iter_len}
use Rattle.tile_cells.specs.Passes.{Hears, HeardBelow}
use Rattle.tile_cells.proofs.close.end_reader.Given as goal

abbrev pub invariant-loop-pass : goal.invariant-loop-pass
invariant-loop-pass l =
    (goal.iterator-loop-pass).can_next l.pass-iterator ×
    (goal.iterator-loop-pass).is_finite l.pass-iterator ×
    (into_iter_items l.pass-iterator ≡ drop l.tile (into_iter_items l.initial.pass-iterator)) ×
    (l.tile + into_iter_len l.pass-iterator ≡ length l.cells) ×
    Hears l.fn.writers l.writers ×
    HeardBelow l.tile l.fn.reader.seen l.writers
