use Rattle.std.proofs.Common.{◌≡◌, ◌≤◌, length, vec_len, vec_capacity}
use Rattle.tile_cells.specs.Passes.{AreChecked, HearWithin}
use Rattle.tile_cells.proofs.close.check_all.Given as goal

abbrev pub invariant-loop-tile : goal.invariant-loop-tile
invariant-loop-tile g l =
    (l.writers.items ≡ l.fn.writers.items) × (vec_len l.writers ≡ vec_len l.fn.writers) × (vec_len l.room ≡ l.tile) × (length l.cells ≤ vec_capacity l.room)
    × AreChecked l.tile l.fn.writers.items l.room.items × HearWithin l.tile l.fn.writers.items
