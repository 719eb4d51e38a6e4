use Rattle.std.proofs.Common.{◌+◌, ◌*◌, ◌/◌, ◌%◌, ◌<◌, ℕ, subst, sym}
use Rattle.cull_base.specs.Screen.{tile_count_of}
use Rattle.tile_queues.proofs.Slotting.{numbered}
use Rattle.tile_queues.proofs.tile_slots.tile_at_number.Goals as goal

pub returns-clause-within : goal.returns-clause-within
returns-clause-within c =
    let window = c.args.window in
    let n = c.args.number in
    let at = numbered c.args.size window n c.requires.window c.requires.number in
    subst (λ (z : ℕ × ℕ). (window.first_row + n / z.0) * z.1 + (window.first_column + n % z.0) < tile_count_of c.args.size) (λ i. (sym c.columns-columns.ensures i, sym c.tile_columns.ensures.value i)) at.within.on_screen
