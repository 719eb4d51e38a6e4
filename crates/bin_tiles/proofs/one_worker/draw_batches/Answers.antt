use Rattle.std.proofs.Common.{ℕ, List, sym, subst}
use Rattle.bin_tiles.specs.Bins.{HaveTaken}
use Rattle.bin_tiles.proofs.one_worker.draw_batches.Goals as goal

pub draw_in_rooms-requires-clause-taken : goal.draw_in_rooms-requires-clause-taken
draw_in_rooms-requires-clause-taken g c κs within = subst (λ (taken : List ℕ). HaveTaken c.args.screen.now.list.now.list c.args.screen.now.cut.now 0 taken) (sym c.as_mut_slice-taken.ensures.value) (c.in_ok-taken.ensures c.args.screen.now.list.now.list)
