use Rattle.std.proofs.Common.{◌≡◌, ℕ, ◌<◌, ◌≤◌, length, get_or}
use Rattle.bin_tiles.specs.Bins.{IsBinAt, drawn_of}
use Rattle.bin_tiles.proofs.one_worker.draw_parts.Given as goal

abbrev pub invariant-loop-bin : goal.invariant-loop-bin
invariant-loop-bin g l =
    record {
      count : length l.bins ≡ length l.initial.bins;
      drawn : (i : ℕ) (d : g.row.K.Denot) → i < l.bin → IsBinAt g.K.Keeper.stands l.screen.beside.now l.screen.list.now.list l.screen.cut.now l.to i (get_or l.bins i d);
      left : (i : ℕ) (d : g.row.K.Denot) → l.bin ≤ i → i < length l.bins → IsBinAt g.K.Keeper.stands l.screen.beside.now l.screen.list.now.list l.screen.cut.now l.fn.from i (get_or l.bins i d);
      taken_count : length l.taken ≡ length l.initial.taken;
      taken : (i : ℕ) → i < l.bin → get_or l.taken i 0 ≡ drawn_of l.screen.list.now.list l.screen.cut.now l.to i;
      untaken : (i : ℕ) → l.bin ≤ i → i < length l.taken → get_or l.taken i 0 ≡ drawn_of l.screen.list.now.list l.screen.cut.now l.fn.from i;
    }
