use Rattle.std.proofs.Common.{◌≡◌, ◌*◌, min, length}
use Rattle.bin_tiles.specs.Bins.{IsBinAt, drawn_of}
use Rattle.bin_tiles.proofs.unbinned.draw_unbinned.Given as goal

abbrev pub invariant-loop-batch : goal.invariant-loop-batch
invariant-loop-batch g l =
    record {
      from : l.from ≡ min (l.batch * l.size) (length l.screen.list.now.list.members);
      taken : l.taken ≡ drawn_of l.screen.list.now.list l.screen.cut.now l.from l.bin;
      stands : IsBinAt g.K.Keeper.stands l.screen.beside.now l.screen.list.now.list l.screen.cut.now l.from l.bin l.keeper;
    }
