use Rattle.std.proofs.Common.{◌≡◌}
use Rattle.bin_tiles.specs.Bins.{IsBinAt, drawn_of}
use Rattle.bin_tiles.proofs.unbinned.draw_places.Given as goal

abbrev pub invariant-loop-index : goal.invariant-loop-index
invariant-loop-index g l =
    record {
      drawn : l.drawn ≡ drawn_of l.screen.list.now.list l.screen.cut.now l.index l.bin;
      stands : IsBinAt g.K.Keeper.stands l.screen.beside.now l.screen.list.now.list l.screen.cut.now l.index l.bin l.keeper;
    }
