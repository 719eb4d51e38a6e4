use Rattle.std.proofs.Common.{◌≡◌, ◌*◌, min, length}
use Rattle.binning.specs.Rooms.{IsAround}
use Rattle.bin_tiles.specs.Bins.{AreRoomsOf, HaveTaken, AreBinsAt}
use Rattle.bin_tiles.proofs.one_worker.draw_in_rooms.Given as goal

abbrev pub invariant-loop-batch : goal.invariant-loop-batch
invariant-loop-batch g l =
    record {
      from : l.from ≡ min (l.batch * l.size) (length l.screen.list.now.list.members);
      rooms : AreRoomsOf l.screen.list.now.list.size l.screen.cut.now l.rooms;
      around : IsAround l.around l.rooms;
      taken : HaveTaken l.screen.list.now.list l.screen.cut.now l.from l.taken;
      bins : AreBinsAt g.K.Keeper.stands l.screen.beside.now l.screen.list.now.list l.screen.cut.now l.from l.bins;
    }
