use Rattle.bin_tiles.proofs.PlacesInTurn.{StandsWalked}
use Rattle.bin_tiles.proofs.part.draw_part.Given as goal

abbrev pub invariant-loop-index : goal.invariant-loop-index
invariant-loop-index g l = StandsWalked g.K.Keeper.stands l.screen.beside.now l.screen.list.now.list l.screen.cut.now l.fn.bin l._to l.indices l.index-index l.drawn l.keeper
