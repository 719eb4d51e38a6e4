use Rattle.seats.specs.Seats.{seals_of}
use Rattle.seats.specs.Things.{IsThing}
use Rattle.seats.proofs.Things.{thing_once}
use Rattle.seats.proofs.pool.make_each.Given as goal

abbrev pub ghosts-make_under-P-Seating : goal.ghosts-make_under-P-Seating
ghosts-make_under-P-Seating g a = record {
  names = seals_of a.slots.items;
  holds = IsThing (g.M.Makes.waits a.maker.now) (g.M.Makes.made a.maker.now);
  is_fact = thing_once (g.M.Makes.waits a.maker.now) (g.M.Makes.made a.maker.now) (g.M.Makes.waits_once a.maker.now) (g.M.Makes.made_once a.maker.now);
}

abbrev pub ghosts-make_under-P-Ledger : goal.ghosts-make_under-P-Ledger
ghosts-make_under-P-Ledger g a = record { name = a.blank.name; parts = a.blank.parts }
