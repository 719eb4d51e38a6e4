use Rattle.std.proofs.Common.{sym, ◌∙◌}
use Rattle.seats.proofs.Slots.{seated_gaps, seated_placed}
use Rattle.seats.proofs.seats.Seats.open.Goals as goal

pub invariant_of-result : goal.invariant_of-result
invariant_of-result g c = record {
  placed = seated_placed g.P.Seating.holds g.P.Seating.names c.args.slots.items c.requires.slots;
  counted = seated_gaps g.P.Seating.holds g.P.Seating.names c.args.slots.items c.requires.slots ∙ sym c.open-out.ensures.total;
}
