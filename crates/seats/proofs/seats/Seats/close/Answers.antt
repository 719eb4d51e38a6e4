use Rattle.std.proofs.Common.{◌≡◌, arith}
use Rattle.seats.specs.Seats.{gaps}
use Rattle.seats.proofs.Slots.{placed_seated}
use Rattle.seats.proofs.seats.Seats.close.Goals as goal

pub returns : goal.returns
returns g c =
    let slots = c.args.self.slots.items in
    let none : gaps slots ≡ 0 = omega (arith, c.args.self.counted, c.audit.ensures.whole (omega (arith, c.merge_all.ensures.parts, c.args.own.one, c.requires)), c.merge_all.ensures.none) in
    placed_seated g.P.Seating.holds g.P.Seating.names slots g.P.Seating.is_fact c.args.self.placed none
