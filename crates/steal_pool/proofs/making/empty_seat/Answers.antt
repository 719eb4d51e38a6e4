use Rattle.std.proofs.Common.{arith, rules}
use Rattle.std.proofs.lemmas.Grind.{common_steps}
use Rattle.steal_pool.proofs.making.empty_seat.Goals as goal

pub returns : goal.returns
returns g c =
    let owner = c.in_ok-owner.ensures in
    record {
      owns = owner.0;
      fifo = owner.1;
      index = owner.2;
      slots = owner.3;
      empty = first_of (search rules, grind (arith, common_steps));
      none = first_of (search rules, grind (arith, common_steps));
      room = first_of (search rules, grind (arith, common_steps));
    }
