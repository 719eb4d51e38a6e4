use Rattle.std.proofs.Common.{◌+◌, get_or, arith, refl, subst}
use Rattle.std.specs.Fork.{ChangesAt}
use Rattle.side_by_side.proofs.shares.for_each_beside.Goals as goal

pub returns-then-threads-eq0-clause-each : goal.returns-then-threads-eq0-clause-each
returns-then-threads-eq0-clause-each g c i d lt =
    (refl, subst (λ n. ChangesAt g.F.Fn c.args.f.now n (get_or c.args.s.now i d) (get_or c.in_turn.new.s i d)) {x = 0 + i} (omega arith) (c.in_turn.ensures.each i d lt))

pub returns-clause-each : goal.returns-clause-each
returns-clause-each g c i d lt =
    (refl, subst (λ n. ChangesAt g.F.Fn c.args.f.now n (get_or c.args.s.now i d) (get_or c.shares_from.new.s i d)) {x = 0 + i} (omega arith) (c.shares_from.ensures.each.each i d lt))
