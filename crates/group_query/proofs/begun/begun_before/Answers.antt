use Rattle.std.proofs.Common.{arith}
use Rattle.group_query.proofs.BegunGroups.{begun_exactly}
use Rattle.group_query.proofs.begun.begun_before.Goals as goal

pub loop-least-init : goal.loop-least-init
loop-least-init c = record {
  ordered = omega arith;
  within = omega arith;
  before = λ k d lt. absurd (omega (arith, lt));
  behind = λ k d from lt. absurd (omega (arith, from, lt));
}

pub returns : goal.returns
returns c = begun_exactly c.args.place c.args.groups.now c.loop-least.least c.loop-least.greatest c.loop-least.invariant c.loop-least-test.false
