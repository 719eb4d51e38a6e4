use Rattle.std.proofs.Common.{arith}
use Rattle.std.proofs.lemmas.Bool.{lt-ltb, ltb-true}
use Rattle.std.proofs.lemmas.Bool.Decides.{nat_tests}
use Rattle.masked_update.proofs.Hiding.{none_below, one_below}
use Rattle.masked_update.proofs.sub_tile.is_hidden_by.Goals as goal

pub returns-then-samples-eq0 : goal.returns-then-samples-eq0
returns-then-samples-eq0 c = (λ _. none_below c.args.samples c.args.q c.args.depth c.if-samples-eq0.true, λ _. grind (arith, nat_tests))

pub returns-else-samples-eq0 : goal.returns-else-samples-eq0
returns-else-samples-eq0 c = (
  λ e k l h. ltb-true c.args.q c.args.depth e,
  λ all. lt-ltb c.args.q c.args.depth (one_below c.args.samples c.args.q c.args.depth (omega (arith, c.ranges.samples)) c.if-samples-eq0.false all),
)
