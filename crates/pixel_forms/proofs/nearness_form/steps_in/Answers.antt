use Rattle.std.proofs.Common.{arith}
use Rattle.std.proofs.lemmas.Nat.{shr_below}
use Rattle.pixel_forms.proofs.nearness_form.steps_in.Goals as goal

pub overflow_cast-result-2 : goal.overflow_cast-result-2
overflow_cast-result-2 c = let b = shr_below c.args.size 38 c.args.power c.requires.size in omega (arith, b)

pub returns-clause-small : goal.returns-clause-small
returns-clause-small c = let b = shr_below c.args.size 38 c.args.power c.requires.size in omega (arith, b)
