use Rattle.std.proofs.Common.{◌≡◌, true, sym, subst}
use Rattle.cull_base.specs.Rectangle.{meets}
use Rattle.binning.proofs.Filling.{meets_first, meets_second}
use Rattle.binning.proofs.around.around_both.Goals as goal

pub returns-else-b-clause-first : goal.returns-else-b-clause-first
returns-else-b-clause-first c = λ box h. subst (λ r. meets box r ≡ true) (sym c.least_with.ensures) (meets_first box c.args.a.now c.args.b.now h)

pub returns-else-b-clause-second : goal.returns-else-b-clause-second
returns-else-b-clause-second c = λ box h. subst (λ r. meets box r ≡ true) (sym c.least_with.ensures) (meets_second box c.args.a.now c.args.b.now h)
