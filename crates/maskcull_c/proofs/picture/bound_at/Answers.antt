use Rattle.std.proofs.Common.{◌∙◌}
use Rattle.masked_update.proofs.MaskBits.{bound_marked, bound_unmarked}
use Rattle.maskcull_c.proofs.picture.bound_at.Goals as goal

pub returns-then-mask-sample-eq1 : goal.returns-then-mask-sample-eq1
returns-then-mask-sample-eq1 c = c.working.ensures.value ∙ bound_marked c.args.sub.now c.mask.result c.args.sample c.mask.ensures.value c.requires c.if-mask-sample-eq1.true

pub returns-else-mask-sample-eq1 : goal.returns-else-mask-sample-eq1
returns-else-mask-sample-eq1 c = c.reference.ensures.value ∙ bound_unmarked c.args.sub.now c.mask.result c.args.sample c.mask.ensures.value c.requires c.if-mask-sample-eq1.false
