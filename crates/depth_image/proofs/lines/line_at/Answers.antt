use Rattle.std.proofs.Common.{Bool, cond, ap, sym}
use Rattle.masked_update.proofs.MaskBits.{marked, unmarked}
use Rattle.depth_image.proofs.lines.line_at.Goals as goal

pub returns-then-mask-sample-eq1-clause-value : goal.returns-then-mask-sample-eq1-clause-value
returns-then-mask-sample-eq1-clause-value c =
    sym (ap (λ (b : Bool). cond b c.args.working.now c.args.reference.now) (marked c.args.mask c.args.sample c.requires.sample c.if-mask-sample-eq1.true))

pub returns-else-mask-sample-eq1-clause-value : goal.returns-else-mask-sample-eq1-clause-value
returns-else-mask-sample-eq1-clause-value c =
    sym (ap (λ (b : Bool). cond b c.args.working.now c.args.reference.now) (unmarked c.args.mask c.args.sample c.requires.sample c.if-mask-sample-eq1.false))
