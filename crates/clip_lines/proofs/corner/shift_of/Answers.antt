use Rattle.std.proofs.Common.{arith}
use Rattle.clip_lines.proofs.corner.shift_of.Goals as goal

pub returns-clause-no_more : goal.returns-clause-no_more
returns-clause-no_more c s two all = c.shift_below.ensures.no_more s two ((c.loop-v.invariant s).1 (λ k l d. all k d (omega (arith, l, c.loop-v.auto.v-index-end))))
