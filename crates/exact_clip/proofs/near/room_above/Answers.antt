use Rattle.std.proofs.Common.{arith}
use Rattle.exact_clip.proofs.Nears.{led}
use Rattle.exact_clip.proofs.near.room_above.Goals as goal

pub overflow_sub-result : goal.overflow_sub-result
overflow_sub-result c =
    let l = led c.args.size c.requires.positive c.requires.small in
    omega (arith, l.least)

pub returns : goal.returns
returns c =
    let l = led c.args.size c.requires.positive c.requires.small in
    record { least = l.least; most = l.most; above = l.above; below = l.below }
