use Rattle.std.proofs.Common.{◌+◌, ◌-◌, arith}
use Rattle.exact_clip.proofs.Nears.{raised}
use Rattle.exact_clip.proofs.near.near_of.Goals as goal

pub returns : goal.returns
returns c =
    let up = c.room_above-up.result in
    raised c.args.size c.shifted_up.result up (c.args.power + 149 - up) (c.args.power + 149) c.shifted_up.ensures (omega (arith, c.room_above-up.ensures.most))
