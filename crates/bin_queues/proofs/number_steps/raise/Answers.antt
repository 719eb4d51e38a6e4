use Rattle.std.proofs.Common.{rules}
use Rattle.bin_queues.proofs.NumberKeeps.{raises_as}
use Rattle.bin_queues.proofs.number_steps.raise.Goals as goal

pub swap_as-requires : goal.swap_as-requires
swap_as-requires g c = (search rules, (search rules, (c.requires.own, raises_as _ _ _ c.requires.publishes c.requires.next)))
