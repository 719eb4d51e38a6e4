use Rattle.std.proofs.Common.{rules}
use Rattle.bin_queues.proofs.NumberKeeps.{looks_as}
use Rattle.bin_queues.proofs.number_steps.look.Goals as goal

pub load_as-requires : goal.load_as-requires
load_as-requires g c = (search rules, (search rules, (c.requires.own, looks_as _ _ c.requires.listens)))
