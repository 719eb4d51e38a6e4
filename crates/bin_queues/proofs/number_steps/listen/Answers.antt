use Rattle.std.proofs.Common.{rules}
use Rattle.bin_queues.proofs.NumberKeeps.{listens_as}
use Rattle.bin_queues.proofs.number_steps.listen.Goals as goal

pub split_pass-requires : goal.split_pass-requires
split_pass-requires c = (search rules, (search rules, (c.requires.own, listens_as _ _ c.requires.publishes)))
