use Rattle.std.proofs.Common.{rules}
use Rattle.bin_queues.proofs.NumberKeeps.{begins}
use Rattle.bin_queues.proofs.number_steps.opened.Goals as goal

pub ruled-requires : goal.ruled-requires
ruled-requires c = (search rules, (search rules, begins))
