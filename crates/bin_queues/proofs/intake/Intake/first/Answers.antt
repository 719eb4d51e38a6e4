use Rattle.bin_queues.proofs.Intaking.{first_intake}
use Rattle.bin_queues.proofs.intake.Intake.first.Goals as goal

pub invariant_of-result : goal.invariant_of-result
invariant_of-result c = first_intake c.args.cut c.args.size c.args.bin c.args.pass c.args.number c.requires.takes.0 c.requires.takes.1 c.requires.listens c.requires.batched c.requires.real c.requires.cut c.requires.size c.requires.bin
