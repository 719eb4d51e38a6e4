use Rattle.std.proofs.Common.{refl}
use Rattle.bin_tasks.proofs.TasksOn.{told_in, was_told}
use Rattle.bin_tasks.proofs.drawing.Drawing.tell.Goals as goal

pub returns-clause-may : goal.returns-clause-may
returns-clause-may g c =
    told_in g.K.Keeper.stands c.args.self.now.beside.now c.args.self.now.queues.now _ c.args.task.now (record c.args.task.now { intake = c.tell.new.intake }) c.args.sender.now.batches c.requires.task c.tell.ensures.told refl

pub returns-clause-told : goal.returns-clause-told
returns-clause-told g c = was_told c.args.sender.now.batches c.args.task.now.intake c.tell.new.intake c.tell.ensures.told
