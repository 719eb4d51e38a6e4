use Rattle.bin_tasks.proofs.TasksOn.{drained_on, has_drained}
use Rattle.bin_tasks.proofs.drawing.Drawing.drain.Goals as goal

pub returns-in-Some-turn-clause-drained : goal.returns-in-Some-turn-clause-drained
returns-in-Some-turn-clause-drained g c =
    let mid = c.loop.task.intake in
    let new = c.turn.new.task.intake in
    drained_on c.args.task.now.intake mid new c.loop.invariant.on (has_drained c.in-Some-turn.drained mid new c.turn.ensures.on c.in-Some-turn.ensures.answer)
