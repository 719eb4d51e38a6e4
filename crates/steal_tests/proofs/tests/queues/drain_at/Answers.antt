use Rattle.bin_queues.specs.Frames.{over}
use Rattle.tile_queues.proofs.Keeping.{still_tasks}
use Rattle.steal_tests.proofs.tests.queues.drain_at.Goals as goal

pub returns : goal.returns
returns g c =
    let frame = over c.args.frame.now c.args.cells.now in
    still_tasks c.args.queues.now frame c.args.tasks.now.items c.args.place c.index_mut.result.now c.drain.new.task c.requires.place c.index_mut.ensures.value c.drain.ensures.on c.requires.tasks
