use Rattle.std.proofs.Common.{[], arith, ap, ◌∙◌}
use Rattle.bin_queues.specs.Frames.{over}
use Rattle.bin_queues.specs.QueueParts.{BinOfFrame, batches_in}
use Rattle.plain_turns.proofs.PlainTasks.{whole_list}
use Rattle.plain_turns.proofs.finishing.drawn_on.Goals as goal

pub returns-clause-drawn : goal.returns-clause-drawn
returns-clause-drawn g c =
    let frame = over c.args.drawing.now.frame [] in
    let told = c.tell.ensures.told in
    let drained = c.drain.ensures.drained in
    let ours = ap batches_in c.tell.ensures.may.frame_is in
    let theirs = ap batches_in c.requires.frame in
    let all = drained.whole (let submitted = c.requires.all in let heard = told.told in omega (arith, ours, theirs, submitted, heard)) in
    whole_list c.args.drawing.now.queues.now frame c.args.task.intake.of.bin c.drain.new.task c.args.drawing.now.frame.some
    (ap (λ (b : BinOfFrame). b.bin) (drained.on.of ∙ told.of)) all c.drain.ensures.may
