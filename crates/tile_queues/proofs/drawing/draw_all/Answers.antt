use Rattle.std.proofs.Common.{◌≤◌, length, arith, ap, sym, subst, ◌∙◌}
use Rattle.bin_queues.specs.QueueParts.{batches_in}
use Rattle.bin_queues.specs.Tasks.{Submitting}
use Rattle.tile_queues.specs.Shares.{AreDrained, frame_over}
use Rattle.tile_queues.proofs.Changing.{all_drawn, all_may}
use Rattle.tile_queues.proofs.drawing.draw_all.Goals as goal

pub submit_and_drain-requires-clause-shares : goal.submit_and_drain-requires-clause-shares
submit_and_drain-requires-clause-shares g c κs within =
    let d = c.args.drawing.now in
    all_may d.queues.now (frame_over d) (length c.args.shares.now) c.args.shares.now c.requires.shares

pub returns-clause-drawn : goal.returns-clause-drawn
returns-clause-drawn g c =
    let d = c.args.drawing.now in
    let frame = frame_over d in
    let first = c.in_ok-submit_and_drain.ensures in
    let n = c.submit_and_drain.new.sender.batches in
    let submitted = ap (λ (s : Submitting). s.batches) first.submitted ∙ ap batches_in c.requires.frame in
    let all : batches_in frame ≤ n = omega (arith, submitted) in
    let drawn = all_drawn d.queues.now frame (length c.args.shares.now) n c.args.shares.now c.submit_and_drain.new.shares c.tell_all.new.shares c.drain_all.new.shares all c.requires.shares first.drained c.tell_all.ensures.told c.tell_all.ensures.may c.drain_all.ensures.drained c.drain_all.ensures.may in
    subst (λ n. AreDrained d.queues.now frame n c.drain_all.new.shares) (sym drawn.count) drawn
