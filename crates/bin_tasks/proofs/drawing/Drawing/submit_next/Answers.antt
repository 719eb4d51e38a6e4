use Rattle.std.proofs.Common.{◌≡◌, ◌<◌, length, arith, rules, ap, sym, ◌∙◌}
use Rattle.bin_queues.specs.QueueParts.{batches_in}
use Rattle.binning.specs.Parts.{batch_count_of, parts_of}
use Rattle.bin_tasks.proofs.drawing.Drawing.submit_next.Goals as goal

pub parts_at-requires : goal.parts_at-requires
parts_at-requires g c =
    let frame = c.args.self.now.frame in
    let all : batches_in c.args.sender.now.frame ≡ batch_count_of (length frame.list.now.list.members) frame.size = ap batches_in c.requires.frame in
    let short = c.requires.short in
    let value = c.batches-batch.ensures.value in
    let within : c.batches-batch.result < batch_count_of (length frame.list.now.list.members) frame.size = omega (arith, short, value, all) in
    search (rules, within)

pub send-requires-clause-parts : goal.send-requires-clause-parts
send-requires-clause-parts g c =
    let value = c.batches-batch.ensures.value in
    c.in_ok-parts.ensures ∙ (λ k. let f = sym c.requires.frame k in parts_of f.list f.cut f.size (value k))
