use Rattle.std.proofs.Common.{◌≡◌, ◌<◌, ◌*◌, ◌+◌, min, length, arith, ap, sym, ◌∙◌}
use Rattle.bin_queues.specs.QueueParts.{batches_in}
use Rattle.binning.proofs.Laws.{batch_begins}
use Rattle.binning.specs.Parts.{batch_count_of, parts_of}
use Rattle.steal_tests.proofs.tests.queues.submit_parts.Goals as goal

pub submit-requires-clause-parts : goal.submit-requires-clause-parts
submit-requires-clause-parts g c =
    let size = c.args.frame.now.size in
    let batch = c.batches-batch.result in
    let list = c.args.frame.now.list.now.list in
    let value = c.batches-batch.ensures.value in
    let some : 0 < size = (let e = c.args.frame.now.some in omega (arith, e)) in
    let all : batches_in c.args.submitter.now.frame ≡ batch_count_of (length list.members) size = ap batches_in c.requires.frame in
    let short : batch < batch_count_of (length list.members) size = (let e = c.requires.short in omega (arith, e, value, all)) in
    let begins = batch_begins (length list.members) size batch some short in
    let len = c.len-len.ensures in
    let from : c.min-from.result ≡ batch * size = (let a = c.min-from.ensures in let b = c.saturating_mul.ensures in omega (arith, a, b, begins, len.value, len.within, len.small)) in
    let to : c.min-to.result ≡ min ((batch + 1) * size) (length list.members) = (let a = c.min-to.ensures in let b = c.saturating_mul-2.ensures in omega (arith, a, b, len.value, len.within, len.small)) in
    c.in_ok-parts.ensures.defined size c.args.frame.now.some from to ∙ (λ k. let f = sym c.requires.frame k in parts_of f.list f.cut f.size (value k))
