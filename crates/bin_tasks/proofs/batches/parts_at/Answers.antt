use Rattle.std.proofs.Common.{◌≡◌, ◌<◌, ◌*◌, ◌+◌, min, length, arith}
use Rattle.binning.proofs.Laws.{batch_begins}
use Rattle.bin_tasks.proofs.batches.parts_at.Goals as goal

pub returns : goal.returns
returns g c =
    let size = c.args.frame.now.size in
    let batch = c.args.batch in
    let list = c.args.frame.now.list.now.list in
    let some : 0 < size = (let e = c.args.frame.now.some in omega (arith, e)) in
    let begins = batch_begins (length list.members) size batch some c.requires in
    let len = c.len-len.ensures in
    let from : c.min-from.result ≡ batch * size = (let a = c.min-from.ensures in let b = c.saturating_mul.ensures in omega (arith, a, b, begins, len.value, len.within, len.small)) in
    let to : c.min-to.result ≡ min ((batch + 1) * size) (length list.members) = (let a = c.min-to.ensures in let b = c.saturating_mul-2.ensures in omega (arith, a, b, len.value, len.within, len.small)) in
    c.in_ok-parts.ensures.defined size c.args.frame.now.some from to
