use Rattle.std.proofs.Common.{length, vec_items, rules, ap, sym, ◌∙◌, subst}
use Rattle.std.proofs.lemmas.List.{with_items_is}
use Rattle.bin_queues.specs.QueueParts.{batches_in}
use Rattle.steal_pool.specs.Binned.{AreBinned}
use Rattle.steal_pool.proofs.submitting.submit_all.Goals as goal

pub bin_all-requires : goal.bin_all-requires
bin_all-requires g c =
    let many = ap length c.as_mut_slice.ensures.value ∙ c.in_ok-slots.ensures in
    search (rules, many)

pub submit_slots-requires-clause-slots : goal.submit_slots-requires-clause-slots
submit_slots-requires-clause-slots g c =
    let is = with_items_is c.in_ok-slots.slots c.bin_all.new.slots (search rules) in
    let all = ap batches_in c.requires.frame in
    ap length is ∙ c.bin_all.ensures.many ∙ ap length c.as_mut_slice.ensures.value ∙ c.in_ok-slots.ensures ∙ sym all

pub submit_slots-requires-clause-binned : goal.submit_slots-requires-clause-binned
submit_slots-requires-clause-binned g c =
    let is = with_items_is c.in_ok-slots.slots c.bin_all.new.slots (search rules) in
    subst (λ xs. AreBinned vec_items c.args.frame.now xs) (sym is) c.bin_all.ensures.binned
