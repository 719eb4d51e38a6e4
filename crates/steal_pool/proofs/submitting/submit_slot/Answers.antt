use Rattle.std.proofs.Common.{sym, ◌∙◌}
use Rattle.binning.specs.Parts.{parts_of}
use Rattle.steal_pool.proofs.submitting.submit_slot.Goals as goal

pub submit-requires-clause-parts : goal.submit-requires-clause-parts
submit-requires-clause-parts g c =
    let has = rw c.in-Some.is at c.requires.binned in
    has ∙ (λ k. let f = sym c.requires.frame k in parts_of f.list f.cut f.size c.args.submitter.now.batches)
