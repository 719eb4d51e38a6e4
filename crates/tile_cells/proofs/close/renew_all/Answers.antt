use Rattle.std.proofs.Common.{sym, ◌∙◌, rules}
use Rattle.tile_cells.proofs.Closing.{same_each}
use Rattle.tile_cells.proofs.close.renew_all.Goals as goal

pub returns-clause-same : goal.returns-clause-same
returns-clause-same g c =
    same_each c.args.writers.now c.for_each_share.new.s (search rules)
    (λ k d lt. let h = (c.for_each_share.ensures k d lt).1 in sym h.left ∙ h.call.0 ∙ h.argument_is)
