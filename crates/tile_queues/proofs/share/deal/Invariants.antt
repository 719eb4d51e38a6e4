use Rattle.tile_queues.proofs.share.deal.Given as goal

abbrev pub ghost-deal_to : goal.ghost-deal_to
ghost-deal_to g a = g.cells
