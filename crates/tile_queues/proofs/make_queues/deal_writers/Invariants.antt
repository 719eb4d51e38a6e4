use Rattle.tile_queues.proofs.make_queues.deal_writers.Given as goal

abbrev pub ghost-deal : goal.ghost-deal
ghost-deal g a = g.cells
