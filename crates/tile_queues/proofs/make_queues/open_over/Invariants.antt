use Rattle.tile_queues.proofs.make_queues.open_over.Given as goal

abbrev pub ghost-open : goal.ghost-open
ghost-open g a = g.cells
