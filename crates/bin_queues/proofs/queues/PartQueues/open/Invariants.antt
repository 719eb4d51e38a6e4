use Rattle.bin_queues.proofs.queues.PartQueues.open.Given as goal

abbrev pub ghost-open_all : goal.ghost-open_all
ghost-open_all g a = g.cells
