use Rattle.bin_queues.proofs.open_queues.open_bin.Given as goal

abbrev pub ghost-name : goal.ghost-name
ghost-name g a = g.of
