use Rattle.bin_queues.proofs.queue_steps.name.Given as goal

abbrev pub ghosts-named : goal.ghosts-named
ghosts-named g a = record { bin = g.of }
