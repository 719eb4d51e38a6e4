use Rattle.tile_queues.proofs.queues.BinQueues.close.Given as goal

abbrev pub ghost-hand_back : goal.ghost-hand_back
ghost-hand_back a = a.submitter.frame
