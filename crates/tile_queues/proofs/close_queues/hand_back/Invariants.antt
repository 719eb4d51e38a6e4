use Rattle.tile_queues.proofs.close_queues.hand_back.Given as goal

abbrev pub ghost-put_tasks : goal.ghost-put_tasks
ghost-put_tasks g a = g.frame
