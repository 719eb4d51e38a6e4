use Rattle.tile_queues.proofs.close_queues.hand_back_all.Given as goal

abbrev pub ghost-put_shares : goal.ghost-put_shares
ghost-put_shares g a = g.frame
