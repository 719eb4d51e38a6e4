use Rattle.tile_queues.proofs.frame.draw_frame.Given as goal

abbrev pub ghost-hand_back_all : goal.ghost-hand_back_all
ghost-hand_back_all g a = a.submitter.frame
