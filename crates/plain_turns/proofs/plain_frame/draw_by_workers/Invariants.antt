use Rattle.std.proofs.Common.{[]}
use Rattle.plain_turns.proofs.plain_frame.draw_by_workers.Given as goal

abbrev pub ghost-open : goal.ghost-open
ghost-open g a = []
