use Rattle.std.proofs.Common.{[]}
use Rattle.std.proofs.Props.{props}
use Rattle.seats.specs.Seats.{seals_of}
use Rattle.bin_queues.specs.Frames.{over}
use Rattle.plain_turns.specs.Waiting.{IsWaitingTask}
use Rattle.plain_turns.proofs.turns.submit_and_take.Given as goal

abbrev pub ghosts-submit_and_take_under-P-Seating : goal.ghosts-submit_and_take_under-P-Seating
ghosts-submit_and_take_under-P-Seating g a = record {
  names = seals_of a.slots.items;
  holds = IsWaitingTask a.drawing.now.queues.now (over a.drawing.now.frame []);
  is_fact = λ seat task. hlevel props;
}

abbrev pub ghosts-submit_and_take_under-P-Ledger : goal.ghosts-submit_and_take_under-P-Ledger
ghosts-submit_and_take_under-P-Ledger g a = record { name = a.blank.name; parts = a.blank.parts }
