use Rattle.seats.specs.Seats.{seals_of}
use Rattle.frame_reports.specs.Windows.{IsSlotOf}
use Rattle.frame_reports.proofs.SlotFacts.{slot_once}
use Rattle.frame_reports.proofs.frame_pool.make_window.Given as goal

abbrev pub ghosts-make_under-P-Seating : goal.ghosts-make_under-P-Seating
ghosts-make_under-P-Seating g a = record {
  names = seals_of a.slots.items;
  holds = IsSlotOf a.window.now.drawing.now.scene.now a.window.now.drawing.now.groups.now a.window.now.first;
  is_fact = slot_once a.window.now.drawing.now.scene.now a.window.now.drawing.now.groups.now a.window.now.first;
}

abbrev pub ghosts-make_under-P-Ledger : goal.ghosts-make_under-P-Ledger
ghosts-make_under-P-Ledger g a = record { name = a.blank.name; parts = a.blank.parts }
