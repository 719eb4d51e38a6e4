use Rattle.std.proofs.Common.{◌≡◌}
use Rattle.std.proofs.Math.Nat.{ℕ_set}
use Rattle.seats.specs.Seats.{seals_of}
use Rattle.sharing_tests.proofs.tests.waiting_tasks.counted_by.Given as goal

abbrev pub ghosts-count_under-P-Seating : goal.ghosts-count_under-P-Seating
ghosts-count_under-P-Seating g a = record { names = seals_of a.slots.items; holds = λ seat t. t.seat ≡ seat; is_fact = λ seat t. ℕ_set t.seat seat }

abbrev pub ghosts-count_under-P-Ledger : goal.ghosts-count_under-P-Ledger
ghosts-count_under-P-Ledger g a = record { name = a.blank.name; parts = a.blank.parts }
