-- Tasks that are told of batches.
use Rattle.std.specs.Prelude.{◌≡◌, ℕ, max}
use Rattle.bin_queues.specs.Tasks.{Tasking}

-- the task was told that so many batches were submitted, and all else stayed
abbrev pub IsToldMore : ℕ → Tasking → Tasking → Type 0
IsToldMore batches old new = new ≡ record old { told = max old.told batches }
