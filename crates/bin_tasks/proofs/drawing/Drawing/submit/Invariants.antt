use Rattle.std.proofs.Common.{◌≡◌, ◌+◌}
use Rattle.bin_tasks.proofs.drawing.Drawing.submit.Given as goal

abbrev pub invariant-loop : goal.invariant-loop
invariant-loop g l = l.sender ≡ record l.initial.sender { batches = l.initial.sender.batches + l.counter }
