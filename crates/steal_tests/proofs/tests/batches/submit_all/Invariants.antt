use Rattle.std.proofs.Common.{◌≡◌}
use Rattle.steal_tests.proofs.tests.batches.submit_all.Given as goal

abbrev pub invariant-loop : goal.invariant-loop
invariant-loop g l = l.submitter ≡ record l.initial.submitter { batches = l.counter }
