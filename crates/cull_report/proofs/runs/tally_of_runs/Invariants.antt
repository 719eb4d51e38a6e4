use Rattle.std.proofs.Common.{length}
use Rattle.cull_report.specs.Runs.{run_place}
use Rattle.cull_report.specs.Tallies.{Adds}
use Rattle.cull_report.proofs.runs.tally_of_runs.Given as goal

abbrev pub invariant-loop-run : goal.invariant-loop-run
invariant-loop-run g l =
    let told = g.A.Answering.told l.asked in
    Adds (told 0) (record { hidden = l.hidden; members = l.members }) (told (run_place (length (g.A.Answering.all l.asked)) l._size l.run-index))
