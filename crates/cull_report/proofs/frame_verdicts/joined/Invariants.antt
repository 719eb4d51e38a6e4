use Rattle.std.proofs.Common.{◌≡◌, ◌*◌, List, take}
use Rattle.cull_base.specs.declared.scene_types.Verdict.{Verdict}
use Rattle.cull_report.specs.Runs.{AreRunsOf}
use Rattle.cull_report.proofs.frame_verdicts.joined.Given as goal

abbrev pub invariant-loop-run : goal.invariant-loop-run
invariant-loop-run l = (all : List Verdict) → AreRunsOf all l._size l.runs → l.list.items ≡ take (l._size * l.run-index) all
