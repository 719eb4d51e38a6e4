-- The lines of a frame's verdicts, as they are kept until they are written.
use Rattle.std.specs.Prelude.{◌≡◌, List}
use Rattle.cull_base.specs.declared.scene_types.Verdict.{Verdict}
use Rattle.cull_report.specs.Runs.{AreRunsOf}
use Rattle.cull_report.specs.Text.{verdict_lines}
use Rattle.cull_report.specs.declared.frame_verdicts.LinesOf.{LinesOf}
use Rattle.cull_report.specs.declared.frame_verdicts.LinesOf.TheVariants.{Unmade, Runs, Text}

-- where lines are made, they are those of these verdicts
abbrev pub AreLinesOf : List Verdict → LinesOf → Type 0
AreLinesOf verdicts Unmade = Unit {0}
AreLinesOf verdicts (Runs runs size) = AreRunsOf verdicts size runs.items
AreLinesOf verdicts (Text text ends) = text.items ≡ verdict_lines 0 verdicts
