use Rattle.std.proofs.Common.{◌-◌}
use Rattle.group_query.specs.Grouping.{AreBegunBetween}
use Rattle.group_query.proofs.begun.begun_before.Given as goal

abbrev pub invariant-loop-least : goal.invariant-loop-least
invariant-loop-least l = AreBegunBetween l.place l.groups l.least l.greatest

abbrev pub decreases-loop-least : goal.decreases-loop-least
decreases-loop-least l = l.greatest - l.least
