use Rattle.std.proofs.Common.{◌≡◌, ◌++◌, drop}
use Rattle.group_query.specs.Grouping.{groups_from}
use Rattle.group_query.proofs.grouping.groups_among.Given as goal

abbrev pub invariant-loop-place : goal.invariant-loop-place
invariant-loop-place l = l.groups.items ++ groups_from l.most l.place l.left (drop l.place l.objects) ≡ groups_from l.most 0 0 l.objects
