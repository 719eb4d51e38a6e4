use Rattle.std.proofs.Common.{◌≡◌, ◌+◌, drop}
use Rattle.group_query.specs.Grouping.{boxes_at_front}
use Rattle.group_query.proofs.grouping.boxes_at_front.Given as goal

abbrev pub invariant-loop-place : goal.invariant-loop-place
invariant-loop-place l = boxes_at_front l.objects ≡ l.place + boxes_at_front (drop l.place l.objects)
