use Rattle.std.proofs.Common.{◌≡◌, length}
use Rattle.live_check.specs.Spans.{AreSpans}
use Rattle.live_check.proofs.frame.spans_of.Given as goal

abbrev pub invariant-loop-object : goal.invariant-loop-object
invariant-loop-object l = record {
  whole : length l.spans ≡ 8;
  spans : AreSpans l.scene l.frame l.object l.spans;
}
