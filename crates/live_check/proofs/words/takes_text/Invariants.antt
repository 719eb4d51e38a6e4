use Rattle.std.proofs.Common.{◌≤◌, take}
use Rattle.live_check.specs.Waiting.{Came, waiting}
use Rattle.live_check.proofs.words.takes_text.Given as goal

abbrev pub invariant-loop-place : goal.invariant-loop-place
invariant-loop-place g l = record {
  came : Came (waiting l.fn.unread (g.S.Source.says l.fn.log).left) (waiting l.unread (g.S.Source.says l.log).left) (take l.place l.text);
  faults : (g.S.Source.says l.fn.log).faults ≤ (g.S.Source.says l.log).faults;
}
