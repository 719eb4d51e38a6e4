use Rattle.std.proofs.Common.{◌≡◌, ◌^◌, ◌<◌, ◌≤◌, length}
use Rattle.std.specs.Fmt.{decimal}
use Rattle.live_check.specs.Waiting.{Came, waiting}
use Rattle.live_check.proofs.words.take_number.Given as goal

abbrev pub invariant-loop-place : goal.invariant-loop-place
invariant-loop-place g l = record {
  came : Came (waiting l.fn.unread (g.S.Source.says l.fn.log).left) (waiting l.unread (g.S.Source.says l.log).left) (decimal l.number);
  some : 0 < l.number;
  small : l.number < 10 ^ l._place;
  digits : length (decimal l.number) ≡ l._place;
  within : l._place ≤ 6;
  faults : (g.S.Source.says l.fn.log).faults ≤ (g.S.Source.says l.log).faults;
}
