use Rattle.std.proofs.Common.{◌≡◌, ℕ, ◌≤◌, length, take, drop}
use Rattle.cull_base.specs.Stream.{Appends}
use Rattle.cull_base.proofs.sink.write_whole.Given as goal

abbrev pub invariant-loop-rest : goal.invariant-loop-rest
invariant-loop-rest g l =
    record {
      part : (n : ℕ) × (n ≤ length l.piece) × (l.rest ≡ drop n l.piece) × Appends (g.W.Sink.says l.fn.sink) (g.W.Sink.says l.sink) (take n l.piece);
      faults : (g.W.Sink.says l.fn.sink).faults ≤ (g.W.Sink.says l.sink).faults;
      refusals : (g.W.Sink.says l.fn.sink).refusals ≤ (g.W.Sink.says l.sink).refusals;
    }

abbrev pub decreases-loop-rest : goal.decreases-loop-rest
decreases-loop-rest g l = length l.rest
