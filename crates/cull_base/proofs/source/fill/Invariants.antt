use Rattle.std.proofs.Common.{◌≡◌, ◌+◌, ◌≤◌, ◌-◌, length, take}
use Rattle.cull_base.specs.Stream.{Takes}
use Rattle.cull_base.proofs.source.fill.Given as goal

abbrev pub invariant-loop-filled : goal.invariant-loop-filled
invariant-loop-filled g l =
    record {
      whole : length l.buffer ≡ length l.fn.buffer;
      within : l.filled ≤ length l.buffer;
      taken : Takes (g.S.Source.says l.fn.source).left (g.S.Source.says l.source).left (take l.filled l.buffer);
      faults : (g.S.Source.says l.fn.source).faults ≤ (g.S.Source.says l.source).faults;
      turns : (g.S.Source.says l.source).turns ≤ (g.S.Source.says l.fn.source).turns + l.filled;
    }

abbrev pub decreases-loop-filled : goal.decreases-loop-filled
decreases-loop-filled g l = length l.buffer - l.filled
