use Rattle.std.proofs.Common.{◌≡◌, ℕ, ◌≤◌}
use Rattle.cull_report.specs.Live.{watched}
use Rattle.live_check.specs.Standing.{AreStanding, count_at}
use Rattle.live_check.specs.Waiting.{waiting}
use Rattle.live_check.proofs.Rounds.{FrameSoFar}
use Rattle.live_check.proofs.frame.takes_rounds.Given as goal

abbrev pub invariant-loop-round : goal.invariant-loop-round
invariant-loop-round g l =
    let s = l.frame.scene.now in let frame = l.frame.number in
    record {
      standing : AreStanding l.frame.list.now.list l.tiles;
      came : (watch : ℕ) → l.plan.objects ≡ watched s watch
          → FrameSoFar s watch frame l.round (count_at l.tiles) (waiting l.fn.unread (g.S.Source.says l.fn.log).left) (waiting l.unread (g.S.Source.says l.log).left);
      faults : (g.S.Source.says l.fn.log).faults ≤ (g.S.Source.says l.log).faults;
    }
