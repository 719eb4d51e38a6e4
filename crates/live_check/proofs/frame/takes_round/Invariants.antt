use Rattle.std.proofs.Common.{◌≡◌, ℕ, ◌≤◌}
use Rattle.cull_report.specs.Live.{watched}
use Rattle.live_check.specs.Fitting.{AreLast, IsRisingTo}
use Rattle.live_check.specs.Standing.{AreStanding, count_at}
use Rattle.live_check.specs.Waiting.{waiting}
use Rattle.live_check.proofs.Rounds.{RoundSoFar}
use Rattle.live_check.proofs.frame.takes_round.Given as goal

abbrev pub invariant-loop-object : goal.invariant-loop-object
invariant-loop-object g l =
    let s = l.frame.scene.now in let frame = l.frame.number in
    record {
      standing : AreStanding l.frame.list.now.list l.tiles;
      came : (counts : ℕ → ℕ → ℕ → ℕ) (watch : ℕ) → l.objects ≡ watched s watch → IsRisingTo s watch frame counts l.round 0 → AreLast s watch frame counts l.round 0 (count_at l.fn.tiles)
          → RoundSoFar s watch frame counts l.round l.object (count_at l.tiles) (waiting l.fn.unread (g.S.Source.says l.fn.log).left) (waiting l.unread (g.S.Source.says l.log).left);
      faults : (g.S.Source.says l.fn.log).faults ≤ (g.S.Source.says l.log).faults;
    }
