use Rattle.std.proofs.Common.{◌≡◌, ℕ, ◌<◌, ◌≤◌, length}
use Rattle.cull_report.specs.Live.{Counts, IsRisingIn, frames_live, watched}
use Rattle.cull_report.specs.Scene.{size_of}
use Rattle.live_check.specs.Waiting.{Came, waiting}
use Rattle.live_check.proofs.check.takes_frames.Given as goal

abbrev pub invariant-loop-number : goal.invariant-loop-number
invariant-loop-number g l =
    let s = l.plan.scene.now in
    record {
      places : length l.clips.items ≡ length s.vertices;
      size : l.tiles.size ≡ size_of s;
      came : (watch : ℕ) → l.plan.objects ≡ watched s watch → (counts : Counts) × ((f : ℕ) → f < l.number → IsRisingIn s l.plan.rounds watch f (counts f))
          × Came (waiting l.fn.unread (g.S.Source.says l.fn.log).left) (waiting l.unread (g.S.Source.says l.log).left) (frames_live s l.plan.rounds watch counts l.number);
      faults : (g.S.Source.says l.fn.log).faults ≤ (g.S.Source.says l.log).faults;
    }
