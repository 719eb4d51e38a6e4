use Rattle.std.proofs.Common.{◌≡◌, [], ◌*◌, ◌-◌, ◌≤◌, length}
use Rattle.frame_reports.specs.Windows.{HavePlaces}
use Rattle.frame_reports.specs.declared.frames.Beside.TheVariants.{Nothing}
use Rattle.frame_reports.proofs.FrameByFrame.{Wrote}
use Rattle.frame_reports.proofs.window.report_each_window.Given as goal

abbrev pub invariant-loop-done : goal.invariant-loop-done
invariant-loop-done g l = record {
  wrote : Wrote [] l.drawing.plan.now.lines l.drawing.plan.now.beside l.drawing.scene.now 0 (l.done * l.workers)
      (g.W.Sink.says l.fn.report) (g.W.Sink.says l.report) (g.E.Sink.says l.fn.notes) (g.E.Sink.says l.notes);
  quiet : l.drawing.plan.now.beside ≡ Nothing → l.notes ≡ l.fn.notes;
  places : HavePlaces l.drawing.scene.now l.rooms.items;
  size : length l.rooms.items ≡ l.workers;
  within : l.done ≤ l.rounds;
}

abbrev pub decreases-loop-done : goal.decreases-loop-done
decreases-loop-done g l = l.rounds - l.done
