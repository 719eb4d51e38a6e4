use Rattle.std.proofs.Common.{◌≡◌, [], ◌-◌, length}
use Rattle.frame_reports.specs.declared.frames.Beside.TheVariants.{Nothing}
use Rattle.frame_reports.proofs.FrameByFrame.{Wrote}
use Rattle.frame_reports.proofs.frame_by_frame.report_rest.Given as goal

abbrev pub invariant-loop-frame : goal.invariant-loop-frame
invariant-loop-frame g l = record {
  wrote : Wrote [] l.fn.drawing.plan.now.lines l.fn.drawing.plan.now.beside l.fn.drawing.scene.now l.fn.first (l.frame - l.fn.first)
      (g.W.Sink.says l.fn.report) (g.W.Sink.says l.report) (g.E.Sink.says l.fn.notes) (g.E.Sink.says l.notes);
  quiet : l.fn.drawing.plan.now.beside ≡ Nothing → l.notes ≡ l.fn.notes;
  places : length l.clips ≡ length l.fn.drawing.scene.now.vertices;
}
