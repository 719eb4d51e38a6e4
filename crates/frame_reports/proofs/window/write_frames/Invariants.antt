use Rattle.std.proofs.Common.{◌≡◌, []}
use Rattle.frame_reports.specs.declared.frames.Beside.TheVariants.{Nothing}
use Rattle.frame_reports.proofs.FrameByFrame.{Wrote}
use Rattle.frame_reports.proofs.window.write_frames.Given as goal

abbrev pub invariant-loop-k : goal.invariant-loop-k
invariant-loop-k g l = record {
  wrote : Wrote [] l.fn.drawing.plan.now.lines l.fn.drawing.plan.now.beside l.fn.drawing.scene.now l.fn.first l.k
      (g.W.Sink.says l.fn.report) (g.W.Sink.says l.report) (g.E.Sink.says l.fn.notes) (g.E.Sink.says l.notes);
  quiet : l.fn.drawing.plan.now.beside ≡ Nothing → l.notes ≡ l.fn.notes;
}
