use Rattle.std.proofs.Common.{[], subst}
use Rattle.std.specs.Prelude.{IfSome}
use Rattle.std.specs.declared.option.Option.{Option}
use Rattle.frame_reports.specs.declared.frames.Frame.{Frame}
use Rattle.frame_reports.specs.Windows.{IsDrawn}
use Rattle.frame_reports.proofs.FrameByFrame.{frames_no_memory}
use Rattle.frame_reports.proofs.WindowBeside.{none_seen}
use Rattle.frame_reports.proofs.window.write_drawn.Goals as goal

pub write_and_note-requires : goal.write_and_note-requires
write_and_note-requires g c =
    let drawing = c.args.drawing.now in
    let whole = subst (λ (x : Option Frame). IfSome x (IsDrawn drawing.scene.now drawing.groups.now c.args.frame)) c.in-Some.is c.requires.drawn in
    record {
      pieces = whole.pieces;
      verdicts = whole.verdicts;
      counted = whole.counted;
      seen = none_seen drawing.plan.now.beside drawing.scene.now c.args.frame c.requires.unseen;
    }

pub returns-in-None-clause-reported : goal.returns-in-None-clause-reported
returns-in-None-clause-reported g c =
    let drawing = c.args.drawing.now in
    frames_no_memory [] drawing.plan.now.lines drawing.plan.now.beside drawing.scene.now c.args.frame 1 (g.W.Sink.says c.args.report.now) (g.E.Sink.says c.args.notes.now)
