use Rattle.std.proofs.Common.{◌+◌, arith, refl, sym, subst, ◌∙◌}
use Rattle.std.specs.Prelude.{IfSome}
use Rattle.std.specs.declared.option.Option.{Option}
use Rattle.std.proofs.lemmas.Result.{err_from_is_err_and}
use Rattle.frame_reports.specs.declared.frames.Frame.{Frame}
use Rattle.frame_reports.specs.Windows.{IsDrawn}
use Rattle.frame_reports.proofs.FrameByFrame.{wrote_all, wrote_front, wrote_more, wrote_none}
use Rattle.frame_reports.proofs.window.write_frames.Goals as goal

pub loop-k-init : goal.loop-k-init
loop-k-init g c =
    let drawing = c.args.drawing.now in
    record {
      wrote = wrote_none drawing.plan.now.lines drawing.plan.now.beside drawing.scene.now c.args.first 0 (g.W.Sink.says c.args.report.now) (g.E.Sink.says c.args.notes.now) (omega arith);
      quiet = λ nothing. refl;
    }

pub write_drawn-requires-clause-drawn : goal.write_drawn-requires-clause-drawn
write_drawn-requires-clause-drawn g c =
    let drawing = c.args.drawing.now in
    let k = c.loop-k.k in
    let at = c.index-frames-k in
    subst (λ (x : Option Frame). IfSome x (IsDrawn drawing.scene.now drawing.groups.now (c.args.first + k))) (sym at.is) (c.requires.drawn k at.result (omega arith))

pub loop-k-preserved : goal.loop-k-preserved
loop-k-preserved g c = record {
  wrote = wrote_more tt (omega arith) (omega arith) c.loop-k.invariant.wrote c.in_ok-write_drawn.ensures.reported;
  quiet = λ nothing. c.write_drawn.ensures.quiet nothing ∙ c.loop-k.invariant.quiet nothing;
}

pub returns-in_err-write_drawn-clause-reported : goal.returns-in_err-write_drawn-clause-reported
returns-in_err-write_drawn-clause-reported g c =
    let p = err_from_is_err_and c.from_residual.result c.from_residual.ensures.1 in
    rw (p.1, p.2) (wrote_front c.in_err-write_drawn.field-0.0 (omega arith) (omega arith) c.loop-k.invariant.wrote c.in_err-write_drawn.ensures.reported)

pub returns-in_err-write_drawn-clause-quiet : goal.returns-in_err-write_drawn-clause-quiet
returns-in_err-write_drawn-clause-quiet g c nothing = c.write_drawn.ensures.quiet nothing ∙ c.loop-k.invariant.quiet nothing

pub returns-clause-reported : goal.returns-clause-reported
returns-clause-reported g c = wrote_all tt (omega arith) c.loop-k.invariant.wrote

pub returns-clause-quiet : goal.returns-clause-quiet
returns-clause-quiet g c nothing = c.loop-k.invariant.quiet nothing
