use Rattle.std.proofs.Common.{◌≡◌, [], ◌+◌, ◌-◌, ◌≤◌, length, arith, rules, refl, ap, ◌∙◌}
use Rattle.std.proofs.lemmas.Result.{err_from_is_err_and}
use Rattle.frame_reports.specs.declared.failure.Failure.TheVariants.{Memory}
use Rattle.frame_reports.proofs.FrameByFrame.{frames_no_memory, wrote_all, wrote_front, wrote_more, wrote_none}
use Rattle.frame_reports.proofs.frame_by_frame.report_rest.Goals as goal

pub returns-in_err-room-clause-reported : goal.returns-in_err-room-clause-reported
returns-in_err-room-clause-reported g c =
    let s = c.args.drawing.now.scene.now in let plan = c.args.drawing.now.plan.now in
    let p = err_from_is_err_and c.from_residual.result c.from_residual.ensures.1 in
    let is : c.in_err-room.field-0.0 ≡ Memory = search rules in
    rw (p.1, p.2, is) (frames_no_memory [] plan.lines plan.beside s c.args.first (length s.cameras - c.args.first) (g.W.Sink.says c.args.report.now) (g.E.Sink.says c.args.notes.now))

pub loop-frame-init : goal.loop-frame-init
loop-frame-init g c =
    let plan = c.args.drawing.now.plan.now in
    record {
      wrote = wrote_none plan.lines plan.beside c.args.drawing.now.scene.now c.args.first _ (g.W.Sink.says c.args.report.now) (g.E.Sink.says c.args.notes.now) (omega arith);
      quiet = λ nothing. refl;
      places = search rules;
    }

pub loop-frame-preserved : goal.loop-frame-preserved
loop-frame-preserved g c = record {
  wrote = wrote_more tt (omega arith) (omega arith) c.loop-frame.invariant.wrote c.in_ok-report_frame.ensures.reported;
  quiet = λ nothing. c.report_frame.ensures.quiet nothing ∙ c.loop-frame.invariant.quiet nothing;
  places = search rules;
}

pub returns-in_err-report_frame-clause-reported : goal.returns-in_err-report_frame-clause-reported
returns-in_err-report_frame-clause-reported g c =
    let s = c.args.drawing.now.scene.now in let first = c.args.first in let frame = c.loop-frame.frame in
    let e = c.in_err-report_frame.field-0.0 in
    let p = err_from_is_err_and c.from_residual-in_err-report_frame.result c.from_residual-in_err-report_frame.ensures.1 in
    let n : length c.cameras.result.now ≡ length s.cameras = ap length c.cameras.ensures.value in
    let within : (frame - first) + 1 ≤ length s.cameras - first = omega (arith, n, c.loop-frame-test.true) in
    rw (p.1, p.2) (wrote_front e (omega arith) within c.loop-frame.invariant.wrote c.in_err-report_frame.ensures.reported)

pub returns-in_err-report_frame-clause-quiet : goal.returns-in_err-report_frame-clause-quiet
returns-in_err-report_frame-clause-quiet g c nothing = c.report_frame.ensures.quiet nothing ∙ c.loop-frame.invariant.quiet nothing

pub returns-clause-reported : goal.returns-clause-reported
returns-clause-reported g c =
    let s = c.args.drawing.now.scene.now in let first = c.args.first in let frame = c.loop-frame.frame in
    let n : length c.cameras.result.now ≡ length s.cameras = ap length c.cameras.ensures.value in
    let whole : frame - first ≡ length s.cameras - first = omega (arith, n, c.requires, c.loop-frame-test.false, c.loop-frame.auto.frame-end) in
    wrote_all tt whole c.loop-frame.invariant.wrote

pub returns-clause-quiet : goal.returns-clause-quiet
returns-clause-quiet g c nothing = c.loop-frame.invariant.quiet nothing
