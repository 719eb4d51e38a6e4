use Rattle.std.proofs.Common.{◌≡◌, ◌+◌, length, arith, refl, sym, subst}
use Rattle.std.proofs.lemmas.List.{append-nil}
use Rattle.std.proofs.lemmas.Result.{err_from_is_err_and}
use Rattle.cull_base.specs.Stream.{Appends}
use Rattle.cull_report.specs.Scene.{scene_header}
use Rattle.frame_reports.proofs.FrameByFrame.{head_unwritten, wrote_head, wrote_then}
use Rattle.culling.proofs.commands.cull.report_scene.Goals as goal

pub returns-in_err-write_header-clause-reported : goal.returns-in_err-write_header-clause-reported
returns-in_err-write_header-clause-reported g c =
    let s = c.args.scene.now in let plan = c.args.plan.now in
    let p = err_from_is_err_and c.from_residual.result c.from_residual.ensures.1 in
    rw (p.1, p.2) (head_unwritten (scene_header s) plan.lines plan.beside s (length s.cameras) c.in_err-write_header.field-0.0 (g.W.Sink.says c.args.report.now)
    (g.W.Sink.says c.write_header.new.sink) (g.E.Sink.says c.args.notes.now) c.in_err-write_header.ensures)

pub returns-clause-reported : goal.returns-clause-reported
returns-clause-reported g c =
    let s = c.args.scene.now in let plan = c.args.plan.now in
    let r0 = g.W.Sink.says c.args.report.now in let r1 = g.W.Sink.says c.write_header.new.sink in
    let whole = subst (Appends r0 r1) (sym (append-nil (scene_header s))) c.in_ok-write_header.ensures.ok in
    let all : length s.cameras ≡ 0 + length s.cameras = omega arith in
    wrote_then c.report_frames.result refl all (wrote_head (scene_header s) plan.lines plan.beside s 0 r0 r1 (g.E.Sink.says c.args.notes.now) whole c.write_header.ensures.faults_stay) c.report_frames.ensures.reported
