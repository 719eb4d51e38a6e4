use Rattle.std.proofs.Common.{◌≡◌, ℕ, ◌*◌, [], arith, refl, ap}
use Rattle.std.proofs.lemmas.Result.{err_from_is_err_and}
use Rattle.frame_reports.proofs.FrameByFrame.{frames_no_memory, wrote_all, wrote_none}
use Rattle.frame_reports.proofs.WindowBeside.{unseen_if}
use Rattle.frame_reports.proofs.window.report_windows.Goals as goal

pub returns-then-rounds-eq0-clause-reported : goal.returns-then-rounds-eq0-clause-reported
returns-then-rounds-eq0-clause-reported g c =
    let drawing = c.args.drawing.now in let plan = drawing.plan.now in
    let workers = plan.settings.now.workers in
    let none : c.args.rounds * workers ≡ 0 = omega (arith, ap (λ (n : ℕ). n * workers) c.if-rounds-eq0.true) in
    wrote_all tt refl (wrote_none plan.lines plan.beside drawing.scene.now 0 (c.args.rounds * workers) (g.W.Sink.says c.args.report.now) (g.E.Sink.says c.args.notes.now) none)

pub returns-in_err-rooms-clause-reported : goal.returns-in_err-rooms-clause-reported
returns-in_err-rooms-clause-reported g c =
    let drawing = c.args.drawing.now in let plan = drawing.plan.now in
    let p = err_from_is_err_and c.from_residual.result c.from_residual.ensures.1 in
    rw (p.1, p.2) (frames_no_memory [] plan.lines plan.beside drawing.scene.now 0 (c.args.rounds * plan.settings.now.workers) (g.W.Sink.says c.args.report.now) (g.E.Sink.says c.args.notes.now))

pub returns-in_err-table-clause-reported : goal.returns-in_err-table-clause-reported
returns-in_err-table-clause-reported g c =
    let drawing = c.args.drawing.now in let plan = drawing.plan.now in
    let p = err_from_is_err_and c.from_residual-in_err-table.result c.from_residual-in_err-table.ensures.1 in
    rw (p.1, p.2) (frames_no_memory [] plan.lines plan.beside drawing.scene.now 0 (c.args.rounds * plan.settings.now.workers) (g.W.Sink.says c.args.report.now) (g.E.Sink.says c.args.notes.now))

pub report_each_window-requires-clause-unseen : goal.report_each_window-requires-clause-unseen
report_each_window-requires-clause-unseen g c κs within = unseen_if c.args.drawing.now.plan.now.beside c.args.rounds c.requires.unseen (λ is. omega (arith, is, c.if-rounds-eq0.false))
