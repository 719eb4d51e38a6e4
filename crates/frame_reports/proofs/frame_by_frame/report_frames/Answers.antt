use Rattle.std.proofs.Common.{◌≡◌, [], ◌*◌, ◌-◌, ◌+◌, length, arith, ◌∙◌}
use Rattle.std.proofs.lemmas.Result.{err_from_is_err_and}
use Rattle.frame_reports.proofs.FrameByFrame.{front_of_frames, frames_no_memory, written, wrote_then}
use Rattle.frame_reports.proofs.frame_by_frame.report_frames.Goals as goal

pub returns-in_err-keep_freed_memory-clause-reported : goal.returns-in_err-keep_freed_memory-clause-reported
returns-in_err-keep_freed_memory-clause-reported g c =
    let s = c.args.scene.now in let plan = c.args.plan.now in
    let p = err_from_is_err_and c.from_residual.result c.from_residual.ensures.1 in
    rw (p.1, p.2) (frames_no_memory [] plan.lines plan.beside s 0 (length s.cameras) (g.W.Sink.says c.args.report.now) (g.E.Sink.says c.args.notes.now))

pub returns-in_err-table-clause-reported : goal.returns-in_err-table-clause-reported
returns-in_err-table-clause-reported g c =
    let s = c.args.scene.now in let plan = c.args.plan.now in
    let p = err_from_is_err_and c.from_residual-in_err-table.result c.from_residual-in_err-table.ensures.1 in
    rw (p.1, p.2) (frames_no_memory [] plan.lines plan.beside s 0 (length s.cameras) (g.W.Sink.says c.args.report.now) (g.E.Sink.says c.args.notes.now))

pub returns-in_err-groups-clause-reported : goal.returns-in_err-groups-clause-reported
returns-in_err-groups-clause-reported g c =
    let s = c.args.scene.now in let plan = c.args.plan.now in
    let p = err_from_is_err_and c.from_residual-in_err-groups.result c.from_residual-in_err-groups.ensures.1 in
    rw (p.1, p.2) (frames_no_memory [] plan.lines plan.beside s 0 (length s.cameras) (g.W.Sink.says c.args.report.now) (g.E.Sink.says c.args.notes.now))

pub invariant_of-drawing-clause-are_groups : goal.invariant_of-drawing-clause-are_groups
invariant_of-drawing-clause-are_groups g c = c.as_slice.ensures.value ∙ c.in_ok-groups.ensures

pub returns-in_err-report_windows-clause-reported : goal.returns-in_err-report_windows-clause-reported
returns-in_err-report_windows-clause-reported g c =
    let e = c.in_err-report_windows.field-0.0 in
    let p = err_from_is_err_and c.from_residual-in_err-report_windows.result c.from_residual-in_err-report_windows.ensures.1 in
    rw (p.1, p.2) (front_of_frames e c.round_count-rounds.ensures.within c.in_err-report_windows.ensures.reported)

pub returns-in_err-report_windows-clause-quiet : goal.returns-in_err-report_windows-clause-quiet
returns-in_err-report_windows-clause-quiet g c nothing = c.report_windows.ensures.quiet nothing

pub returns-clause-reported : goal.returns-clause-reported
returns-clause-reported g c =
    let s = c.args.scene.now in let plan = c.args.plan.now in let rounds = c.round_count-rounds.result in
    let windows = written tt c.in_ok-report_windows.ensures.reported in
    let split : length s.cameras ≡ rounds * plan.settings.now.workers + (length s.cameras - rounds * plan.settings.now.workers) = omega (arith, c.round_count-rounds.ensures.within) in
    let at : rounds * plan.settings.now.workers ≡ 0 + rounds * plan.settings.now.workers = omega arith in
    wrote_then c.report_rest.result at split windows c.report_rest.ensures.reported

pub returns-clause-quiet : goal.returns-clause-quiet
returns-clause-quiet g c nothing = c.report_rest.ensures.quiet nothing ∙ c.report_windows.ensures.quiet nothing
