use Rattle.std.proofs.Common.{◌≡◌, ℕ, List, [], sym, ap, ◌∙◌, subst, Ok, Err}
use Rattle.std.proofs.lemmas.Result.{err_from_is_err_and}
use Rattle.cull_base.specs.Stream.{Appends, Writes}
use Rattle.group_query.specs.Grouping.{groups_of}
use Rattle.frame_reports.specs.FrameRuns.{LeavesFrames}
use Rattle.frame_reports.specs.Frames.{AreSeen, groups_beside}
use Rattle.frame_reports.specs.NotedLines.{NotesLines}
use Rattle.frame_reports.specs.declared.frames.Beside.{Beside}
use Rattle.frame_reports.proofs.FrameByFrame.{frame_unwritten, frame_written, groups_noted, lines_are, looks_noted}
use Rattle.frame_reports.proofs.GroupLines.{line_is}
use Rattle.frame_reports.proofs.noting.write_and_note.Goals as goal

pub returns-in_err-write_lines-clause-reported : goal.returns-in_err-write_lines-clause-reported
returns-in_err-write_lines-clause-reported g c =
    let s = c.args.drawing.now.scene.now in let plan = c.args.drawing.now.plan.now in
    let drawn = c.args.drawn.now in
    let r0 = g.W.Sink.says c.args.report.now in let r1 = g.W.Sink.says c.write_lines.new.report in
    let e = c.in_err-write_lines.field-0.0 in
    let p = err_from_is_err_and c.from_residual.result c.from_residual.ensures.1 in
    let is = lines_are plan.lines s c.args.frame drawn.pieces drawn.verdicts c.requires.pieces c.requires.verdicts in
    rw (p.1, p.2) (frame_unwritten plan.lines plan.beside s c.args.frame e r0 r1 (g.E.Sink.says c.args.notes.now) (subst (λ (t : List ℕ). Writes r0 r1 (Err e) t) is c.in_err-write_lines.ensures))

pub returns-in-Nothing-clause-reported : goal.returns-in-Nothing-clause-reported
returns-in-Nothing-clause-reported g c =
    let s = c.args.drawing.now.scene.now in let plan = c.args.drawing.now.plan.now in
    let drawn = c.args.drawn.now in
    let r0 = g.W.Sink.says c.args.report.now in let r1 = g.W.Sink.says c.write_lines.new.report in let n = g.E.Sink.says c.args.notes.now in
    let is = lines_are plan.lines s c.args.frame drawn.pieces drawn.verdicts c.requires.pieces c.requires.verdicts in
    subst (λ (beside : Beside). LeavesFrames [] plan.lines beside s c.args.frame 1 (Ok tt) r0 r1 n n) (sym c.in-Nothing.is)
    (frame_written plan.lines s c.args.frame tt r0 r1 n (subst (Appends r0 r1) is c.in_ok-write_lines.ensures.ok) c.write_lines.ensures.faults_stay)

pub returns-in-Groups-clause-reported : goal.returns-in-Groups-clause-reported
returns-in-Groups-clause-reported g c =
    let drawing = c.args.drawing.now in
    let s = drawing.scene.now in let plan = drawing.plan.now in
    let drawn = c.args.drawn.now in
    let r0 = g.W.Sink.says c.args.report.now in let r1 = g.W.Sink.says c.write_lines.new.report in
    let n0 = g.E.Sink.says c.args.notes.now in let n1 = g.E.Sink.says c.note_groups.new.notes in
    let most = c.in-Groups.most in
    let is = lines_are plan.lines s c.args.frame drawn.pieces drawn.verdicts c.requires.pieces c.requires.verdicts in
    let groups : drawing.groups.now ≡ groups_of s most = drawing.are_groups ∙ ap (λ (beside : Beside). groups_beside beside s) c.in-Groups.is in
    let line = line_is s c.args.frame most drawn.hidden drawn.members drawing.groups.now groups c.requires.counted in
    subst (λ (beside : Beside). LeavesFrames [] plan.lines beside s c.args.frame 1 c.note_groups.result r0 r1 n0 n1) (sym c.in-Groups.is)
    (groups_noted plan.lines s most c.args.frame c.note_groups.result r0 r1 n0 n1 (subst (Appends r0 r1) is c.in_ok-write_lines.ensures.ok) c.write_lines.ensures.faults_stay
    (subst (NotesLines n0 n1 c.note_groups.result) line c.note_groups.ensures))

pub returns-in-Looks-clause-reported : goal.returns-in-Looks-clause-reported
returns-in-Looks-clause-reported g c =
    let s = c.args.drawing.now.scene.now in let plan = c.args.drawing.now.plan.now in
    let drawn = c.args.drawn.now in
    let r0 = g.W.Sink.says c.args.report.now in let r1 = g.W.Sink.says c.write_lines.new.report in
    let n0 = g.E.Sink.says c.args.notes.now in let n1 = g.E.Sink.says c.note_lines.new.notes in
    let is = lines_are plan.lines s c.args.frame drawn.pieces drawn.verdicts c.requires.pieces c.requires.verdicts in
    let looked = subst (λ (beside : Beside). AreSeen beside s c.args.frame c.args.lines.now) c.in-Looks.is c.requires.seen in
    subst (λ (beside : Beside). LeavesFrames [] plan.lines beside s c.args.frame 1 c.note_lines.result r0 r1 n0 n1) (sym c.in-Looks.is)
    (looks_noted plan.lines s c.in-Looks.rounds c.in-Looks.watch c.args.frame c.note_lines.result c.args.lines.now r0 r1 n0 n1 (subst (Appends r0 r1) is c.in_ok-write_lines.ensures.ok)
    c.write_lines.ensures.faults_stay looked c.note_lines.ensures)
