use Rattle.std.proofs.Common.{◌≡◌, ℕ, ◌+◌, ◌*◌, ◌≤◌, length, arith, refl, ap, ◌∙◌}
use Rattle.std.proofs.lemmas.Result.{err_from_is_err_and}
use Rattle.frame_reports.proofs.FrameByFrame.{wrote_all, wrote_front, wrote_more, wrote_none}
use Rattle.frame_reports.proofs.Rounds.{part_within}
use Rattle.frame_reports.proofs.window.report_each_window.Goals as goal

pub report_window-requires-clause-within : goal.report_window-requires-clause-within
report_window-requires-clause-within g c κs within =
    let done = c.loop-done.done in let more = c.min-more.result in let workers = c.len-workers.result in
    let rounds = c.args.rounds in
    let same : workers ≡ length c.args.rooms.now.items = omega (arith, c.len-workers.ensures, c.args.rooms.now.ok.0) in
    let le : done + more ≤ rounds = omega (arith, c.min-more.ensures, c.loop-done-test.true) in
    omega (arith, part_within done more rounds workers le, ap (λ (n : ℕ). rounds * n) same, c.requires.within)

pub loop-done-init : goal.loop-done-init
loop-done-init g c =
    let drawing = c.args.drawing.now in
    record {
      wrote = wrote_none drawing.plan.now.lines drawing.plan.now.beside drawing.scene.now 0 _ (g.W.Sink.says c.args.report.now) (g.E.Sink.says c.args.notes.now) (omega arith);
      quiet = λ nothing. refl;
      places = c.requires.places;
      size = omega (arith, c.len-workers.ensures, c.args.rooms.now.ok.0);
      within = omega arith;
    }

pub loop-done-preserved : goal.loop-done-preserved
loop-done-preserved g c =
    let done = c.loop-done.done in let more = c.min-more.result in let workers = c.len-workers.result in
    let at : done * workers ≡ 0 + done * workers = omega arith in
    let next : (done + more) * workers ≡ done * workers + more * workers = omega arith in
    record {
      wrote = wrote_more tt at next c.loop-done.invariant.wrote c.in_ok-report_window.ensures.reported;
      quiet = λ nothing. c.report_window.ensures.quiet nothing ∙ c.loop-done.invariant.quiet nothing;
      places = c.in_ok-report_window.ensures.places;
      size = c.in_ok-report_window.ensures.workers ∙ c.loop-done.invariant.size;
      within = omega (arith, c.min-more.ensures, c.loop-done-test.true);
    }

pub returns-in_err-report_window-clause-reported : goal.returns-in_err-report_window-clause-reported
returns-in_err-report_window-clause-reported g c =
    let done = c.loop-done.done in let more = c.min-more.result in let workers = c.len-workers.result in
    let rounds = c.args.rounds in
    let p = err_from_is_err_and c.from_residual.result c.from_residual.ensures.1 in
    let same : workers ≡ length c.args.rooms.now.items = omega (arith, c.len-workers.ensures, c.args.rooms.now.ok.0) in
    let at : done * workers ≡ 0 + done * workers = omega arith in
    let le : done + more ≤ rounds = omega (arith, c.min-more.ensures, c.loop-done-test.true) in
    let within : done * workers + more * workers ≤ rounds * length c.args.rooms.now.items = omega (arith, part_within done more rounds workers le, ap (λ (n : ℕ). rounds * n) same) in
    rw (p.1, p.2) (wrote_front c.in_err-report_window.field-0.0 at within c.loop-done.invariant.wrote c.in_err-report_window.ensures.reported)

-- behind the last window
all_rounds : (done rounds workers size : ℕ) → done ≤ rounds → rounds ≤ done → workers ≡ size → done * workers ≡ rounds * size
all_rounds done rounds workers size most least same =
    let all : done ≡ rounds = omega arith in ap (λ (n : ℕ). n * workers) all ∙ ap (λ (n : ℕ). rounds * n) same

pub returns-clause-reported : goal.returns-clause-reported
returns-clause-reported g c =
    let same : c.len-workers.result ≡ length c.args.rooms.now.items = omega (arith, c.len-workers.ensures, c.args.rooms.now.ok.0) in
    wrote_all tt (all_rounds c.loop-done.done c.args.rounds c.len-workers.result (length c.args.rooms.now.items) c.loop-done.invariant.within (omega (arith, c.loop-done-test.false)) same) c.loop-done.invariant.wrote
