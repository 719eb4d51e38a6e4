use Rattle.std.proofs.Common.{ℕ, ◌≤◌, length, ap, refl, ◌∙◌, subst, Option, Some, None, Err}
use Rattle.std.specs.Prelude.{IfSome}
use Rattle.std.proofs.lemmas.Result.{err_from_is_err_and}
use Rattle.command_words.specs.declared.table.Command.TheVariants.{Cull}
use Rattle.cull_report.specs.Scene.{scene_header}
use Rattle.frame_reports.specs.FrameRuns.{LeavesFrames}
use Rattle.frame_reports.specs.declared.frames.Beside.{Beside}
use Rattle.frame_reports.specs.declared.frames.FrameLines.TheVariants.{Report}
use Rattle.culling.proofs.Comings.{cull_comes, read_failed}
use Rattle.culling.proofs.commands.cull.cull.Goals as goal

pub returns-in_err-scene : goal.returns-in_err-scene
returns-in_err-scene g c =
    let p = err_from_is_err_and c.from_residual.result c.from_residual.ensures.1 in
    record {
      outcome = read_failed (Cull c.args.words.now) (g.S.Source.says c.args.input.now) (g.S.Source.says c.read_scene.new.source) (g.W.Sink.says c.args.report.now) (g.E.Sink.says c.args.notes.now) c.in_err-scene.field-0.0 p.0 c.from_residual.result _ _
          p.1 p.2 refl c.in_err-scene.ensures.refused (λ is. c.in_err-scene.ensures.read (ap Err is)) refl refl;
    }

at_least_one : (group : Option ℕ) → IfSome group (λ n. (1 ≤ n) × (n ≤ 64)) → IfSome group (λ n. 1 ≤ n)
at_least_one None h = tt
at_least_one (Some n) h = h.0

pub beside_of-requires : goal.beside_of-requires
beside_of-requires g c = at_least_one c.args.words.now.group c.requires.limits.1

pub returns : goal.returns
returns g c =
    let s = c.in_ok-scene.scene in
    let r0 = g.W.Sink.says c.args.report.now in let r1 = g.W.Sink.says c.report_scene.new.report in
    let n0 = g.E.Sink.says c.args.notes.now in let n1 = g.E.Sink.says c.report_scene.new.notes in
    let reported = subst (λ (beside : Beside). LeavesFrames (scene_header s) Report beside s 0 (length s.cameras) c.report_scene.result r0 r1 n0 n1) c.beside_of.ensures.value c.report_scene.ensures.reported in
    record {
      outcome = cull_comes c.args.words.now s (g.S.Source.says c.args.input.now) (g.S.Source.says c.read_scene.new.source) r0 r1 n0 n1 c.report_scene.result _ _
          c.in_ok-scene.ensures.ok c.in_ok-scene.ensures.layout (λ nothing. c.report_scene.ensures.quiet (c.beside_of.ensures.value ∙ nothing)) reported;
    }
