use Rattle.std.proofs.Common.{ap, refl, Err}
use Rattle.std.proofs.lemmas.Result.{err_from_is_err_and}
use Rattle.command_words.specs.declared.table.Command.TheVariants.{Live}
use Rattle.culling.proofs.Comings.{live_comes, read_failed}
use Rattle.culling.proofs.commands.live.live.Goals as goal

pub returns : goal.returns
returns g c =
    record {
      outcome = live_comes c.args.words.now c.in_ok-scene.scene (g.S.Source.says c.args.input.now) (g.S.Source.says c.read_scene.new.source)
          (g.W.Sink.says c.args.report.now) (g.W.Sink.says c.report_scene.new.report) (g.E.Sink.says c.args.notes.now) (g.E.Sink.says c.report_scene.new.notes) c.report_scene.result _ _
          c.in_ok-scene.ensures.ok c.in_ok-scene.ensures.layout c.report_scene.ensures.reported;
    }

pub returns-in_err-scene : goal.returns-in_err-scene
returns-in_err-scene g c =
    let p = err_from_is_err_and c.from_residual.result c.from_residual.ensures.1 in
    record {
      outcome = read_failed (Live c.args.words.now) (g.S.Source.says c.args.input.now) (g.S.Source.says c.read_scene.new.source) (g.W.Sink.says c.args.report.now) (g.E.Sink.says c.args.notes.now) c.in_err-scene.field-0.0 p.0 c.from_residual.result _ _
          p.1 p.2 refl c.in_err-scene.ensures.refused (λ is. c.in_err-scene.ensures.read (ap Err is)) refl refl;
    }
