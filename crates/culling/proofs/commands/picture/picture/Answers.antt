use Rattle.std.proofs.Common.{◌≡◌, ◌<◌, length, arith, ap, refl, Err}
use Rattle.std.proofs.lemmas.Result.{err_from_is_err_and}
use Rattle.command_words.specs.declared.table.Command.TheVariants.{Picture}
use Rattle.culling.proofs.Comings.{missing_comes, picture_comes, read_failed}
use Rattle.culling.proofs.commands.picture.picture.Goals as goal

pub returns-in_err-scene : goal.returns-in_err-scene
returns-in_err-scene g c =
    let p = err_from_is_err_and c.from_residual.result c.from_residual.ensures.1 in
    record {
      outcome = read_failed (Picture c.args.words.now) (g.S.Source.says c.args.input.now) (g.S.Source.says c.read_scene.new.source) (g.W.Sink.says c.args.report.now) (g.E.Sink.says c.args._notes.now) c.in_err-scene.field-0.0 p.0 c.from_residual.result _ _
          p.1 p.2 refl c.in_err-scene.ensures.refused (λ is. c.in_err-scene.ensures.read (ap Err is)) refl refl;
    }

pub returns-then-frames-frame : goal.returns-then-frames-frame
returns-then-frames-frame g c =
    let s = c.in_ok-scene.scene in
    let all : length c.cameras-cameras.result.now ≡ length s.cameras = ap length c.cameras-cameras.ensures.value in
    record {
      outcome = missing_comes c.args.words.now (length c.cameras-cameras.result.now) s (g.S.Source.says c.args.input.now) (g.S.Source.says c.read_scene.new.source)
          (g.W.Sink.says c.args.report.now) (g.E.Sink.says c.args._notes.now) _ _ c.in_ok-scene.ensures.ok c.in_ok-scene.ensures.layout all c.if-frames-frame.true refl refl;
    }

pub show_frame-requires-clause-frame : goal.show_frame-requires-clause-frame
show_frame-requires-clause-frame g c = omega (arith, ap length c.cameras-cameras.ensures.value, c.if-frames-frame.false)

pub returns : goal.returns
returns g c =
    let s = c.in_ok-scene.scene in
    let n = g.E.Sink.says c.args._notes.now in
    let lt : c.args.words.now.frame < length s.cameras = omega (arith, ap length c.cameras-cameras.ensures.value, c.if-frames-frame.false) in
    record {
      outcome = picture_comes c.args.words.now s (g.S.Source.says c.args.input.now) (g.S.Source.says c.read_scene.new.source) (g.W.Sink.says c.args.report.now)
          (g.W.Sink.says c.show_frame.new.report) n c.show_frame.result _ _ c.in_ok-scene.ensures.ok c.in_ok-scene.ensures.layout lt refl (c.show_frame.ensures n);
    }
