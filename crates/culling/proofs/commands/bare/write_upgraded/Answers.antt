use Rattle.std.proofs.Common.{ap, refl, subst, Err, Ok}
use Rattle.std.proofs.lemmas.Result.{err_from_is_err_and}
use Rattle.command_words.specs.declared.table.BareCommand.TheVariants.{Upgrade}
use Rattle.command_words.specs.declared.table.Command.TheVariants.{Bare}
use Rattle.cull_base.specs.Stream.{Writes}
use Rattle.scene_reader.specs.Layout.{Parts, layout, upgraded}
use Rattle.culling.proofs.Comings.{layout_some, read_failed, unwritten_comes, written_comes}
use Rattle.culling.proofs.commands.bare.write_upgraded.Goals as goal

pub returns-in_err-write_scene : goal.returns-in_err-write_scene
returns-in_err-write_scene g c =
    let s = c.in_ok-scene.scene in
    let e = c.in_err-write_scene.field-0.0 in
    let r0 = g.W.Sink.says c.args.report.now in let r1 = g.W.Sink.says c.write_scene.new.sink in
    let p = err_from_is_err_and c.from_residual-in_err-write_scene.result c.from_residual-in_err-write_scene.ensures.1 in
    let writes : Writes r0 r1 (Err e) (layout (upgraded s)) = subst (λ (q : Parts). Writes r0 r1 (Err e) (layout q)) c.upgrade-upgraded.ensures.value c.in_err-write_scene.ensures in
    rw (p.1, p.2)
    (record {
      outcome = unwritten_comes (Bare Upgrade) s (layout (upgraded s)) (g.S.Source.says c.args.input.now) (g.S.Source.says c.read_scene.new.source) r0 r1 (g.E.Sink.says c.args._notes.now) e _ _
          (refl, refl) (layout_some (upgraded s)) c.in_ok-scene.ensures.ok c.in_ok-scene.ensures.layout refl writes;
    })

pub returns : goal.returns
returns g c =
    let s = c.in_ok-scene.scene in
    let r0 = g.W.Sink.says c.args.report.now in let r1 = g.W.Sink.says c.write_scene.new.sink in
    let writes : Writes r0 r1 (Ok tt) (layout (upgraded s)) = subst (λ (q : Parts). Writes r0 r1 (Ok tt) (layout q)) c.upgrade-upgraded.ensures.value c.in_ok-write_scene.ensures in
    record {
      outcome = written_comes (Bare Upgrade) s (layout (upgraded s)) (g.S.Source.says c.args.input.now) (g.S.Source.says c.read_scene.new.source) r0 r1 (g.E.Sink.says c.args._notes.now) tt _ _
          (refl, refl) (layout_some (upgraded s)) c.in_ok-scene.ensures.ok c.in_ok-scene.ensures.layout refl writes;
    }

pub returns-in_err-scene : goal.returns-in_err-scene
returns-in_err-scene g c =
    let p = err_from_is_err_and c.from_residual.result c.from_residual.ensures.1 in
    record {
      outcome = read_failed (Bare Upgrade) (g.S.Source.says c.args.input.now) (g.S.Source.says c.read_scene.new.source) (g.W.Sink.says c.args.report.now) (g.E.Sink.says c.args._notes.now) c.in_err-scene.field-0.0 p.0 c.from_residual.result _ _
          p.1 p.2 refl c.in_err-scene.ensures.refused (λ is. c.in_err-scene.ensures.read (ap Err is)) refl refl;
    }
