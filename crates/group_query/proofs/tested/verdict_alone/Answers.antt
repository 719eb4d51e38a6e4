use Rattle.std.proofs.Common.{ap, subst}
use Rattle.cull_base.specs.Shape.{verdict_of}
use Rattle.masked_update.specs.Views.{state_in}
use Rattle.cull_report.specs.Scene.{size_of}
use Rattle.group_query.specs.Hulls.{IsFormOf}
use Rattle.group_query.proofs.tested.verdict_alone.Goals as goal

pub returns-in-Outside : goal.returns-in-Outside
returns-in-Outside g c o =
    let a = c.args.asked.now in let s = a.scene.now in
    let form = subst (IsFormOf s a.frame c.args.object) c.in-Outside.is c.requires.form in
    ap (verdict_of (size_of s) (state_in (size_of s) (g.V.TileView.tile_of a.view.now))) (form.own o)

pub returns-in-Visible : goal.returns-in-Visible
returns-in-Visible g c o =
    let a = c.args.asked.now in let s = a.scene.now in
    let form = subst (IsFormOf s a.frame c.args.object) c.in-Visible.is c.requires.form in
    ap (verdict_of (size_of s) (state_in (size_of s) (g.V.TileView.tile_of a.view.now))) (form.own o)

pub flat_verdict-requires-clause-form : goal.flat_verdict-requires-clause-form
flat_verdict-requires-clause-form g c =
    let a = c.args.asked.now in
    subst (IsFormOf a.scene.now a.frame c.args.object) c.in-Flat.is c.requires.form
