use Rattle.std.proofs.Common.{ap, ◌∙◌}
use Rattle.cull_base.specs.Shape.{verdict_of}
use Rattle.masked_update.specs.Views.{state_in}
use Rattle.cull_report.specs.Scene.{size_of}
use Rattle.cull_report.proofs.asked.Asked.verdict_by.Goals as goal

pub form_verdict-requires-clause-holds : goal.form_verdict-requires-clause-holds
form_verdict-requires-clause-holds g c = λ t below met. c.args.self.now.holds t below

pub returns : goal.returns
returns g c o =
    let asked = c.args.self.now in
    let size = size_of asked.scene.now in
    c.form_verdict.ensures ∙ ap (verdict_of size (state_in size (g.V.TileView.tile_of asked.view.now))) (c.requires.own o)
