use Rattle.std.proofs.Common.{arith, sym, ◌∙◌}
use Rattle.std.proofs.lemmas.List.{length-map}
use Rattle.cull_report.specs.Scene.{verdict_in}
use Rattle.cull_report.proofs.asked.AskedAnswering.count.Goals as goal

pub returns-clause-count : goal.returns-clause-count
returns-clause-count g c =
    let asked = c.args.self.now in
    c.object_count.ensures ∙ sym (length-map asked.scene.now.objects (verdict_in asked.scene.now asked.frame (g.V.TileView.tile_of asked.view.now)))

pub returns-clause-few : goal.returns-clause-few
returns-clause-few g c place = record { hidden = omega arith; members = omega arith }
