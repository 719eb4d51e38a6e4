use Rattle.std.proofs.Common.{length, arith, sym, ◌∙◌}
use Rattle.std.proofs.lemmas.List.{length-map}
use Rattle.masked_update.specs.Views.{state_in}
use Rattle.cull_report.specs.Scene.{size_of, verdict_in}
use Rattle.group_query.proofs.Totals.{told_few}
use Rattle.group_query.proofs.grouped.GroupedAnswering.count.Goals as goal

pub returns-clause-count : goal.returns-clause-count
returns-clause-count g c =
    let a = c.args.self.now.asked.now in
    c.object_count.ensures ∙ sym (length-map a.scene.now.objects (verdict_in a.scene.now a.frame (g.V.TileView.tile_of a.view.now)))

pub returns-clause-few : goal.returns-clause-few
returns-clause-few g c place =
    let a = c.args.self.now.asked.now in let s = a.scene.now in
    told_few s a.frame (state_in (size_of s) (g.V.TileView.tile_of a.view.now)) c.args.self.now.groups.now (length s.objects) place c.args.self.now.apart (omega (arith, c.object_count.ensures))
