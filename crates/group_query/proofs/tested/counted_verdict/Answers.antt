use Rattle.std.proofs.Common.{◌≡◌, true, sym, ◌∙◌}
use Rattle.masked_update.specs.Views.{state_in}
use Rattle.cull_report.specs.Scene.{size_of}
use Rattle.cull_report.specs.Text.{is_occluded}
use Rattle.group_query.proofs.HiddenHulls.{tested_alone, tested_occluded}
use Rattle.group_query.proofs.tested.counted_verdict.Goals as goal

pub returns-then-is_occluded : goal.returns-then-is_occluded
returns-then-is_occluded g c o =
    let a = c.args.asked.now in let s = a.scene.now in
    let states = state_in (size_of s) (g.V.TileView.tile_of a.view.now) in
    let hidden : is_occluded c.args.tested.verdict ≡ true = sym c.is_occluded.ensures ∙ c.if-is_occluded.true in
    tested_occluded s a.frame states c.args._group c.args.tested c.args.object o c.args.rect c.args.q c.requires.tested hidden c.requires.behind c.requires.before c.requires.object c.requires.form

pub returns-then-tested-eq1 : goal.returns-then-tested-eq1
returns-then-tested-eq1 g c o =
    let a = c.args.asked.now in let s = a.scene.now in
    let states = state_in (size_of s) (g.V.TileView.tile_of a.view.now) in
    tested_alone s a.frame states c.args._group c.args.tested c.args.object o c.args.rect c.args.q c.requires.tested c.if-tested-eq1.true c.requires.behind c.requires.before c.requires.object c.requires.form
