use Rattle.std.proofs.Common.{◌≡◌, ℕ, true, false, refl, sym, ap, ◌∙◌}
use Rattle.masked_update.specs.Views.{state_in}
use Rattle.cull_report.specs.Scene.{size_of}
use Rattle.cull_report.specs.Text.{is_occluded}
use Rattle.cull_report.specs.declared.tally.Tally.{Tally}
use Rattle.group_query.specs.Hidden.{is_hidden_group}
use Rattle.group_query.proofs.tested.tally_of.Goals as goal

one_group : ℕ → Tally
one_group members = record { hidden = 1; members = members }

pub returns-then-not-is_occluded : goal.returns-then-not-is_occluded
returns-then-not-is_occluded g c =
    let a = c.args.asked.now in
    let states = state_in (size_of a.scene.now) (g.V.TileView.tile_of a.view.now) in
    let no : is_hidden_group a.scene.now a.frame states c.args._group ≡ false = ap is_occluded (sym c.requires.verdict) ∙ sym c.is_occluded.ensures ∙ c.if-not-is_occluded.true in
    rw no refl

pub returns : goal.returns
unfolding one_group
returns g c =
    let a = c.args.asked.now in
    let states = state_in (size_of a.scene.now) (g.V.TileView.tile_of a.view.now) in
    let yes : is_hidden_group a.scene.now a.frame states c.args._group ≡ true = ap is_occluded (sym c.requires.verdict) ∙ sym c.is_occluded.ensures ∙ c.if-not-is_occluded.false in
    rw yes (ap one_group c.requires.members)
