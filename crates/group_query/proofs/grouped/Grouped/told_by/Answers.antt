use Rattle.std.proofs.Common.{◌≡◌, ℕ, ◌<◌, None, true, false, arith, refl, sym, ap, ◌∙◌, subst}
use Rattle.cull_base.specs.Screen.{Dimensions, tile_count_of}
use Rattle.masked_update.specs.Views.{state_in}
use Rattle.cull_report.specs.Scene.{size_of}
use Rattle.group_query.specs.Hidden.{hull_verdict, is_hidden_group}
use Rattle.group_query.specs.Hulls.{hull_from, hull_of, kept_hull, members_of, shapes_from}
use Rattle.group_query.proofs.FormHulls.{hull_in_two, told_of}
use Rattle.group_query.proofs.HiddenHulls.{alone_told}
use Rattle.group_query.proofs.grouped.Grouped.told_by.Goals as goal

pub returns-then-kept : goal.returns-then-kept
returns-then-kept g c =
    let a = c.args.self.now.asked.now in
    let states = state_in (size_of a.scene.now) (g.V.TileView.tile_of a.view.now) in
    let no : is_hidden_group a.scene.now a.frame states c.args.group ≡ false = c.requires.kept.shown c.if-kept.true in
    rw no refl

pub grown_by-hull-requires-clause-few : goal.grown_by-hull-requires-clause-few
grown_by-hull-requires-clause-few g c = omega (arith, c.requires.kept.few, c.requires.within, c.requires.group, c.object_count-objects.ensures)

pub returns-then-hull-eq1 : goal.returns-then-hull-eq1
returns-then-hull-eq1 g c =
    let asked = c.args.self.now.asked.now in let s = asked.scene.now in
    let group = c.args.group in let count = c.args.count in
    let size = size_of s in
    let first = hull_from size None (shapes_from s asked.frame group.first count) in
    let whole : c.grown_by-hull.result ≡ kept_hull size (hull_of s asked.frame group) =
    c.grown_by-hull.ensures first (c.requires.kept.hull c.if-kept.false) ∙ ap (kept_hull size) (hull_in_two s asked.frame group.first count group.count None c.requires.within) in
    alone_told s asked.frame (state_in size (g.V.TileView.tile_of asked.view.now)) group count c.args.kept c.grown_by-hull.result c.requires.within c.requires.kept c.if-kept.false c.if-kept-eq1.true whole c.if-hull-eq1.true

pub test_of-tested-requires : goal.test_of-tested-requires
test_of-tested-requires g c =
    let asked = c.args.self.now.asked.now in
    subst (λ (d : Dimensions). (t : ℕ) → t < tile_count_of d → g.V.TileView.held asked.view.now t ≡ true) (sym c.requires.size) asked.holds

pub tally_of-requires : goal.tally_of-requires
tally_of-requires g c =
    let asked = c.args.self.now.asked.now in let s = asked.scene.now in
    let group = c.args.group in let count = c.args.count in
    let size = size_of s in
    let tile_of = g.V.TileView.tile_of asked.view.now in
    let first = hull_from size None (shapes_from s asked.frame group.first count) in
    let whole : c.grown_by-hull.result ≡ kept_hull size (hull_of s asked.frame group) =
    c.grown_by-hull.ensures first (c.requires.kept.hull c.if-kept.false) ∙ ap (kept_hull size) (hull_in_two s asked.frame group.first count group.count None c.requires.within) in
    let hull : c.told.result ≡ hull_of s asked.frame group = c.told.ensures ∙ told_of s asked.frame group c.grown_by-hull.result whole in
    record {
      members = c.test_of-tested.ensures.members ∙ ap members_of hull;
      verdict = c.test_of-tested.ensures.verdict ∙ ap (λ (d : Dimensions). hull_verdict d (state_in d tile_of) c.told.result) c.requires.size ∙ ap (hull_verdict size (state_in size tile_of)) hull;
    }
