use Rattle.std.proofs.Common.{◌≡◌, ℕ, ◌<◌, ◌≤◌, min, None, true, arith, sym, ap, ◌∙◌, subst}
use Rattle.cull_base.specs.Screen.{Dimensions, tile_count_of}
use Rattle.masked_update.specs.Views.{state_in}
use Rattle.cull_report.specs.Scene.{size_of}
use Rattle.group_query.specs.Hidden.{hull_verdict}
use Rattle.group_query.specs.Hulls.{AreFormsFrom, hull_from, hull_of, kept_hull, members_of, shapes_from}
use Rattle.group_query.proofs.FormHulls.{hull_in_two, told_of}
use Rattle.group_query.proofs.grouped.Grouped.tested.Goals as goal

pub grown_by-hull-requires-clause-few : goal.grown_by-hull-requires-clause-few
grown_by-hull-requires-clause-few g c =
    omega (arith, c.hull_keeping-front.ensures.few, c.min-kept.ensures, c.requires.group, c.object_count-objects.ensures)

pub test_of-requires : goal.test_of-requires
test_of-requires g c =
    let asked = c.args.self.now.asked.now in
    subst (λ (d : Dimensions). (t : ℕ) → t < tile_count_of d → g.V.TileView.held asked.view.now t ≡ true) (sym c.requires.size) asked.holds

pub returns-clause-tested : goal.returns-clause-tested
returns-clause-tested g c =
    let asked = c.args.self.now.asked.now in let s = asked.scene.now in
    let group = c.args.group in let kept = c.min-kept.result in
    let size = size_of s in
    let tile_of = g.V.TileView.tile_of asked.view.now in
    let le : kept ≤ group.count = omega (arith, c.min-kept.ensures) in
    let first = hull_from size None (shapes_from s asked.frame group.first kept) in
    let whole : c.grown_by-hull.result ≡ kept_hull size (hull_of s asked.frame group) =
    c.grown_by-hull.ensures first c.hull_keeping-front.ensures.hull ∙ ap (kept_hull size) (hull_in_two s asked.frame group.first kept group.count None le) in
    let hull : c.told.result ≡ hull_of s asked.frame group = c.told.ensures ∙ told_of s asked.frame group c.grown_by-hull.result whole in
    record {
      members = c.test_of.ensures.members ∙ ap members_of hull;
      verdict = c.test_of.ensures.verdict ∙ ap (λ (d : Dimensions). hull_verdict d (state_in d tile_of) c.told.result) c.requires.size ∙ ap (hull_verdict size (state_in size tile_of)) hull;
    }

pub returns-clause-kept : goal.returns-clause-kept
returns-clause-kept g c =
    let asked = c.args.self.now.asked.now in
    let kept : c.min-kept.result ≡ min c.args.group.count 64 = omega (arith, c.min-kept.ensures) in
    subst (λ (n : ℕ). AreFormsFrom asked.scene.now asked.frame c.args.group.first n c.hull_keeping-front.new.forms) kept c.hull_keeping-front.ensures.kept
