use Rattle.std.proofs.Common.{◌≡◌, ℕ, ◌+◌, ◌<◌, None, length, arith, refl, ap, ◌∙◌, length-set}
use Rattle.cull_base.specs.declared.scene_types.Object.TheVariants.{Mesh}
use Rattle.cull_base.specs.Screen.{Dimensions}
use Rattle.cull_base.proofs.Lists.{set_each}
use Rattle.cull_report.specs.Scene.{size_of}
use Rattle.cull_report.specs.declared.form.Form.{Form}
use Rattle.group_query.specs.Hulls.{IsFormOf, grown_hull, hull_from, kept_hull, no_members, shapes_from}
use Rattle.group_query.specs.declared.hulls.Hull.{Hull}
use Rattle.group_query.proofs.FormHulls.{grown_hull_few, kept_more}
use Rattle.group_query.proofs.hulls.hull_keeping.Goals as goal

pub loop-k-init : goal.loop-k-init
loop-k-init c =
    let none = ap (λ (x : Hull). x.members) c.no_members-hull.ensures in
    record { hull_is = c.no_members-hull.ensures ∙ ap no_members c.requires.size; few = omega (arith, none); kept = λ k d lt. absurd (omega (arith, lt)); places = refl }

pub loop-k-preserved : goal.loop-k-preserved
loop-k-preserved c =
    let s = c.args.scene.now in let frame = c.args.frame in let first = c.args.first in
    let k = c.loop-k.k in
    let i = c.loop-k.invariant in
    let form = c.seen_form-form.result in
    let lt : first + k < length s.objects = omega (arith, c.loop-k-test.true, c.requires.within) in
    let place : k < length c.loop-k.forms = omega (arith, c.loop-k-test.true, c.requires.places, i.places) in
    let is : c.grown-hull.result ≡ grown_hull (size_of s) c.loop-k.hull form = c.grown-hull.ensures ∙ ap (λ (d : Dimensions). grown_hull d c.loop-k.hull form) c.requires.size in
    let few = ap (λ (x : Hull). x.members) is in
    record {
      hull_is = is ∙ kept_more s frame first k (Mesh 0 0) None c.loop-k.hull form lt i.hull_is c.seen_form-form.ensures;
      few = omega (arith, few, grown_hull_few (size_of s) c.loop-k.hull form, i.few);
      kept = λ j d below. set_each (λ (n : ℕ) (x : Form). IsFormOf s frame (first + n) x) c.loop-k.forms k form (k + 1) place (λ n e less ne. i.kept n e (omega (arith, less, ne))) c.seen_form-form.ensures j d below;
      places = length-set c.loop-k.forms k form ∙ i.places;
    }

pub returns-clause-hull : goal.returns-clause-hull
returns-clause-hull c =
    let s = c.args.scene.now in
    let whole : c.loop-k.k ≡ c.args.count = omega (arith, c.loop-k-test.false, c.loop-k.auto.k-end) in
    c.loop-k.invariant.hull_is ∙ ap (λ (n : ℕ). kept_hull (size_of s) (hull_from (size_of s) None (shapes_from s c.args.frame c.args.first n))) whole

pub returns-clause-few : goal.returns-clause-few
returns-clause-few c = omega (arith, c.loop-k.invariant.few, c.loop-k.auto.k-end)

pub returns-clause-kept : goal.returns-clause-kept
returns-clause-kept c k d lt = c.loop-k.invariant.kept k d (omega (arith, lt, c.loop-k-test.false))
