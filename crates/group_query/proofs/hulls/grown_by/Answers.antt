use Rattle.std.proofs.Common.{◌≡◌, ℕ, ◌+◌, ◌<◌, length, arith, ap, ◌∙◌}
use Rattle.cull_base.specs.declared.scene_types.Object.TheVariants.{Mesh}
use Rattle.cull_base.specs.Screen.{Dimensions}
use Rattle.cull_report.specs.Scene.{size_of}
use Rattle.group_query.specs.Hulls.{grown_hull, hull_from, kept_hull, shapes_from}
use Rattle.group_query.specs.declared.hulls.Hull.{Hull}
use Rattle.group_query.proofs.FormHulls.{grown_hull_few, kept_more}
use Rattle.group_query.proofs.hulls.grown_by.Goals as goal

pub loop-k-init : goal.loop-k-init
loop-k-init c = record { hull_is = λ h e. e; few = omega arith }

pub loop-k-preserved : goal.loop-k-preserved
loop-k-preserved c =
    let s = c.args.scene.now in let frame = c.args.frame in
    let k = c.loop-k.k in
    let form = c.seen_form-form.result in
    let lt : c.args.first + k < length s.objects = omega (arith, c.loop-k-test.true, c.requires.within) in
    let is : c.grown-hull.result ≡ grown_hull (size_of s) c.loop-k.hull form = c.grown-hull.ensures ∙ ap (λ (d : Dimensions). grown_hull d c.loop-k.hull form) c.requires.size in
    let few = ap (λ (x : Hull). x.members) is in
    record {
      hull_is = λ h e. is ∙ kept_more s frame c.args.first k (Mesh 0 0) h c.loop-k.hull form lt (c.loop-k.invariant.hull_is h e) c.seen_form-form.ensures;
      few = omega (arith, few, grown_hull_few (size_of s) c.loop-k.hull form, c.loop-k.invariant.few);
    }

pub returns : goal.returns
returns c h e =
    let s = c.args.scene.now in
    let whole : c.loop-k.k ≡ c.args.count = omega (arith, c.loop-k-test.false, c.loop-k.auto.k-end) in
    c.loop-k.invariant.hull_is h e ∙ ap (λ (n : ℕ). kept_hull (size_of s) (hull_from (size_of s) h (shapes_from s c.args.frame c.args.first n))) whole
