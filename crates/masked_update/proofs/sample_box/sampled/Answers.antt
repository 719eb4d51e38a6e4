use Rattle.std.proofs.Common.{◌≡◌, ◌∙◌, ◌≤ℤ◌, refl, subst, sym}
use Rattle.cull_base.specs.Sampled.{samples_between}
use Rattle.cull_base.specs.declared.rect.Rect.{Rect}
use Rattle.masked_update.specs.Samples.{HoldsCovered}
use Rattle.masked_update.proofs.SampleBoxes.{holds_covered, samples_ordered}
use Rattle.masked_update.proofs.sample_box.sampled.Goals as goal

pub returns-clause-holds : goal.returns-clause-holds
returns-clause-holds c =
    let t = c.args.tri.now in
    let is : c.samples_between.result ≡ samples_between t.xs t.ys = c.samples_between.ensures ∙ (λ i. samples_between (c.x.ensures.value i) (c.y.ensures.value i)) in
    subst (HoldsCovered t) (sym is) (holds_covered t (samples_between t.xs t.ys) c.x.ensures.valid refl refl refl refl)

pub returns-clause-across : goal.returns-clause-across
returns-clause-across c =
    let t = c.args.tri.now in
    let is : c.samples_between.result ≡ samples_between t.xs t.ys = c.samples_between.ensures ∙ (λ i. samples_between (c.x.ensures.value i) (c.y.ensures.value i)) in
    subst (λ (r : Rect). r.x0 ≤ℤ r.x1) (sym is) (samples_ordered t.xs _ _ c.x.ensures.valid.three_x refl refl)

pub returns-clause-down : goal.returns-clause-down
returns-clause-down c =
    let t = c.args.tri.now in
    let is : c.samples_between.result ≡ samples_between t.xs t.ys = c.samples_between.ensures ∙ (λ i. samples_between (c.x.ensures.value i) (c.y.ensures.value i)) in
    subst (λ (r : Rect). r.y0 ≤ℤ r.y1) (sym is) (samples_ordered t.ys _ _ c.x.ensures.valid.three_y refl refl)
