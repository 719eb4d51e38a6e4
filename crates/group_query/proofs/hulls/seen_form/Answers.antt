use Rattle.std.proofs.Common.{◌≡◌, true, false, refl, sym, ap, ◌∙◌}
use Rattle.cull_base.specs.Screen.{Dimensions}
use Rattle.cull_report.specs.Scene.{size_of}
use Rattle.group_query.specs.Hulls.{is_seen}
use Rattle.group_query.proofs.FormHulls.{unseen_outside}
use Rattle.group_query.proofs.hulls.seen_form.Goals as goal

pub returns-then-not-is_seen : goal.returns-then-not-is_seen
returns-then-not-is_seen c =
    let s = c.args.scene.now in
    let form = c.object_form-form.result in
    let unseen : is_seen (size_of s) form ≡ false = ap (λ (d : Dimensions). is_seen d form) (sym c.requires.size) ∙ sym c.is_seen.ensures ∙ c.if-not-is_seen.true in
    record { own = λ d. sym (unseen_outside s c.args.frame form unseen) ∙ c.object_form-form.ensures.shape d; triangles = tt; seen = refl }

pub returns : goal.returns
returns c =
    let s = c.args.scene.now in
    let form = c.object_form-form.result in
    let seen : is_seen (size_of s) form ≡ true = ap (λ (d : Dimensions). is_seen d form) (sym c.requires.size) ∙ sym c.is_seen.ensures ∙ c.if-not-is_seen.false in
    record { own = c.object_form-form.ensures.shape; triangles = c.object_form-form.ensures.triangles; seen = seen }
