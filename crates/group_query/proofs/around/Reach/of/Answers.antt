use Rattle.std.proofs.Common.{◌≡◌, FitsSigned, w64, rules, List, ℤ, ap, ◌∙◌}
use Rattle.std.proofs.lemmas.Int.{to_z-of_z}
use Rattle.cull_base.specs.declared.clip.ClipVertex.{ClipVertex}
use Rattle.camera_path.specs.Clip.{clip_of}
use Rattle.group_query.proofs.BoxesAround.{in_reach}
use Rattle.group_query.proofs.around.Reach.of.Goals as goal

pub returns : goal.returns
returns c v inside =
    let camera = c.args.camera.now.0 in
    let x0 : FitsSigned w64 c.clip.result.x = search rules in let x1 : FitsSigned w64 c.clip-2.result.x = search rules in
    let y0 : FitsSigned w64 c.clip-3.result.y = search rules in let y1 : FitsSigned w64 c.clip-4.result.y = search rules in
    let w0 : FitsSigned w64 c.clip-5.result.w = search rules in let w1 : FitsSigned w64 c.clip-6.result.w = search rules in
    let at : (r : ClipVertex) (p q : List ℤ) → r ≡ clip_of camera p → p ≡ q → r ≡ clip_of camera q = λ r p q e f. e ∙ ap (clip_of camera) f in
    simp to_z-of_z (in_reach camera c.args.around.now.low c.args.around.now.high v _
    (ap (λ (u : ClipVertex). u.x) (at _ _ _ c.clip.ensures c.picked.ensures.value)) (ap (λ (u : ClipVertex). u.x) (at _ _ _ c.clip-2.ensures c.picked-2.ensures.value))
    (ap (λ (u : ClipVertex). u.y) (at _ _ _ c.clip-3.ensures c.picked-3.ensures.value)) (ap (λ (u : ClipVertex). u.y) (at _ _ _ c.clip-4.ensures c.picked-4.ensures.value))
    (ap (λ (u : ClipVertex). u.w) (at _ _ _ c.clip-5.ensures c.picked-5.ensures.value)) (ap (λ (u : ClipVertex). u.w) (at _ _ _ c.clip-6.ensures c.picked-6.ensures.value))
    inside)
