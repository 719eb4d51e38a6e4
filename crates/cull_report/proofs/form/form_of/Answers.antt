use Rattle.std.proofs.Common.{◌≡◌, ℕ, List, ℤ, map, FitsSigned, w32, rules, refl, ap, ◌∙◌, subst}
use Rattle.std.proofs.lemmas.Int.{to_z-of_z}
use Rattle.cull_base.specs.declared.nearness.Grade.{Grade}
use Rattle.cull_base.specs.Grade.{top_of}
use Rattle.cull_base.specs.Screen.{Dimensions}
use Rattle.camera_path.specs.Clip.{clip_of, corners_of}
use Rattle.rect_query.specs.Boxes.{box_shape}
use Rattle.rect_query.specs.Rectangles.{rectangle_shape}
use Rattle.cull_report.specs.Forms.{IsFlatForm}
use Rattle.cull_report.specs.Scene.{size_of, camera_at, object_shape}
use Rattle.cull_report.proofs.Forms.{flat_form}
use Rattle.cull_report.proofs.form.form_of.Goals as goal

pub returns-in-Area-clause-shape : goal.returns-in-Area-clause-shape
unfolding object_shape
returns-in-Area-clause-shape c =
    let s = c.args.scene.now in
    let w : FitsSigned w32 c.in-Area.w = search rules in
    let P : Grade → Dimensions → ℕ → Type 0 = λ grade size near. IsFlatForm size c.rectangle_form.result (rectangle_shape (top_of grade) near size c.in-Area.rect c.in-Area.w) in
    let told : P c.grade.result c.size.result c.near.result = simp to_z-of_z at c.rectangle_form.ensures in
    let by_grade : P s.grade c.size.result c.near.result = subst (λ (grade : Grade). P grade c.size.result c.near.result) c.grade.ensures told in
    let is = subst (P s.grade (size_of s)) c.near.ensures.value (subst (λ (size : Dimensions). P s.grade size c.near.result) c.size.ensures by_grade) in
    rw c.in-Area.is (flat_form s c.args.frame c.rectangle_form.result (rectangle_shape (top_of s.grade) s.near (size_of s) c.in-Area.rect c.in-Area.w) is)

pub returns-in-Block-clause-shape : goal.returns-in-Block-clause-shape
unfolding object_shape
returns-in-Block-clause-shape c =
    let s = c.args.scene.now in
    let corners = corners_of c.in-Block.low c.in-Block.high in
    let P : Grade → Dimensions → ℕ → Type 0 = λ grade size near. IsFlatForm size c.box_form.result (box_shape (top_of grade) near size c.clip_box-corners.result) in
    let by_grade : P s.grade c.size-in-Block.result c.near-in-Block.result =
    subst (λ (grade : Grade). P grade c.size-in-Block.result c.near-in-Block.result) c.grade-in-Block.ensures c.box_form.ensures in
    let is = subst (P s.grade (size_of s)) c.near-in-Block.ensures.value (subst (λ (size : Dimensions). P s.grade size c.near-in-Block.result) c.size-in-Block.ensures by_grade) in
    let alike : c.clip_box-corners.result ≡ map (clip_of (camera_at s c.args.frame)) corners = c.clip_box-corners.ensures ∙ ap (λ (camera : List ℤ). map (clip_of camera) corners) c.camera_of.ensures.value in
    rw c.in-Block.is
    (flat_form s c.args.frame c.box_form.result (box_shape (top_of s.grade) s.near (size_of s) c.clip_box-corners.result) is ∙ ap (box_shape (top_of s.grade) s.near (size_of s)) alike)

pub returns-in-Mesh-clause-shape : goal.returns-in-Mesh-clause-shape
unfolding object_shape
returns-in-Mesh-clause-shape c = rw c.in-Mesh.is refl
