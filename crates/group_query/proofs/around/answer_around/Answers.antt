use Rattle.std.proofs.Common.{ℤ, List, [], get_or, subst}
use Rattle.camera_path.specs.Clip.{clip_of}
use Rattle.cull_report.specs.Scene.{camera_at}
use Rattle.group_query.specs.Around.{IsInside, IsInReach}
use Rattle.group_query.proofs.BoxesAround.{answer_is, answered}
use Rattle.group_query.proofs.around.answer_around.Goals as goal

pub returns : goal.returns
returns c =
    let s = c.args.scene.now in
    let sees : (v : List ℤ) → IsInside c.args.around.now.low c.args.around.now.high v → IsInReach c.of.result (clip_of (camera_at s c.args.frame) v) = λ v inside.
    subst (λ (cameras : List (List ℤ)). IsInReach c.of.result (clip_of (get_or cameras c.args.frame []) v)) c.cameras.ensures.value (c.of.ensures v inside) in
    answered s c.args.frame c.args.around.now c.of.result c.box_rect_for_others.result c.near.ensures.valid.near_some sees
    (answer_is s c.of.result c.box_rect_for_others.result c.grade.result c.near.result c.args.size c.corners-corners.result c.box_rect_for_others.ensures c.grade.ensures c.near.ensures.value c.requires.size c.corners-corners.ensures)
