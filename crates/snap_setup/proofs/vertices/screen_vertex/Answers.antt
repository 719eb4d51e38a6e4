use Rattle.std.proofs.Common.{not, ◌&&◌, refl, ap, ◌∙◌}
use Rattle.cull_base.specs.Grade.{top_of}
use Rattle.cull_base.specs.declared.triangle.Side.TheVariants.{Occluder}
use Rattle.near_clip.specs.declared.hom_point.HomPoint.{HomPoint}
use Rattle.snap_setup.specs.Snapping.{snapped}
use Rattle.snap_setup.specs.Vertices.{nowhere}
use Rattle.snap_setup.proofs.SharedVertices.{made_of}
use Rattle.snap_setup.proofs.vertices.screen_vertex.Goals as goal

pub returns-then-placed : goal.returns-then-placed
returns-then-placed c =
    let front = c.is_in_front.ensures in let past = c.past_guard-past.ensures in
    let at = c.snap-at.ensures.value ∙ ap (λ (p : HomPoint). snapped p (top_of c.args.grade) c.args.near.distance c.args.size Occluder) c.whole.ensures in
    made_of c.args.v.now (top_of c.args.grade) c.args.near.distance c.args.size c.snap-at.result (c.is_in_front.result && not c.past_guard-past.result) c.past_guard-past.result (rw (front, past) refl) past (rw c.if-placed.true at)

pub returns-else-placed : goal.returns-else-placed
returns-else-placed c =
    let front = c.is_in_front.ensures in let past = c.past_guard-past.ensures in
    made_of c.args.v.now (top_of c.args.grade) c.args.near.distance c.args.size nowhere (c.is_in_front.result && not c.past_guard-past.result) c.past_guard-past.result (rw (front, past) refl) past (rw c.if-placed.false refl)
