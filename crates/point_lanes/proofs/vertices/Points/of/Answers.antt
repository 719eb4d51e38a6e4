use Rattle.std.proofs.Common.{◌*◌, ◌/◌, ℕ, pos, List, get_or, ap, ◌∙◌}
use Rattle.cull_base.specs.Grade.{top_of}
use Rattle.point_lanes.specs.Places.{place_of}
use Rattle.point_lanes.specs.Points.{vertex_at}
use Rattle.point_lanes.proofs.Pointing.{point_is}
use Rattle.point_lanes.proofs.vertices.Points.of.Goals as goal

pub returns : goal.returns
returns c j lt own =
    let s = c.args.scale.now in
    let lanes = c.lanes_of.result in
    let l = c.lanes_of.ensures j lt in
    let same = c.of-divisors.ensures in
    let number : ℕ = top_of s.grade * s.near in
    point_is (vertex_at c.args.clips.now j) s.near number (get_or lanes.across j 0) (get_or lanes.down j 0) (get_or lanes.w j 0) (get_or c.nearness-nearness.result j 0)
    (get_or c.places-x.result j (pos 0)) (get_or c.places-y.result j (pos 0)) c.args.size c.width.result c.height.result s.is_scale.near_least l.w_least (l.is_own own) c.width.ensures.value c.height.ensures.value
    (c.places-x.ensures j lt ∙ ap (λ (ns : List ℕ). place_of c.width.result (get_or lanes.across j 0) (get_or ns j 0)) same)
    (c.places-y.ensures j lt ∙ ap (λ (ns : List ℕ). place_of c.height.result (get_or lanes.down j 0) (get_or ns j 0)) same)
    (c.nearness-nearness.ensures j lt ∙ ap (λ (ns : List ℕ). number / get_or ns j 0) same)
