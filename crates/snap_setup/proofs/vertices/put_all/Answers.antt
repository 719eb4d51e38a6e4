use Rattle.std.proofs.Common.{◌≡◌, pos, rules, false, length, arith, sym, ◌∙◌}
use Rattle.std.proofs.lemmas.List.{ext_get_or, length-map, get_or-map}
use Rattle.cull_base.specs.Grade.{top_of}
use Rattle.snap_setup.specs.declared.vertices.ScreenVertex.{ScreenVertex}
use Rattle.snap_setup.specs.Vertices.{nowhere, screen_vertex, screen_vertices}
use Rattle.snap_setup.proofs.vertices.put_all.Goals as goal

unset : ScreenVertex
unset = record { at = nowhere; placed = false; past = false }

pub returns : goal.returns
returns g c =
    let o = c.args.occluders.now in
    let top = top_of o.grade in
    let clips = c.args.clips.now in
    let vs = c.for_each_share.new.s in
    let size : length vs ≡ length clips = search rules in
    ext_get_or unset vs (screen_vertices clips top o.near.distance o.size) (size ∙ sym (length-map clips (λ v. screen_vertex v top o.near.distance o.size)))
    (λ i lt. let h = c.for_each_share.ensures i unset (omega (arith, lt, size, c.requires)) in
    let k = h.1 in
    sym k.left ∙ k.call ∙ sym (get_or-map (λ v. screen_vertex v top o.near.distance o.size) clips i (record { x = pos 0; y = pos 0; w = pos 0 }) unset (omega (arith, lt, size))))
