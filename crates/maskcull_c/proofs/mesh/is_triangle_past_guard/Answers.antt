use Rattle.std.proofs.Common.{◌≡◌, List, length, arith, rules, ap, ◌∙◌}
use Rattle.std.proofs.lemmas.Grind.{common_steps}
use Rattle.std.specs.List.{list_any}
use Rattle.cull_base.specs.declared.clip.ClipVertex.{ClipVertex}
use Rattle.cull_base.specs.Guard.{is_past_guard}
use Rattle.maskcull_c.specs.Asked.{is_part_past_guard}
use Rattle.maskcull_c.specs.Given.{tri_of}
use Rattle.maskcull_c.proofs.Triangles.{vertices_told}
use Rattle.maskcull_c.proofs.mesh.is_triangle_past_guard.Goals as goal

pub returns : goal.returns
unfolding is_part_past_guard
returns c =
    let n : length c.clips_of.result ≡ 3 = search rules in
    let whole = vertices_told c.args.vertices.now (tri_of c.args.triangle.now) c.clips_of.result n c.clips_of.ensures.first c.clips_of.ensures.second c.clips_of.ensures.third in
    let some : c.any.result ≡ list_any (λ v. is_past_guard v c.args.near) c.clips_of.result = grind (arith, common_steps) in
    some ∙ ap (λ (vs : List ClipVertex). list_any (λ v. is_past_guard v c.args.near) vs) whole
