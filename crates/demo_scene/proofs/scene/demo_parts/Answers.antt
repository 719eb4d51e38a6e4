use Rattle.std.proofs.Common.{ℕ, ◌*◌, refl, ap, ◌∙◌}
use Rattle.demo_scene.specs.Demo.{boxes_of, box_count, demo_of}
use Rattle.demo_scene.proofs.Draws.{boxes_after}
use Rattle.demo_scene.proofs.scene.demo_parts.Goals as goal

pub returns : goal.returns
unfolding demo_of
returns c =
    let objects = c.in_ok-objects.ensures ∙ ap (λ (t : ℕ). boxes_of t 0 box_count) c.in_ok-vertices.ensures.state ∙ boxes_after c.args.seed (12 * c.args.triangles) box_count in
    rw (c.in_ok-vertices.ensures.value, c.in_ok-occluders.ensures, c.in_ok-whole_batch.ensures, objects, c.in_ok-cameras.ensures, c.new.ensures.items) refl
