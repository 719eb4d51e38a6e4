use Rattle.std.proofs.Common.{◌≡◌, ℕ, ◌+◌, ◌*◌, arith, sym, ap, ◌∙◌}
use Rattle.demo_scene.specs.Demo.{vertices_of}
use Rattle.demo_scene.proofs.Draws.{none_drawn, vertices_after, drawn_after}
use Rattle.demo_scene.proofs.Ranges.{flat_map-next}
use Rattle.demo_scene.proofs.scene.vertices.Goals as goal

pub loop-triangle-init : goal.loop-triangle-init
loop-triangle-init c = record { made = c.new-vertices.ensures.items; drawn = none_drawn c.args.generator.now.state }

pub loop-triangle-preserved : goal.loop-triangle-preserved
loop-triangle-preserved c =
    let s = c.args.generator.now.state in let i = c.loop-triangle._triangle in
    let so_far = c.loop-triangle.invariant in
    let corners : c.triangle-corners.result ≡ vertices_of s i =
    c.triangle-corners.ensures.value ∙ ap (λ (t : ℕ). vertices_of t 0) so_far.drawn ∙ vertices_after s i in
    record {
      made = rw (c.in_ok-extend_from_slice.ensures.items, so_far.made, corners) (sym (flat_map-next (vertices_of s) i));
      drawn = drawn_after s (12 * i) 12 (12 * (i + 1)) _ _ (omega arith) so_far.drawn c.triangle-corners.ensures.state;
    }
