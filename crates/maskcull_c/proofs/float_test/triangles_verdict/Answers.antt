use Rattle.std.proofs.Common.{◌+◌, take, ap, ◌∙◌}
use Rattle.cull_base.specs.Screen.{Dimensions}
use Rattle.maskcull_c.specs.Asked.{verdict_over}
use Rattle.maskcull_c.specs.Floats.{joined}
use Rattle.maskcull_c.specs.Lenses.{IsMeshVerdict, shape_of}
use Rattle.maskcull_c.specs.declared.given.Triangle.{Triangle}
use Rattle.maskcull_c.proofs.MeshVerdicts.{next_asked, visible_after}
use Rattle.maskcull_c.proofs.float_test.triangles_verdict.Goals as goal
use Rattle.maskcull_c.proofs.float_test.triangles_verdict.Goals.{After-joined-next}

no_triangle : Triangle
no_triangle = record { a = 0; b = 0; c = 0 }

-- the verdict on the triangles up to this one
so_far : (c : After-joined-next) → IsMeshVerdict c.args.lens.now.setup c.args.lens.now.view c.args.tiles.now c.args.positions.now (take (c.loop-triangle.triangle-index + 1) c.args.triangles.now) c.joined-next.result
unfolding no_triangle
so_far c =
    let lens = c.args.lens.now in let shape = shape_of c.reached_by_triangle-reached.result in
    let told = ap (λ (size : Dimensions). verdict_over size c.args.tiles.now shape) c.requires.size in
    next_asked lens.setup lens.view c.args.tiles.now c.args.positions.now c.args.triangles.now c.loop-triangle.triangle-index no_triangle shape c.loop-triangle.verdict c.joined-next.result c.loop-triangle-test.true
    c.loop-triangle.invariant c.reached_by_triangle-reached.ensures.stands
    (c.joined-next.ensures ∙ ap (joined c.loop-triangle.verdict) (c.verdict_on.ensures ∙ told))

pub returns-in-Visible : goal.returns-in-Visible
returns-in-Visible c =
    let lens = c.args.lens.now in
    visible_after lens.setup lens.view c.args.tiles.now c.args.positions.now c.args.triangles.now (c.loop-triangle.triangle-index + 1) c.joined-next.result (so_far (goal.at.returns-in-Visible c).After-joined-next) c.in-Visible.is

pub loop-triangle-preserved : goal.loop-triangle-preserved
loop-triangle-preserved c = so_far (goal.at.loop-triangle-preserved c).After-joined-next
