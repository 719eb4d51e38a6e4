use Rattle.maskcull_c.specs.Floats.{points_of}
use Rattle.maskcull_c.proofs.Lenses.{three_held}
use Rattle.maskcull_c.proofs.float_test.reached_by_triangle.Goals as goal

pub returns-in-Some-point-2-clause-stands : goal.returns-in-Some-point-2-clause-stands
returns-in-Some-point-2-clause-stands c =
    let lens = c.args.lens.now in let floats = c.args.positions.now in let t = c.args.triangle.now in
    c.reached.ensures.stands (points_of lens.view floats t)
    (three_held lens floats t c.in-Some.a c.in-Some-point.b c.in-Some-point-2.c c.in-Some.ensures c.in-Some-point.ensures c.in-Some-point-2.ensures)
