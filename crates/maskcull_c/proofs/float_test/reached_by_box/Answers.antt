use Rattle.maskcull_c.proofs.Lenses.{box_stands}
use Rattle.maskcull_c.proofs.float_test.reached_by_box.Goals as goal

pub returns-in-Some-box_corners-clause-stands : goal.returns-in-Some-box_corners-clause-stands
returns-in-Some-box_corners-clause-stands c =
    box_stands c.in-Some.lens c.args.setup.now c.args.view.now c.args.bounds.now c.in-Some-box_corners.corners c.reached.result c.in-Some.ensures.setup c.in-Some.ensures.view c.in-Some-box_corners.ensures.holds c.reached.ensures.stands
