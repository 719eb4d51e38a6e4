use Rattle.std.proofs.Common.{◌≡◌, ap, ◌∙◌, sym, subst}
use Rattle.cull_base.specs.Screen.{Dimensions}
use Rattle.maskcull_c.specs.Asked.{verdict_over}
use Rattle.maskcull_c.specs.Floats.{corners_of}
use Rattle.maskcull_c.specs.Given.{size_of}
use Rattle.maskcull_c.specs.Lenses.{shape_of}
use Rattle.maskcull_c.specs.Tiles.{code_of}
use Rattle.maskcull_c.proofs.Codes.{outside_by_code}
use Rattle.maskcull_c.proofs.Verdicts.{outside_is_beside, shape_hides}
use Rattle.maskcull_c.proofs.float_test.maskcull_test_box_floats.Goals as goal
use Rattle.maskcull_c.proofs.float_test.maskcull_test_box_floats.Goals.{After-verdict_on}

-- the verdict over the size of the set-up that was passed
told : (c : After-verdict_on) → c.verdict_on.result ≡ verdict_over (size_of c.args.setup.now) c.args.tiles.now (shape_of c.reached_by_box-reached.result)
told c = subst (λ (size : Dimensions). c.verdict_on.result ≡ verdict_over size c.args.tiles.now (shape_of c.reached_by_box-reached.result)) c.in-Some.ensures.size c.verdict_on.ensures

pub returns-clause-value : goal.returns-clause-value
returns-clause-value c setup view all =
    let s = c.args.setup.now in let v = c.args.view.now in let shape = shape_of c.reached_by_box-reached.result in
    let stands = c.reached_by_box-reached.ensures.stands in
    let number = c.code.ensures.value ∙ ap code_of (told (goal.at.returns-clause-value c).After-verdict_on) in
    record {
      shape = shape;
      stands = stands;
      value = number;
      hides = shape_hides s v (size_of s) c.args.tiles.now (corners_of v c.args.bounds.now) shape c.code.result stands number;
    }

pub returns-clause-beside : goal.returns-clause-beside
returns-clause-beside c e =
    let s = c.args.setup.now in let v = c.args.view.now in let shape = shape_of c.reached_by_box-reached.result in
    let outside = outside_by_code c.verdict_on.result (sym c.code.ensures.value ∙ e) in
    outside_is_beside s v (size_of s) c.args.tiles.now (corners_of v c.args.bounds.now) shape c.reached_by_box-reached.ensures.stands
    (sym (told (goal.at.returns-clause-beside c).After-verdict_on) ∙ outside)
