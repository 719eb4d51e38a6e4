use Rattle.std.proofs.Common.{◌≡◌, map, ap, ◌∙◌}
use Rattle.cull_base.specs.Grade.{top_of}
use Rattle.rect_query.specs.Boxes.{box_answer, box_shape}
use Rattle.rect_query.proofs.Shapes.{answer_has_pieces}
use Rattle.maskcull_c.specs.Asked.{shape_of_box, verdict_over}
use Rattle.maskcull_c.specs.Given.{clip_of, grade_of, size_of}
use Rattle.maskcull_c.specs.Tiles.{code_of}
use Rattle.maskcull_c.proofs.Hiding.{hides_by_verdict, told_of}
use Rattle.maskcull_c.proofs.ask.maskcull_test_box.Goals as goal
use Rattle.maskcull_c.proofs.ask.maskcull_test_box.Goals.{After-box_verdict}

-- the verdict over the size and by the numbers of the set-up that was passed
told : (c : After-box_verdict) → let s = c.args.setup.now in
    c.box_verdict.result ≡ verdict_over (size_of s) c.args.tiles.now (box_shape (top_of (grade_of s)) s.near (size_of s) (map clip_of c.args.corners.now.corners))
told c =
    let s = c.args.setup.now in
    told_of (λ g size near. c.box_verdict.result ≡ verdict_over size c.args.tiles.now (box_shape (top_of g) near size (map clip_of c.args.corners.now.corners))) c.in-Some.checked.grade (grade_of s) c.in-Some.checked.size (size_of s) c.in-Some.checked.near s.near c.in-Some.ensures.grade c.in-Some.ensures.size c.in-Some.ensures.near c.box_verdict.ensures

pub returns-clause-value : goal.returns-clause-value
returns-clause-value c setup all = c.code.ensures.value ∙ ap code_of (told (goal.at.returns-clause-value c).After-box_verdict)

pub returns-clause-hides : goal.returns-clause-hides
returns-clause-hides c =
    hides_by_verdict (size_of c.args.setup.now) c.args.tiles.now (shape_of_box c.args.setup.now c.args.corners.now) c.box_verdict.result c.code.result
    (answer_has_pieces (size_of c.args.setup.now) (box_answer (top_of (grade_of c.args.setup.now)) c.args.setup.now.near (size_of c.args.setup.now) (map clip_of c.args.corners.now.corners))) (told (goal.at.returns-clause-hides c).After-box_verdict) c.code.ensures.value
