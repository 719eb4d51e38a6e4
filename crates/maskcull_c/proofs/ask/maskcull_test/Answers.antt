use Rattle.std.proofs.Common.{◌≡◌, FitsSigned, w32, ap, ◌∙◌}
use Rattle.std.proofs.lemmas.Int.{to_z-of_z}
use Rattle.cull_base.specs.Grade.{top_of}
use Rattle.rect_query.specs.Rectangles.{rectangle_shape}
use Rattle.rect_query.proofs.Shapes.{rectangle_has_pieces}
use Rattle.maskcull_c.specs.Asked.{shape_of_area, verdict_over}
use Rattle.maskcull_c.specs.Given.{rect_of, grade_of, size_of}
use Rattle.maskcull_c.specs.Tiles.{code_of}
use Rattle.maskcull_c.proofs.Hiding.{hides_by_verdict, told_of}
use Rattle.maskcull_c.proofs.ask.maskcull_test.Goals as goal
use Rattle.maskcull_c.proofs.ask.maskcull_test.Goals.{After-rectangle_verdict}

-- the verdict over the size and by the numbers of the set-up that was passed
told : (c : After-rectangle_verdict) → let s = c.args.setup.now in
    c.rectangle_verdict.result ≡ verdict_over (size_of s) c.args.tiles.now (rectangle_shape (top_of (grade_of s)) s.near (size_of s) (rect_of c.args.area.now) c.args.w)
told c =
    let s = c.args.setup.now in
    let fits : FitsSigned w32 c.args.w = c.ranges.w in
    told_of (λ g size near. c.rectangle_verdict.result ≡ verdict_over size c.args.tiles.now (rectangle_shape (top_of g) near size (rect_of c.args.area.now) c.args.w)) c.in-Some.checked.grade (grade_of s) c.in-Some.checked.size (size_of s) c.in-Some.checked.near s.near c.in-Some.ensures.grade c.in-Some.ensures.size c.in-Some.ensures.near
    (rw c.rect.ensures at (simp to_z-of_z at c.rectangle_verdict.ensures))

pub returns-clause-value : goal.returns-clause-value
returns-clause-value c setup all = c.code.ensures.value ∙ ap code_of (told (goal.at.returns-clause-value c).After-rectangle_verdict)

pub returns-clause-hides : goal.returns-clause-hides
returns-clause-hides c =
    hides_by_verdict (size_of c.args.setup.now) c.args.tiles.now (shape_of_area c.args.setup.now c.args.area.now c.args.w) c.rectangle_verdict.result c.code.result
    (rectangle_has_pieces (top_of (grade_of c.args.setup.now)) c.args.setup.now.near (size_of c.args.setup.now) (rect_of c.args.area.now) c.args.w) (told (goal.at.returns-clause-hides c).After-rectangle_verdict) c.code.ensures.value
