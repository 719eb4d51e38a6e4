use Rattle.std.proofs.Common.{List, length, map, ap, ◌∙◌, subst}
use Rattle.cull_base.specs.Grade.{top_of}
use Rattle.cull_base.specs.Piece.{Piece}
use Rattle.maskcull_c.specs.Given.{clip_of, grade_of, size_of, tri_of, winding_of}
use Rattle.maskcull_c.specs.Pieces.{AreListed}
use Rattle.maskcull_c.proofs.Listed.{pieces_as}
use Rattle.maskcull_c.proofs.set_up.maskcull_set_up.Goals as goal

pub returns-clause-listed : goal.returns-clause-listed
returns-clause-listed c e =
    let s = c.args.setup.now in
    let checked = c.in-Some.checked in
    let is = c.in-Some.ensures in
    subst (λ (ps : List Piece). AreListed 0 ps c.args.pieces.now c.list_triangles.new.rooms)
    (pieces_as (map clip_of c.args.vertices.now) (map tri_of c.args.triangles.now) (top_of checked.grade) (top_of (grade_of s)) checked.size (size_of s) checked.near s.near checked.winding (winding_of s.winding) (ap top_of is.grade) is.size is.near is.winding)
    c.list_triangles.ensures.listed

pub returns-clause-count : goal.returns-clause-count
returns-clause-count c e =
    let s = c.args.setup.now in
    let checked = c.in-Some.checked in
    let is = c.in-Some.ensures in
    c.list_triangles.ensures.count
    ∙ ap length (pieces_as (map clip_of c.args.vertices.now) (map tri_of c.args.triangles.now) (top_of checked.grade) (top_of (grade_of s)) checked.size (size_of s) checked.near s.near checked.winding (winding_of s.winding) (ap top_of is.grade) is.size is.near is.winding)
