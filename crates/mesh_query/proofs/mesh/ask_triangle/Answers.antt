use Rattle.std.proofs.Common.{List, map, sym, ◌∙◌, subst}
use Rattle.std.specs.List.{All, Contains}
use Rattle.cull_base.specs.Grade.{top_of}
use Rattle.cull_base.specs.declared.triangle.Side.TheVariants.{Object}
use Rattle.cull_base.specs.declared.triangle.Winding.TheVariants.{Both}
use Rattle.cull_base.specs.Piece.{Piece, IsPiece, box_of}
use Rattle.cull_base.specs.Screen.{tile_rect_of}
use Rattle.masked_update.specs.Views.{HoldsMet, state_in}
use Rattle.snap_setup.specs.Triangles.{pieces_of_triangle, near_box_of_triangle}
use Rattle.snap_setup.proofs.PieceBoxes.{piece_in_box_of_triangle, whole_box_of_triangle}
use Rattle.snap_setup.proofs.ValidPieces.{pieces_of_triangle_are}
use Rattle.mesh_query.specs.Asked.{HasAsked, SomeShows, TouchedBy}
use Rattle.mesh_query.proofs.Boxes.{meets_more}
use Rattle.mesh_query.proofs.Members.{one_member}
use Rattle.mesh_query.proofs.Progresses.{box_known, box_asked, only_box}
use Rattle.mesh_query.proofs.mesh.ask_triangle.Given as given
use Rattle.mesh_query.proofs.mesh.ask_triangle.Goals as goal
use Rattle.mesh_query.proofs.mesh.ask_triangle.Goals.{In_ok-now}

pub ask_pieces-requires : goal.ask_pieces-requires
ask_pieces-requires g c =
    let v = c.args.vertices.now in let near = c.args.near in let size = c.args.size in
    let is = c.set_up-pieces.ensures.value in
    record {
      valid = subst (All IsPiece) (sym is) (pieces_of_triangle_are v c.args.grade near size Both Object c.requires.sized c.requires.least c.requires.most);
      holds = λ t m n lt met.
          let h = piece_in_box_of_triangle v (top_of c.args.grade) near size Both Object t (subst (λ (ps : List Piece). Contains ps t) is m) in
          let held : HoldsMet (g.V.TileView.held c.args.view.now) size h.rect = rw (h.is) at c.requires.holds in
          held n lt (meets_more (box_of t) h.rect (tile_rect_of size n) h.within met);
    }

pub returns-in_err-now : goal.returns-in_err-now
returns-in_err-now g c =
    let f = state_in c.args.size (g.V.TileView.tile_of c.args.view.now) in
    rw (c.from_residual.ensures) (subst (λ (ps : List Piece). SomeShows f (TouchedBy c.args.size ps)) c.set_up-pieces.ensures.value c.in_err-now.ensures)

-- what the pieces tell
asked : (g : given.Over) (c : In_ok-now g) → let ps = pieces_of_triangle c.args.vertices.now (top_of c.args.grade) c.args.near c.args.size Both Object in
    HasAsked (state_in c.args.size (g.V.TileView.tile_of c.args.view.now)) c.args.size ps (map box_of ps) c.args.before c.in_ok-now.now
asked g c = rw (c.set_up-pieces.ensures.value) at c.in_ok-now.ensures

pub returns-then-now : goal.returns-then-now
returns-then-now g c =
    let v = c.args.vertices.now in let near = c.args.near in let size = c.args.size in
    let ps = pieces_of_triangle v (top_of c.args.grade) near size Both Object in let box = near_box_of_triangle v near size in
    box_known _ size ps box c.args.before c.in_ok-now.now (λ t m. piece_in_box_of_triangle v (top_of c.args.grade) near size Both Object t m) (asked g (goal.at.returns-then-now g c).In_ok-now) c.if-now.true

pub returns-then-is_all_in_front : goal.returns-then-is_all_in_front
returns-then-is_all_in_front g c =
    let v = c.args.vertices.now in let near = c.args.near in let size = c.args.size in
    let (t, one) = one_member c.set_up-pieces.result (sym c.len.ensures.value ∙ c.if-len-eq1.true) in
    let is = sym c.set_up-pieces.ensures.value ∙ one in
    let front = sym c.is_all_in_front.ensures ∙ c.if-is_all_in_front.true in
    only_box _ size (pieces_of_triangle v (top_of c.args.grade) near size Both Object) (near_box_of_triangle v near size) t c.args.before c.in_ok-now.now is
    (whole_box_of_triangle v (top_of c.args.grade) near size Both Object t c.told-vertices front is) (asked g (goal.at.returns-then-is_all_in_front g c).In_ok-now)

pub returns : goal.returns
returns g c =
    box_asked _ c.args.size (pieces_of_triangle c.args.vertices.now (top_of c.args.grade) c.args.near c.args.size Both Object) (near_box_of_triangle c.args.vertices.now c.args.near c.args.size)
    c.args.before c.in_ok-now.now c.is_box_on_screen.result (asked g (goal.at.returns g c).In_ok-now) c.if-now.false c.is_box_on_screen.ensures
