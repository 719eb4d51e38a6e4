use Rattle.std.proofs.Common.{◌≡◌, ◌+◌, ◌++◌, List, [], take, get_or, false, sym, subst}
use Rattle.std.specs.Option.{option_to_list}
use Rattle.std.specs.List.{All, list_any}
use Rattle.std.proofs.lemmas.List.Elements.{Contains-get_or}
use Rattle.cull_base.specs.declared.clip.ClipVertex.{ClipVertex}
use Rattle.cull_base.specs.Grade.{top_of}
use Rattle.cull_base.specs.declared.rect.Rect.{Rect}
use Rattle.cull_base.specs.declared.scene_types.Tri.{Tri}
use Rattle.cull_base.specs.declared.triangle.Side.TheVariants.{Object}
use Rattle.cull_base.specs.declared.triangle.Winding.TheVariants.{Both}
use Rattle.cull_base.specs.Guard.{is_past_guard}
use Rattle.cull_base.specs.Piece.{Piece}
use Rattle.masked_update.specs.Views.{state_in}
use Rattle.snap_setup.specs.Triangles.{pieces_of_triangle, near_box_of_triangle}
use Rattle.mesh_query.specs.Asked.{HasAsked, SomeShows, TouchedBy, at_first}
use Rattle.mesh_query.specs.Meshes.{vertices_of, near_box_at, near_boxes, object_pieces, object_pieces_at}
use Rattle.mesh_query.proofs.Members.{none_holds, none_there, part_of_joined, joined_more}
use Rattle.mesh_query.proofs.Progresses.{both_asked, shows_among}
use Rattle.mesh_query.proofs.mesh.ask_triangles.Goals as goal

no_triangle : Tri
no_triangle = record { 0 = [] }

pub ask_triangle-requires-clause-guarded : goal.ask_triangle-requires-clause-guarded
unfolding no_triangle
ask_triangle-requires-clause-guarded g c =
    let test : ClipVertex → _ = λ v. is_past_guard v c.args.near.distance in
    let here = none_there (λ t. list_any test (vertices_of c.args.clips.now t)) c.args.tris.now c.loop-tri.tri-index no_triangle c.requires.guarded c.loop-tri-test.true in
    subst (All (λ v. is_past_guard v c.args.near.distance ≡ false)) (sym c.corners.ensures.whole) (none_holds test (vertices_of c.args.clips.now (get_or c.args.tris.now c.loop-tri.tri-index no_triangle)) here)

pub returns-in_err-now : goal.returns-in_err-now
unfolding no_triangle
returns-in_err-now g c =
    let f = state_in c.args.size (g.V.TileView.tile_of c.args.view.now) in let size = c.args.size in let near = c.args.near.distance in let clips = c.args.clips.now in let tris = c.args.tris.now in
    let i = c.loop-tri.tri-index in let t = get_or tris i no_triangle in
    let shows = subst (λ (vs : List ClipVertex). SomeShows f (TouchedBy size (pieces_of_triangle vs (top_of c.args.grade) near size Both Object))) c.corners.ensures.whole c.in_err-now.ensures in
    rw (c.from_residual.ensures)
    (shows_among f size (object_pieces_at (top_of c.args.grade) near size clips t) (object_pieces (top_of c.args.grade) near size clips tris)
    (λ u m. part_of_joined (object_pieces_at (top_of c.args.grade) near size clips) tris t u (Contains-get_or tris i no_triangle c.loop-tri-test.true) m) shows)

pub loop-tri-preserved : goal.loop-tri-preserved
unfolding no_triangle
loop-tri-preserved g c =
    let f = state_in c.args.size (g.V.TileView.tile_of c.args.view.now) in let size = c.args.size in let near = c.args.near.distance in let clips = c.args.clips.now in let tris = c.args.tris.now in
    let i = c.loop-tri.tri-index in let t = get_or tris i no_triangle in
    let now = c.in_ok-now.now in
    let asked : HasAsked f size (object_pieces_at (top_of c.args.grade) near size clips t) (option_to_list (near_box_at near size clips t)) c.loop-tri.now now =
    subst (λ (vs : List ClipVertex). HasAsked f size (pieces_of_triangle vs (top_of c.args.grade) near size Both Object) (option_to_list (near_box_of_triangle vs near size)) c.loop-tri.now now) c.corners.ensures.whole c.in_ok-now.ensures in
    let both = both_asked f size (object_pieces (top_of c.args.grade) near size clips (take i tris)) (object_pieces_at (top_of c.args.grade) near size clips t) (near_boxes near size clips (take i tris)) (option_to_list (near_box_at near size clips t))
    at_first c.loop-tri.now now c.loop-tri.invariant asked in
    let pieces = joined_more (object_pieces_at (top_of c.args.grade) near size clips) tris i no_triangle c.loop-tri-test.true in
    let boxes = joined_more (λ u. option_to_list (near_box_at near size clips u)) tris i no_triangle c.loop-tri-test.true in
    subst (λ (bs : List Rect). HasAsked f size (object_pieces (top_of c.args.grade) near size clips (take (i + 1) tris)) bs at_first now) (sym boxes)
    (subst (λ (ps : List Piece). HasAsked f size ps (near_boxes near size clips (take i tris) ++ option_to_list (near_box_at near size clips t)) at_first now) (sym pieces) both)
