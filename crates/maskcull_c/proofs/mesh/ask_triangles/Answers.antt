use Rattle.std.proofs.Common.{◌≡◌, List, map, get_or, length, ◌≤◌, false, arith, rules, sym, ap, ◌∙◌, subst}
use Rattle.std.specs.Option.{option_to_list}
use Rattle.std.specs.List.{All, list_any}
use Rattle.cull_base.specs.declared.clip.ClipVertex.{ClipVertex}
use Rattle.cull_base.specs.Grade.{top_of}
use Rattle.cull_base.specs.declared.scene_types.Tri.{Tri}
use Rattle.cull_base.specs.declared.triangle.Side.TheVariants.{Object}
use Rattle.cull_base.specs.declared.triangle.Winding.TheVariants.{Both}
use Rattle.cull_base.specs.Guard.{is_past_guard}
use Rattle.masked_update.specs.TileOf.{TileOf, tile_at}
use Rattle.masked_update.specs.Views.{state_in}
use Rattle.snap_setup.specs.Triangles.{pieces_of_triangle, near_box_of_triangle}
use Rattle.mesh_query.specs.Asked.{HasAsked, SomeShows, TouchedBy, at_first}
use Rattle.mesh_query.specs.Meshes.{vertices_of, near_box_at, near_boxes, object_pieces, object_pieces_at}
use Rattle.mesh_query.proofs.Members.{none_holds, none_there, part_of_joined, if_some}
use Rattle.mesh_query.proofs.Progresses.{shows_among}
use Rattle.maskcull_c.specs.declared.given.Triangle.{Triangle}
use Rattle.maskcull_c.specs.Given.{clip_of, tri_of}
use Rattle.maskcull_c.proofs.AllTiles.{holds_met}
use Rattle.maskcull_c.proofs.Triangles.{no_tri, tri_there, tri_within, tri_among, all_tris, one_more, vertices_told}
use Rattle.maskcull_c.proofs.mesh.ask_triangles.Goals as goal

no_triangle : Triangle
no_triangle = record { a = 0; b = 0; c = 0 }

pub ask_triangle-requires-clause-guarded : goal.ask_triangle-requires-clause-guarded
unfolding no_triangle
ask_triangle-requires-clause-guarded c =
    let whole = vertices_told c.args.vertices.now (tri_of (get_or c.args.triangles.now c.loop-triangle.triangle-index no_triangle)) c.clips_of.result (search rules) c.clips_of.ensures.first c.clips_of.ensures.second c.clips_of.ensures.third in
    let test : ClipVertex → _ = λ v. is_past_guard v c.args.near in let clips = map clip_of c.args.vertices.now in let ts = c.args.triangles.now in
    let i = c.loop-triangle.triangle-index in let t = tri_of (get_or ts i no_triangle) in
    let none = none_there (λ u. list_any test (vertices_of clips u)) (map tri_of ts) i no_tri c.requires.guarded (tri_within ts i c.loop-triangle-test.true) in
    let here : list_any test (vertices_of clips t) ≡ false = ap (λ (u : Tri). list_any test (vertices_of clips u)) (sym (tri_there ts i no_triangle c.loop-triangle-test.true)) ∙ none in
    subst (All (λ v. is_past_guard v c.args.near ≡ false)) (sym whole) (none_holds test (vertices_of clips t) here)

pub ask_triangle-requires-clause-holds : goal.ask_triangle-requires-clause-holds
ask_triangle-requires-clause-holds c =
    if_some _ (near_box_of_triangle c.clips_of.result c.args.near c.args.size) (λ r is. holds_met c.args.size c.args.tiles.now c.new-view.result.states.now r c.requires.all c.new-view.ensures)

pub returns-in_err-now : goal.returns-in_err-now
unfolding no_triangle
returns-in_err-now c =
    let whole = vertices_told c.args.vertices.now (tri_of (get_or c.args.triangles.now c.loop-triangle.triangle-index no_triangle)) c.clips_of.result (search rules) c.clips_of.ensures.first c.clips_of.ensures.second c.clips_of.ensures.third in
    let size = c.args.size in let near = c.args.near in let clips = map clip_of c.args.vertices.now in let ts = c.args.triangles.now in
    let i = c.loop-triangle.triangle-index in let t = tri_of (get_or ts i no_triangle) in
    let f = state_in size (tile_at c.args.tiles.now) in
    let seen = subst (λ (tiles : List TileOf). SomeShows (state_in size (tile_at tiles)) (TouchedBy size (pieces_of_triangle c.clips_of.result (top_of c.args.grade) near size Both Object))) c.new-view.ensures c.in_err-now.ensures in
    let shows = subst (λ (vs : List ClipVertex). SomeShows f (TouchedBy size (pieces_of_triangle vs (top_of c.args.grade) near size Both Object))) whole seen in
    rw (c.from_residual.ensures)
    (shows_among f size (object_pieces_at (top_of c.args.grade) near size clips t) (object_pieces (top_of c.args.grade) near size clips (map tri_of ts))
    (λ u m. part_of_joined (object_pieces_at (top_of c.args.grade) near size clips) (map tri_of ts) t u (tri_among ts i no_triangle c.loop-triangle-test.true) m) shows)

pub loop-triangle-preserved : goal.loop-triangle-preserved
unfolding no_triangle
loop-triangle-preserved c =
    let whole = vertices_told c.args.vertices.now (tri_of (get_or c.args.triangles.now c.loop-triangle.triangle-index no_triangle)) c.clips_of.result (search rules) c.clips_of.ensures.first c.clips_of.ensures.second c.clips_of.ensures.third in
    let size = c.args.size in let near = c.args.near in let clips = map clip_of c.args.vertices.now in let ts = c.args.triangles.now in
    let i = c.loop-triangle.triangle-index in let t = tri_of (get_or ts i no_triangle) in let tris = map tri_of ts in
    let f = state_in size (tile_at c.args.tiles.now) in let before = c.loop-triangle.now in let now = c.in_ok-now.now in
    let seen = subst (λ (tiles : List TileOf). HasAsked (state_in size (tile_at tiles)) size (pieces_of_triangle c.clips_of.result (top_of c.args.grade) near size Both Object) (option_to_list (near_box_of_triangle c.clips_of.result near size)) before now) c.new-view.ensures c.in_ok-now.ensures in
    let asked : HasAsked f size (object_pieces_at (top_of c.args.grade) near size clips t) (option_to_list (near_box_at near size clips t)) before now =
    subst (λ (vs : List ClipVertex). HasAsked f size (pieces_of_triangle vs (top_of c.args.grade) near size Both Object) (option_to_list (near_box_of_triangle vs near size)) before now) whole seen in
    one_more f (top_of c.args.grade) near size clips tris i t before now (tri_within ts i c.loop-triangle-test.true) (tri_there ts i no_triangle c.loop-triangle-test.true) c.loop-triangle.invariant asked

pub returns : goal.returns
returns c =
    let size = c.args.size in let near = c.args.near in let clips = map clip_of c.args.vertices.now in let ts = c.args.triangles.now in
    let end : length ts ≤ c.loop-triangle.triangle-index = omega (arith, c.loop-triangle-test.false) in
    subst (λ (tris : List Tri). HasAsked (state_in size (tile_at c.args.tiles.now)) size (object_pieces (top_of c.args.grade) near size clips tris) (near_boxes near size clips tris) at_first c.loop-triangle.now)
    (all_tris ts c.loop-triangle.triangle-index end) c.loop-triangle.invariant
