use Rattle.std.proofs.Common.{◌≡◌, ◌<◌, List, [], length, get_or, map, take, arith, refl, ap, ◌∙◌, sym, subst}
use Rattle.std.proofs.lemmas.List.{get_or-map, length-map, take_all}
use Rattle.cull_base.specs.Piece.{Piece}
use Rattle.cull_base.specs.Grade.{top_of}
use Rattle.cull_base.specs.declared.scene_types.Tri.{Tri}
use Rattle.near_clip.specs.NearPart.{corner}
use Rattle.snap_setup.specs.Pieces.{list_of_clips, pieces_at}
use Rattle.snap_setup.proofs.FrameLists.{by_corners, list_more, list_none}
use Rattle.maskcull_c.specs.Bands.{AreMerged, first_in}
use Rattle.maskcull_c.specs.Given.{clip_of, tri_of}
use Rattle.maskcull_c.specs.declared.given.Triangle.{Triangle}
use Rattle.maskcull_c.proofs.Bands.{band_still}
use Rattle.maskcull_c.proofs.Merged.{merged_none, merged_then}
use Rattle.maskcull_c.proofs.draw.draw_triangles.Goals as goal

pub loop-triangle-init : goal.loop-triangle-init
loop-triangle-init c =
    subst (λ (ps : List Piece). AreMerged c.args.checked.now.size (first_in c.args.checked.now.size c.args.window) ps c.args.tiles.now c.args.tiles.now)
    (list_none (map clip_of c.args.vertices.now) (top_of c.args.checked.now.grade) c.args.checked.now.near c.args.checked.now.size c.args.checked.now.winding)
    (merged_none c.args.checked.now.size (first_in c.args.checked.now.size c.args.window) c.args.tiles.now)

pub draw_pieces-requires : goal.draw_pieces-requires
draw_pieces-requires c = band_still c.args.checked.now.size c.args.window c.args.tiles.now c.loop-triangle.tiles c.loop-triangle.invariant.whole c.requires.band

pub loop-triangle-preserved : goal.loop-triangle-preserved
loop-triangle-preserved c =
    let size = c.args.checked.now.size in
    let near = c.args.checked.now.near in
    let winding = c.args.checked.now.winding in
    let window = c.args.window in
    let triangles = c.args.triangles.now in
    let clips = map clip_of c.args.vertices.now in
    let tris = map tri_of triangles in
    let i = c.loop-triangle.triangle-index in
    let none : Tri = record { 0 = [] } in
    let first : Triangle = record { a = 0; b = 0; c = 0 } in
    let below : i < length triangles = c.loop-triangle-test.true in
    let lt : i < length tris = omega (arith, below, length-map triangles tri_of) in
    let at : get_or tris i none ≡ tri_of (get_or triangles i first) = get_or-map tri_of triangles i first none below in
    let v = c.clips_of-clips.result in
    let e = c.clips_of-clips.ensures in
    let now = list_of_clips clips (take i tris) (top_of c.args.checked.now.grade) near size winding in
    let these : c.set_up-pieces.result ≡ pieces_at clips (top_of c.args.checked.now.grade) near size winding (get_or tris i none)
    = c.set_up-pieces.ensures.value ∙ by_corners clips (corner v 0) (corner v 1) (corner v 2) (top_of c.args.checked.now.grade) near size winding (tri_of (get_or triangles i first)) e.first e.second e.third
    ∙ ap (λ (t : Tri). pieces_at clips (top_of c.args.checked.now.grade) near size winding t) (sym at) in
    let more = list_more clips tris (top_of c.args.checked.now.grade) near size winding i none now c.set_up-pieces.result lt refl these in
    subst (λ (ps : List Piece). AreMerged size (first_in size window) ps c.args.tiles.now c.draw_pieces.new.tiles) more
    (merged_then size (first_in size window) now c.set_up-pieces.result c.args.tiles.now c.loop-triangle.tiles c.draw_pieces.new.tiles c.loop-triangle.invariant c.draw_pieces.ensures)

pub returns : goal.returns
returns c =
    let tris = map tri_of c.args.triangles.now in
    let i = c.loop-triangle.triangle-index in
    let whole = take_all i tris (omega (arith, c.loop-triangle-test.false, length-map c.args.triangles.now tri_of)) in
    subst (λ ts. AreMerged c.args.checked.now.size (first_in c.args.checked.now.size c.args.window) (list_of_clips (map clip_of c.args.vertices.now) ts (top_of c.args.checked.now.grade) c.args.checked.now.near c.args.checked.now.size c.args.checked.now.winding) c.args.tiles.now c.loop-triangle.tiles) whole
    c.loop-triangle.invariant
