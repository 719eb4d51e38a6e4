use Rattle.std.proofs.Common.{◌+◌, ◌*◌, ◌<◌, ◌≤◌, List, length, map, take, arith, ap, ◌∙◌, sym, subst}
use Rattle.std.proofs.Math.Nat.{zero-add}
use Rattle.std.proofs.lemmas.List.{length-append, length-map, take_all}
use Rattle.cull_base.specs.Piece.{Piece}
use Rattle.cull_base.specs.Grade.{top_of}
use Rattle.cull_base.specs.declared.scene_types.Tri.{Tri}
use Rattle.snap_setup.specs.Pieces.{list_of_clips}
use Rattle.snap_setup.proofs.FrameLists.{list_none}
use Rattle.maskcull_c.specs.Given.{clip_of, tri_of}
use Rattle.maskcull_c.specs.Pieces.{AreListed}
use Rattle.maskcull_c.specs.declared.given.Triangle.{Triangle}
use Rattle.maskcull_c.proofs.Listed.{listed_none, listed_then, more_pieces, most_pieces}
use Rattle.maskcull_c.proofs.set_up.list_triangles.Goals as goal

pub loop-triangle-init : goal.loop-triangle-init
loop-triangle-init c =
    let none = list_none (map clip_of c.args.vertices.now) (top_of c.args.grade) c.args.near c.args.size c.args.winding in
    record {
      count = ap length none;
      listed = subst (λ (ps : List Piece). AreListed 0 ps c.args.rooms.now c.args.rooms.now) none (listed_none 0 c.args.rooms.now (omega arith));
    }

no_triangle : Triangle
no_triangle = record { a = 0; b = 0; c = 0 }

pub put_pieces-at-requires : goal.put_pieces-at-requires
unfolding no_triangle
put_pieces-at-requires c =
    let near = c.args.near in let size = c.args.size in let winding = c.args.winding in let triangles = c.args.triangles.now in
    let clips = map clip_of c.args.vertices.now in let v = c.clips_of-clips.result in let e = c.clips_of-clips.ensures in let i = c.loop-triangle.triangle-index in let ps = c.set_up-pieces.result in
    let below : i < length triangles = c.loop-triangle-test.true in
    let both = length-append (list_of_clips clips (take i (map tri_of triangles)) (top_of c.args.grade) near size winding) ps in
    let more = ap length (more_pieces clips triangles (top_of c.args.grade) near size winding i no_triangle v ps below e.first e.second e.third c.set_up-pieces.ensures.value) in
    let most = most_pieces clips triangles (top_of c.args.grade) near size winding (i + 1) (omega (arith, below)) in
    let count = c.loop-triangle.invariant.count in
    let whole = c.loop-triangle.invariant.listed.whole in
    let room : 2 * length triangles ≤ length c.args.rooms.now = c.requires.room in
    omega (arith, below, more, most, both, count, whole, room)

pub loop-triangle-preserved : goal.loop-triangle-preserved
unfolding no_triangle
loop-triangle-preserved c =
    let near = c.args.near in let size = c.args.size in let winding = c.args.winding in let triangles = c.args.triangles.now in
    let clips = map clip_of c.args.vertices.now in let v = c.clips_of-clips.result in let e = c.clips_of-clips.ensures in let i = c.loop-triangle.triangle-index in let ps = c.set_up-pieces.result in
    let now = list_of_clips clips (take i (map tri_of triangles)) (top_of c.args.grade) near size winding in
    let more = more_pieces clips triangles (top_of c.args.grade) near size winding i no_triangle v ps c.loop-triangle-test.true e.first e.second e.third c.set_up-pieces.ensures.value in
    let count = c.loop-triangle.invariant.count in
    let both = length-append now ps in
    let next = c.put_pieces-at.ensures.next in
    let behind = subst (λ n. AreListed n ps c.loop-triangle.rooms c.put_pieces-at.new.rooms) (count ∙ sym (zero-add (length now))) c.put_pieces-at.ensures.listed in
    let whole = listed_then 0 now ps c.args.rooms.now c.loop-triangle.rooms c.put_pieces-at.new.rooms c.loop-triangle.invariant.listed behind in
    record {
      count = next ∙ ap (λ n. n + length ps) count ∙ sym both ∙ ap length more;
      listed = subst (λ (qs : List Piece). AreListed 0 qs c.args.rooms.now c.put_pieces-at.new.rooms) more whole;
    }

pub returns : goal.returns
returns c =
    let i = c.loop-triangle.triangle-index in
    let tris = map tri_of c.args.triangles.now in
    let whole = take_all i tris (omega (arith, c.loop-triangle-test.false, length-map c.args.triangles.now tri_of)) in
    let all = ap (λ (ts : List Tri). list_of_clips (map clip_of c.args.vertices.now) ts (top_of c.args.grade) c.args.near c.args.size c.args.winding) whole in
    record {
      count = c.loop-triangle.invariant.count ∙ ap length all;
      listed = subst (λ (ps : List Piece). AreListed 0 ps c.args.rooms.now c.loop-triangle.rooms) all c.loop-triangle.invariant.listed;
    }
