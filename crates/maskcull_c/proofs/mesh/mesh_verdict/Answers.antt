use Rattle.std.proofs.Common.{◌≡◌, ℕ, Bool, List, true, false, cond, Some, None, map, refl, sym, ap, ◌∙◌}
use Rattle.std.specs.List.{list_all, list_any}
use Rattle.std.proofs.lemmas.Bool.{not-true, not-false}
use Rattle.cull_base.specs.declared.nearness.Grade.{Grade}
use Rattle.cull_base.specs.Grade.{top_of}
use Rattle.cull_base.specs.declared.scene_types.Verdict.{Verdict}
use Rattle.cull_base.specs.declared.scene_types.Verdict.TheVariants.{Visible, Occluded, Outside}
use Rattle.cull_base.specs.Guard.{is_past_guard}
use Rattle.cull_base.specs.Screen.{Dimensions}
use Rattle.cull_base.specs.Shape.{verdict_of}
use Rattle.masked_update.specs.TileOf.{TileOf, tile_at}
use Rattle.masked_update.specs.Views.{state_in}
use Rattle.mesh_query.specs.declared.mesh.Progress.{Progress}
use Rattle.mesh_query.specs.Asked.{HasAsked, at_first}
use Rattle.mesh_query.specs.Meshes.{at_some_vertex, mesh_shape, near_boxes, object_pieces}
use Rattle.mesh_query.proofs.Verdicts.{early_decides, found_verdict, shown_verdict}
use Rattle.maskcull_c.specs.declared.given.Triangle.{Triangle}
use Rattle.maskcull_c.specs.declared.given.Vertex.{Vertex}
use Rattle.maskcull_c.specs.Asked.{is_all_behind, is_part_past_guard}
use Rattle.maskcull_c.specs.Given.{clip_of, tri_of}
use Rattle.maskcull_c.proofs.Triangles.{all_behind, one_past_guard, left_open}
use Rattle.maskcull_c.proofs.mesh.mesh_verdict.Goals as goal

pub returns-then-are_all_behind : goal.returns-then-are_all_behind
returns-then-are_all_behind c =
    let clips = map clip_of c.args.vertices.now in let tris = map tri_of c.args.triangles.now in
    let behind = sym (all_behind c.args.near c.args.vertices.now c.args.triangles.now) ∙ sym c.are_all_behind.ensures ∙ c.if-are_all_behind.true in
    let early = ap (λ (b : Bool). cond b (Some Outside) (cond (at_some_vertex clips (λ v. is_past_guard v c.args.near) tris) (Some Visible) None)) behind in
    sym (early_decides (top_of c.args.grade) c.args.near c.args.size clips tris (state_in c.args.size (tile_at c.args.tiles.now)) Outside early)

pub returns-then-is_one_past_guard : goal.returns-then-is_one_past_guard
returns-then-is_one_past_guard c =
    let clips = map clip_of c.args.vertices.now in let tris = map tri_of c.args.triangles.now in
    let front = sym (all_behind c.args.near c.args.vertices.now c.args.triangles.now) ∙ sym c.are_all_behind.ensures ∙ c.if-are_all_behind.false in
    let past = sym (one_past_guard c.args.near c.args.vertices.now c.args.triangles.now) ∙ sym c.is_one_past_guard.ensures ∙ c.if-is_one_past_guard.true in
    let early = ap (λ (b : Bool). cond b (Some Outside) (cond (at_some_vertex clips (λ v. is_past_guard v c.args.near) tris) (Some Visible) None)) front
    ∙ ap (λ (b : Bool). cond b (Some Visible) None) past in
    sym (early_decides (top_of c.args.grade) c.args.near c.args.size clips tris (state_in c.args.size (tile_at c.args.tiles.now)) Visible early)

pub ask_triangles-requires-clause-guarded : goal.ask_triangles-requires-clause-guarded
ask_triangles-requires-clause-guarded c = sym (one_past_guard c.args.near c.args.vertices.now c.args.triangles.now) ∙ sym c.is_one_past_guard.ensures ∙ c.if-is_one_past_guard.false

pub returns-in-None : goal.returns-in-None
returns-in-None c =
    let clips = map clip_of c.args.vertices.now in let tris = map tri_of c.args.triangles.now in
    let left = left_open c.args.near c.args.vertices.now c.args.triangles.now (sym c.are_all_behind.ensures ∙ c.if-are_all_behind.false) (sym c.is_one_past_guard.ensures ∙ c.if-is_one_past_guard.false) in
    sym (shown_verdict (state_in c.args.size (tile_at c.args.tiles.now)) c.args.grade c.args.near c.args.size clips tris c.width-width.ensures.valid c.requires.least c.requires.most left c.in-None.ensures)

-- the verdict by what was found
by_found : (met touched : Bool) (v : Verdict) (m t : Bool) → v ≡ cond met (cond touched Occluded Visible) Outside → met ≡ m → touched ≡ t → cond m (cond t Occluded Visible) Outside ≡ v
by_found met touched v m t e em et = sym (e ∙ ap (λ (b : Bool). cond b (cond touched Occluded Visible) Outside) em ∙ ap (λ (b : Bool). cond m (cond b Occluded Visible) Outside) et)

-- where neither test decides
by_asked : (grade : Grade) (near : ℕ) (size : Dimensions) (tiles : List TileOf) (vertices : List Vertex) (ts : List Triangle) (now : Progress) (m t : Bool) → list_all (is_all_behind near vertices) ts ≡ false → list_any (is_part_past_guard near vertices) ts ≡ false
    → HasAsked (state_in size (tile_at tiles)) size (object_pieces (top_of grade) near size (map clip_of vertices) (map tri_of ts)) (near_boxes near size (map clip_of vertices) (map tri_of ts)) at_first now → now.met ≡ m → now.touched ≡ t
    → cond m (cond t Occluded Visible) Outside ≡ verdict_of size (state_in size (tile_at tiles)) (mesh_shape (top_of grade) near size (map clip_of vertices) (map tri_of ts))
by_asked grade near size tiles vertices ts now m t front guarded asked met touched =
    by_found now.met now.touched _ m t (found_verdict (state_in size (tile_at tiles)) (top_of grade) near size (map clip_of vertices) (map tri_of ts) now (left_open near vertices ts front guarded) asked) met touched

pub returns-then-not-found : goal.returns-then-not-found
returns-then-not-found c =
    by_asked c.args.grade c.args.near c.args.size c.args.tiles.now c.args.vertices.now c.args.triangles.now c.in-Some.found false c.in-Some.found.touched (sym c.are_all_behind.ensures ∙ c.if-are_all_behind.false) (sym c.is_one_past_guard.ensures ∙ c.if-is_one_past_guard.false) c.in-Some.ensures (not-true c.in-Some.found.met c.if-not-found.true) refl

pub returns-then-found : goal.returns-then-found
returns-then-found c =
    by_asked c.args.grade c.args.near c.args.size c.args.tiles.now c.args.vertices.now c.args.triangles.now c.in-Some.found true true (sym c.are_all_behind.ensures ∙ c.if-are_all_behind.false) (sym c.is_one_past_guard.ensures ∙ c.if-is_one_past_guard.false) c.in-Some.ensures (not-false c.in-Some.found.met c.if-not-found.false) c.if-found.true

pub returns-else-found : goal.returns-else-found
returns-else-found c =
    by_asked c.args.grade c.args.near c.args.size c.args.tiles.now c.args.vertices.now c.args.triangles.now c.in-Some.found true false (sym c.are_all_behind.ensures ∙ c.if-are_all_behind.false) (sym c.is_one_past_guard.ensures ∙ c.if-is_one_past_guard.false) c.in-Some.ensures (not-false c.in-Some.found.met c.if-not-found.false) c.if-found.false
