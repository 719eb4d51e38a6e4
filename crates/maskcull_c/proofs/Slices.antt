-- Slices of triangles, set up one by one and drawn one after another.
use Rattle.std.proofs.Common.{◌≡◌, ℕ, List, ◌++◌, map, ap, ◌∙◌, sym, subst}
use Rattle.std.proofs.lemmas.Grind.{flat_map-append}
use Rattle.std.proofs.lemmas.List.{map-append}
use Rattle.cull_base.specs.declared.clip.ClipVertex.{ClipVertex}
use Rattle.cull_base.specs.Grade.{top_of}
use Rattle.cull_base.specs.declared.scene_types.Tri.{Tri}
use Rattle.cull_base.specs.declared.triangle.Winding.{Winding}
use Rattle.cull_base.specs.Piece.{Piece}
use Rattle.cull_base.specs.Screen.{Dimensions}
use Rattle.masked_update.specs.TileOf.{TileOf}
use Rattle.snap_setup.specs.Pieces.{list_of_clips, pieces_at}
use Rattle.maskcull_c.specs.declared.given.Setup.{Setup}
use Rattle.maskcull_c.specs.declared.given.Triangle.{Triangle}
use Rattle.maskcull_c.specs.declared.given.Vertex.{Vertex}
use Rattle.maskcull_c.specs.Bands.{AreMerged}
use Rattle.maskcull_c.specs.Given.{grade_of, clip_of, pieces_drawn, size_of, tri_of, winding_of}
use Rattle.maskcull_c.proofs.Merged.{merged_once, merged_then}

both_lists : (clips : List ClipVertex) (ts us : List Tri) (top near : ℕ) (size : Dimensions) (winding : Winding) → list_of_clips clips (ts ++ us) top near size winding ≡ list_of_clips clips ts top near size winding ++ list_of_clips clips us top near size winding
unfolding list_of_clips
both_lists clips ts us top near size winding = flat_map-append (pieces_at clips top near size winding) ts us

-- the pieces of some triangles and then others
pub slices_listed : (s : Setup) (vertices : List Vertex) (a b : List Triangle) → pieces_drawn s vertices (a ++ b) ≡ pieces_drawn s vertices a ++ pieces_drawn s vertices b
slices_listed s vertices a b =
    ap (λ (ts : List Tri). list_of_clips (map clip_of vertices) ts (top_of (grade_of s)) s.near (size_of s) (winding_of s.winding)) (map-append tri_of a b)
    ∙ both_lists (map clip_of vertices) (map tri_of a) (map tri_of b) (top_of (grade_of s)) s.near (size_of s) (winding_of s.winding)

pub slices_drawn : (s : Setup) (first : ℕ) (vertices : List Vertex) (a b : List Triangle) (old between new whole : List TileOf)
    → AreMerged (size_of s) first (pieces_drawn s vertices a) old between → AreMerged (size_of s) first (pieces_drawn s vertices b) between new
    → AreMerged (size_of s) first (pieces_drawn s vertices (a ++ b)) old whole → new ≡ whole
slices_drawn s first vertices a b old between new whole one other all =
    let size = size_of s in
    let ps = pieces_drawn s vertices a in
    let qs = pieces_drawn s vertices b in
    merged_once size first (pieces_drawn s vertices (a ++ b)) old new whole
    (subst (λ (rs : List Piece). AreMerged size first rs old new) (sym (slices_listed s vertices a b)) (merged_then size first ps qs old between new one other)) all
