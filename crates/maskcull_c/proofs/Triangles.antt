-- Triangles of a mesh in the caller's memory, as those among clip vertices.
use Rattle.std.proofs.Common.{◌≡◌, ℕ, ◌+◌, ◌<◌, ◌≤◌, List, [], ◌∷◌, ◌++◌, length, map, take, get_or, Bool, false, ◌||◌, arith, refl, ap, sym, ◌∙◌, subst}
use Rattle.std.specs.List.{Contains, list_all, list_any}
use Rattle.std.specs.Option.{option_to_list}
use Rattle.std.proofs.lemmas.List.{get_or-map, length-map, take_all}
use Rattle.std.proofs.lemmas.List.Elements.{Contains-get_or}
use Rattle.std.proofs.lemmas.List.Folds.{list_all-map}
use Rattle.cull_base.specs.declared.clip.ClipVertex.{ClipVertex}
use Rattle.cull_base.specs.declared.place.Sub.{Sub}
use Rattle.cull_base.specs.declared.rect.Rect.{Rect}
use Rattle.cull_base.specs.declared.scene_types.Tri.{Tri}
use Rattle.cull_base.specs.Guard.{is_past_guard}
use Rattle.cull_base.specs.NearPlane.{is_behind}
use Rattle.cull_base.specs.Piece.{Piece}
use Rattle.cull_base.specs.Screen.{Dimensions}
use Rattle.cull_base.specs.State.{State}
use Rattle.near_clip.specs.NearPart.{corner}
use Rattle.snap_setup.specs.Pieces.{clip_at}
use Rattle.mesh_query.specs.declared.mesh.Progress.{Progress}
use Rattle.mesh_query.specs.Asked.{HasAsked, at_first}
use Rattle.mesh_query.specs.Meshes.{vertices_of, at_each_vertex, at_some_vertex, near_box_at, near_boxes, object_pieces, object_pieces_at}
use Rattle.mesh_query.proofs.Members.{joined_more}
use Rattle.mesh_query.proofs.Progresses.{both_asked}
use Rattle.mesh_query.proofs.Verdicts.{IsOpen}
use Rattle.maskcull_c.specs.declared.given.Triangle.{Triangle}
use Rattle.maskcull_c.specs.declared.given.Vertex.{Vertex}
use Rattle.maskcull_c.specs.Asked.{is_all_behind, is_part_past_guard}
use Rattle.maskcull_c.specs.Given.{clip_of, tri_of}

pub list_any_of_map : {X Y : Type 0} (p : X → Bool) (f : Y → X) (ys : List Y) → list_any p (map f ys) ≡ list_any (λ y. p (f y)) ys
list_any_of_map p f [] = refl
list_any_of_map p f (y ∷ ys) = ap (λ (b : Bool). p (f y) || b) (list_any_of_map p f ys)

abbrev pub no_tri : Tri
no_tri = record { 0 = [] }

-- one of the triangles
pub tri_there : (ts : List Triangle) (i : ℕ) (d : Triangle) → i < length ts → get_or (map tri_of ts) i no_tri ≡ tri_of (get_or ts i d)
tri_there ts i d lt = get_or-map tri_of ts i d no_tri lt

pub tri_within : (ts : List Triangle) (i : ℕ) → i < length ts → i < length (map tri_of ts)
tri_within ts i lt = let e : length (map tri_of ts) ≡ length ts = simp length-map in omega (arith, e, lt)

pub tri_among : (ts : List Triangle) (i : ℕ) (d : Triangle) → i < length ts → Contains (map tri_of ts) (tri_of (get_or ts i d))
tri_among ts i d lt = subst (Contains (map tri_of ts)) (tri_there ts i d lt) (Contains-get_or (map tri_of ts) i no_tri (tri_within ts i lt))

pub all_tris : (ts : List Triangle) (n : ℕ) → length ts ≤ n → take n (map tri_of ts) ≡ map tri_of ts
all_tris ts n le = let e : length (map tri_of ts) ≡ length ts = simp length-map in take_all n (map tri_of ts) (omega (arith, e, le))

-- what is known after one triangle more
pub one_more : (f : Sub → State) (top near : ℕ) (size : Dimensions) (clips : List ClipVertex) (tris : List Tri) (i : ℕ) (t : Tri) (x y : Progress) → i < length tris → get_or tris i no_tri ≡ t
    → HasAsked f size (object_pieces top near size clips (take i tris)) (near_boxes near size clips (take i tris)) at_first x
    → HasAsked f size (object_pieces_at top near size clips t) (option_to_list (near_box_at near size clips t)) x y
    → HasAsked f size (object_pieces top near size clips (take (i + 1) tris)) (near_boxes near size clips (take (i + 1) tris)) at_first y
one_more f top near size clips tris i t x y lt is before asked =
    let both = both_asked f size (object_pieces top near size clips (take i tris)) (object_pieces_at top near size clips t)
    (near_boxes near size clips (take i tris)) (option_to_list (near_box_at near size clips t)) at_first x y before asked in
    let pieces = joined_more (object_pieces_at top near size clips) tris i no_tri lt ∙ ap (λ (u : Tri). object_pieces top near size clips (take i tris) ++ object_pieces_at top near size clips u) is in
    let boxes = joined_more (λ u. option_to_list (near_box_at near size clips u)) tris i no_tri lt ∙ ap (λ (u : Tri). near_boxes near size clips (take i tris) ++ option_to_list (near_box_at near size clips u)) is in
    subst (λ (bs : List Rect). HasAsked f size (object_pieces top near size clips (take (i + 1) tris)) bs at_first y) (sym boxes)
    (subst (λ (ps : List Piece). HasAsked f size ps (near_boxes near size clips (take i tris) ++ option_to_list (near_box_at near size clips t)) at_first y) (sym pieces) both)

-- three vertices, each of which is known
pub three_vertices : (vs : List ClipVertex) (a b c : ClipVertex) → length vs ≡ 3 → corner vs 0 ≡ a → corner vs 1 ≡ b → corner vs 2 ≡ c → vs ≡ a ∷ b ∷ c ∷ []
three_vertices [] a b c n e f g = absurd (omega (arith, n))
three_vertices (x ∷ []) a b c n e f g = absurd (omega (arith, n))
three_vertices (x ∷ y ∷ []) a b c n e f g = absurd (omega (arith, n))
three_vertices (x ∷ y ∷ z ∷ []) a b c n e f g = ap (λ (v : ClipVertex). v ∷ y ∷ z ∷ []) e ∙ ap (λ (v : ClipVertex). a ∷ v ∷ z ∷ []) f ∙ ap (λ (v : ClipVertex). a ∷ b ∷ v ∷ []) g
three_vertices (x ∷ y ∷ z ∷ w ∷ vs) a b c n e f g = absurd (omega (arith, n))

pub vertices_told : (vertices : List Vertex) (t : Tri) (vs : List ClipVertex) → length vs ≡ 3 → corner vs 0 ≡ clip_at (map clip_of vertices) t 0 → corner vs 1 ≡ clip_at (map clip_of vertices) t 1 → corner vs 2 ≡ clip_at (map clip_of vertices) t 2
    → vs ≡ vertices_of (map clip_of vertices) t
vertices_told vertices t vs n e f g = three_vertices vs (clip_at (map clip_of vertices) t 0) (clip_at (map clip_of vertices) t 1) (clip_at (map clip_of vertices) t 2) n e f g

-- tests of the vertices of all triangles
pub all_behind : (near : ℕ) (vertices : List Vertex) (ts : List Triangle) → list_all (is_all_behind near vertices) ts ≡ at_each_vertex (map clip_of vertices) (is_behind near) (map tri_of ts)
unfolding is_all_behind
all_behind near vertices ts = sym (list_all-map (λ t. list_all (is_behind near) (vertices_of (map clip_of vertices) t)) tri_of ts)

pub one_past_guard : (near : ℕ) (vertices : List Vertex) (ts : List Triangle) → list_any (is_part_past_guard near vertices) ts ≡ at_some_vertex (map clip_of vertices) (λ v. is_past_guard v near) (map tri_of ts)
unfolding is_part_past_guard
one_past_guard near vertices ts = sym (list_any_of_map (λ t. list_any (λ v. is_past_guard v near) (vertices_of (map clip_of vertices) t)) tri_of ts)

-- what the vertices leave open
pub left_open : (near : ℕ) (vertices : List Vertex) (ts : List Triangle) → list_all (is_all_behind near vertices) ts ≡ false → list_any (is_part_past_guard near vertices) ts ≡ false → IsOpen near (map clip_of vertices) (map tri_of ts)
left_open near vertices ts front guarded = record { front = sym (all_behind near vertices ts) ∙ front; guarded = sym (one_past_guard near vertices ts) ∙ guarded }
