-- The list of a frame grows triangle by triangle.
use Rattle.std.proofs.Common.{◌≡◌, ℕ, ◌+◌, ◌*◌, ◌<◌, ◌≤◌, Bool, true, false, not, cond, filter, List, [], ◌∷◌, ◌++◌, length, get_or, take, append-nil, length-append, refl, sym, ap, ◌∙◌, arith}
use Rattle.std.proofs.lemmas.List.{take_more, length-map}
use mathlib.Core.List.{append_assoc}
use Rattle.std.proofs.lemmas.List.Sums.{length-filter, count_by-le-length}
use Rattle.std.proofs.lemmas.Grind.{flat_map-append}
use Rattle.cull_base.specs.declared.clip.ClipVertex.{ClipVertex}
use Rattle.cull_base.specs.declared.triangle.Side.TheVariants.{Occluder}
use Rattle.cull_base.specs.declared.triangle.Winding.{Winding}
use Rattle.cull_base.specs.declared.scene_types.Tri.{Tri}
use Rattle.cull_base.specs.Screen.{Dimensions}
use Rattle.cull_base.specs.Piece.{Piece}
use Rattle.cull_base.specs.Tiles.{FrameListOf, with_members}
use Rattle.snap_setup.specs.declared.snapping.Snapped.{Snapped}
use Rattle.snap_setup.specs.Pieces.{pieces_of, pieces_at, clip_at, list_of_clips, triangles_of, kept_of, snapped_part, is_left_out, is_any_past_guard, turned}

pub list_none : (clips : List ClipVertex) (top near : ℕ) (size : Dimensions) (winding : Winding) → [] ≡ list_of_clips clips [] top near size winding
unfolding list_of_clips
list_none clips top near size winding = refl

-- some triangles, and then others
pub list_both : (clips : List ClipVertex) (some others : List Tri) (top near : ℕ) (size : Dimensions) (winding : Winding) →
    list_of_clips clips (some ++ others) top near size winding ≡ list_of_clips clips some top near size winding ++ list_of_clips clips others top near size winding
unfolding list_of_clips
list_both clips some others top near size winding = flat_map-append (pieces_at clips top near size winding) some others

-- by the corners that the code looked up
pub by_corners : (clips : List ClipVertex) (v0 v1 v2 : ClipVertex) (top near : ℕ) (size : Dimensions) (winding : Winding) (t : Tri) →
    v0 ≡ clip_at clips t 0 → v1 ≡ clip_at clips t 1 → v2 ≡ clip_at clips t 2 → pieces_of v0 v1 v2 top near size winding Occluder ≡ pieces_at clips top near size winding t
by_corners clips v0 v1 v2 top near size winding t e0 e1 e2 = rw (e0, e1, e2) refl

-- one triangle more
pub list_more : (clips : List ClipVertex) (tris : List Tri) (top near : ℕ) (size : Dimensions) (winding : Winding) (i : ℕ) (d : Tri) (before ps : List Piece) → i < length tris →
    before ≡ list_of_clips clips (take i tris) top near size winding → ps ≡ pieces_at clips top near size winding (get_or tris i d) → before ++ ps ≡ list_of_clips clips (take (i + 1) tris) top near size winding
unfolding list_of_clips
list_more clips tris top near size winding i d before ps lt eb ep =
    let m = take_more tris i d lt in
    let a = flat_map-append (pieces_at clips top near size winding) (take i tris) (get_or tris i d ∷ []) in
    let n = append-nil (pieces_at clips top near size winding (get_or tris i d)) in
    rw (m, a, n, eb, ep) refl

two_triangles : (points : List Snapped) → length (triangles_of points) ≤ 2
two_triangles [] = omega arith
two_triangles (a ∷ []) = omega arith
two_triangles (a ∷ b ∷ []) = omega arith
two_triangles (a ∷ b ∷ c ∷ []) = omega arith
two_triangles (a ∷ b ∷ c ∷ d ∷ []) = omega arith
two_triangles (a ∷ b ∷ c ∷ d ∷ e ∷ ps) = omega arith

kept_most : (points : List Snapped) (winding : Winding) → length (kept_of points winding) ≤ 2
unfolding kept_of
kept_most points winding =
    let p : Piece → Bool = λ t. not (is_left_out winding t) in
    let two = two_triangles points in
    let fewer = count_by-le-length p (triangles_of points) in
    omega (arith, two, fewer, length-map (filter p (triangles_of points)) turned, length-filter p (triangles_of points))

cond_most : (b : Bool) (ps : List Piece) → length ps ≤ 2 → length (cond b [] ps) ≤ 2
cond_most true ps h = omega arith
cond_most false ps h = h

two_pieces : (clips : List ClipVertex) (top near : ℕ) (size : Dimensions) (winding : Winding) (t : Tri) → length (pieces_at clips top near size winding t) ≤ 2
unfolding pieces_of
two_pieces clips top near size winding t = cond_most (is_any_past_guard (clip_at clips t 0) (clip_at clips t 1) (clip_at clips t 2) near) _
    (kept_most (snapped_part (clip_at clips t 0) (clip_at clips t 1) (clip_at clips t 2) top near size Occluder) winding)

-- a list has at most two pieces a triangle
pub list_most : (clips : List ClipVertex) (tris : List Tri) (top near : ℕ) (size : Dimensions) (winding : Winding) → length (list_of_clips clips tris top near size winding) ≤ 2 * length tris
unfolding list_of_clips
list_most clips [] top near size winding = omega arith
list_most clips (t ∷ tris) top near size winding =
    let first = two_pieces clips top near size winding t in
    let others = list_most clips tris top near size winding in
    omega (arith, first, others, length-append (pieces_at clips top near size winding t) (list_of_clips clips tris top near size winding))

pub with_none : (f : FrameListOf) (ps : List Piece) → [] ≡ ps → f ≡ with_members f ps
with_none f ps e = sym (ap (λ (xs : List Piece). record { list = record { size = f.list.size; members = xs }; room = f.room }) (ap (λ (xs : List Piece). f.list.members ++ xs) (sym e) ∙ append-nil f.list.members))

pub with_more : (f g h : FrameListOf) (a b c : List Piece) → g ≡ with_members f a → h ≡ with_members g b → a ++ b ≡ c → h ≡ with_members f c
with_more f g h a b c eg eh e = eh ∙ ap (λ (x : FrameListOf). with_members x b) eg
    ∙ ap (λ (xs : List Piece). record { list = record { size = f.list.size; members = xs }; room = f.room }) (append_assoc f.list.members a b ∙ ap (λ (xs : List Piece). f.list.members ++ xs) e)
