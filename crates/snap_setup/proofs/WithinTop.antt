-- No piece is nearer than the top that its nearness is scaled by.
use Rattle.std.proofs.Common.{◌≡◌, ℕ, pos, ◌≤◌, max, List, [], ◌∷◌, map, take, drop, Bool, true, false, cond, int_lt, arith, refl}
use Rattle.std.specs.List.{All, Contains, flat_map}
use Rattle.std.proofs.lemmas.Bool.{or_parts}
use Rattle.std.proofs.lemmas.List.Elements.{All-append, All-contains, All-nil}
use Rattle.cull_base.specs.declared.clip.ClipVertex.{ClipVertex}
use Rattle.cull_base.specs.declared.scene_types.Batch.{Batch}
use Rattle.cull_base.specs.declared.scene_types.Tri.{Tri}
use Rattle.cull_base.specs.declared.triangle.Side.TheVariants.{Occluder}
use Rattle.cull_base.specs.declared.triangle.Winding.{Winding}
use Rattle.cull_base.specs.Depth.{greatest_nearness}
use Rattle.cull_base.specs.Piece.{Piece, doubled_area}
use Rattle.cull_base.specs.Screen.{Dimensions}
use Rattle.near_clip.specs.declared.hom_point.HomPoint.{HomPoint}
use Rattle.near_clip.specs.NearPart.{near_part}
use Rattle.near_clip.specs.Reach.{IsInReach}
use Rattle.near_clip.proofs.Guarded.{guarded}
use Rattle.near_clip.proofs.Reaches.{near_part_reaches}
use Rattle.snap_setup.specs.declared.snapping.Snapped.{Snapped}
use Rattle.snap_setup.specs.Batches.{list_of_batches}
use Rattle.snap_setup.specs.Pieces.{clip_at, exchanged, is_any_past_guard, kept_of, list_of_clips, pieces_at, pieces_of, snapped_part, triangle, triangles_of, turned}
use Rattle.snap_setup.specs.Snapping.{snapped}
use Rattle.snap_setup.proofs.KeptPieces.{kept_from}
use Rattle.snap_setup.proofs.Reached.{nearness_is}
use Rattle.snap_setup.proofs.ValidPieces.{kept_more, map_all}

abbrev IsUpTo : ℕ → Piece → Type 0
IsUpTo top t = greatest_nearness t ≤ top

abbrev IsSnappedUpTo : ℕ → Snapped → Type 0
IsSnappedUpTo top s = s.q ≤ top

-- a point in reach, as a vertex of an occluder
snapped_within : (p : HomPoint) (top near : ℕ) (size : Dimensions) → 1 ≤ near → near ≤ 1024 → IsInReach near p → IsSnappedUpTo top (snapped p top near size Occluder)
unfolding snapped
snapped_within p top near size some few r = let k = nearness_is top near p some few r in same _ _ k.down_is k.down_small
  where
    same : (a b : ℕ) → a ≡ b → a ≤ top → b ≤ top
    same a b e le = omega (arith, e, le)

triangle_within : (top : ℕ) (a b c : Snapped) → IsSnappedUpTo top a → IsSnappedUpTo top b → IsSnappedUpTo top c → IsUpTo top (triangle a b c)
triangle_within top a b c ha hb hc = most a.q b.q c.q ha hb hc
  where
    most : (x y z : ℕ) → x ≤ top → y ≤ top → z ≤ top → max x (max y z) ≤ top
    most x y z hx hy hz = omega (arith, hx, hy, hz)

turned_within : (top : ℕ) (a b c : Snapped) → IsSnappedUpTo top a → IsSnappedUpTo top b → IsSnappedUpTo top c → IsUpTo top (turned (triangle a b c))
turned_within top a b c ha hb hc = by (int_lt (doubled_area (triangle a b c)) (pos 0))
  where
    by : (n : Bool) → IsUpTo top (cond n (exchanged (triangle a b c)) (triangle a b c))
    by true = triangle_within top a c b ha hc hb
    by false = triangle_within top a b c ha hb hc

kept_within : (top : ℕ) (winding : Winding) (points : List Snapped) → All (IsSnappedUpTo top) points → All (IsUpTo top) (kept_from winding (triangles_of points))
kept_within top winding [] h = All-nil (IsUpTo top)
kept_within top winding (a ∷ []) h = All-nil (IsUpTo top)
kept_within top winding (a ∷ b ∷ []) h = All-nil (IsUpTo top)
kept_within top winding (a ∷ b ∷ c ∷ []) h =
    kept_more (IsUpTo top) winding (triangle a b c) [] (λ kept. turned_within top a b c (h 0 a (omega arith)) (h 1 a (omega arith)) (h 2 a (omega arith))) (All-nil (IsUpTo top))
kept_within top winding (a ∷ b ∷ c ∷ d ∷ []) h =
    kept_more (IsUpTo top) winding (triangle a b c) (triangle a c d ∷ []) (λ kept. turned_within top a b c (h 0 a (omega arith)) (h 1 a (omega arith)) (h 2 a (omega arith)))
    (kept_more (IsUpTo top) winding (triangle a c d) [] (λ kept. turned_within top a c d (h 0 a (omega arith)) (h 2 a (omega arith)) (h 3 a (omega arith))) (All-nil (IsUpTo top)))
kept_within top winding (a ∷ b ∷ c ∷ d ∷ e ∷ es) h = All-nil (IsUpTo top)

-- the pieces of a triangle
pieces_within : (v0 v1 v2 : ClipVertex) (top near : ℕ) (size : Dimensions) (winding : Winding) → 1 ≤ near → near ≤ 1024 → All (IsUpTo top) (pieces_of v0 v1 v2 top near size winding Occluder)
unfolding pieces_of kept_of snapped_part
pieces_within v0 v1 v2 top near size winding some few = by (is_any_past_guard v0 v1 v2 near) refl
  where
    by : (b : Bool) → is_any_past_guard v0 v1 v2 near ≡ b → All (IsUpTo top) (cond b [] (kept_from winding (triangles_of (map (λ p. snapped p top near size Occluder) (near_part v0 v1 v2 near)))))
    by true e = All-nil (IsUpTo top)
    by false e =
        let (g0, rest) = or_parts _ _ e in let (g1, g2) = or_parts _ _ rest in
        let reach = near_part_reaches v0 v1 v2 near few (guarded v0 near g0) (guarded v1 near g1) (guarded v2 near g2) in
        kept_within top winding _ (map_all (λ p. snapped p top near size Occluder) (IsInReach near) (IsSnappedUpTo top) (near_part v0 v1 v2 near) (λ p r. snapped_within p top near size some few r) reach)

-- those of some triangles, and batch by batch
clips_within : (clips : List ClipVertex) (tris : List Tri) (top near : ℕ) (size : Dimensions) (winding : Winding) → 1 ≤ near → near ≤ 1024 → All (IsUpTo top) (list_of_clips clips tris top near size winding)
unfolding list_of_clips
clips_within clips tris top near size winding some few = go tris
  where
    go : (ts : List Tri) → All (IsUpTo top) (flat_map (pieces_at clips top near size winding) ts)
    go [] = All-nil (IsUpTo top)
    go (t ∷ ts) =
        All-append (IsUpTo top) (pieces_at clips top near size winding t) (flat_map (pieces_at clips top near size winding) ts)
        (pieces_within (clip_at clips t 0) (clip_at clips t 1) (clip_at clips t 2) top near size winding some few) (go ts)

batches_within : (clips : List ClipVertex) (tris : List Tri) (top near : ℕ) (size : Dimensions) (batches : List Batch) → 1 ≤ near → near ≤ 1024 → All (IsUpTo top) (list_of_batches clips tris top near size batches)
unfolding list_of_batches
batches_within clips tris top near size [] some few = All-nil (IsUpTo top)
batches_within clips tris top near size (b ∷ batches) some few =
    All-append (IsUpTo top) (list_of_clips clips (take b.count tris) top near size b.winding) (list_of_batches clips (drop b.count tris) top near size batches)
    (clips_within clips (take b.count tris) top near size b.winding some few) (batches_within clips (drop b.count tris) top near size batches some few)

pub members_within : (clips : List ClipVertex) (tris : List Tri) (top near : ℕ) (size : Dimensions) (batches : List Batch) (t : Piece) → 1 ≤ near → near ≤ 1024
    → Contains (list_of_batches clips tris top near size batches) t → greatest_nearness t ≤ top
members_within clips tris top near size batches t some few has =
    All-contains (IsUpTo top) (list_of_batches clips tris top near size batches) t (batches_within clips tris top near size batches some few) has
