-- What the vertices of a triangle on the screen say of its pieces.
use Rattle.std.proofs.Common.{◌≡◌, ◌≤◌, ℕ, pos, ◌<◌, List, [], Bool, true, false, cond, not, ◌&&◌, ◌||◌, Option, length, option_to_list, refl, sym, ap, ◌∙◌, arith}
use Rattle.std.specs.Prelude.{slice_index}
use Rattle.std.proofs.lemmas.Bool.{and_parts, or_parts}
use Rattle.std.proofs.lemmas.List.{get_or-map}
use Rattle.cull_base.specs.declared.clip.ClipVertex.{ClipVertex}
use Rattle.cull_base.specs.declared.scene_types.Tri.{Tri}
use Rattle.cull_base.specs.declared.triangle.Side.TheVariants.{Occluder}
use Rattle.cull_base.specs.declared.triangle.Winding.{Winding}
use Rattle.cull_base.specs.declared.nearness.Grade.{Grade}
use Rattle.cull_base.specs.Grade.{top_of}
use Rattle.cull_base.specs.Guard.{is_past_guard}
use Rattle.cull_base.specs.Piece.{Piece}
use Rattle.cull_base.specs.Screen.{Dimensions, IsSize}
use Rattle.near_clip.specs.NearPart.{is_in_front, whole}
use Rattle.near_clip.proofs.Reaches.{near_part-outside}
use Rattle.snap_setup.specs.declared.occluders.Occluders.{Occluders}
use Rattle.snap_setup.specs.declared.snapping.Snapped.{Snapped}
use Rattle.snap_setup.specs.declared.triangle.Corners.{Corners}
use Rattle.snap_setup.specs.declared.triangle.ScreenCorners.{ScreenCorners}
use Rattle.snap_setup.specs.declared.vertices.ScreenVertex.{ScreenVertex}
use Rattle.snap_setup.specs.Corners.{pieces_of_corners}
use Rattle.snap_setup.specs.Pieces.{clip_at, HasClips, triangle, piece_if, is_any_past_guard, is_all_in_front}
use Rattle.snap_setup.specs.Snapping.{snapped, IsSnapped}
use Rattle.snap_setup.specs.Vertices.{nowhere, screen_vertex, screen_vertices, vertex_at, is_placed, are_all_placed, is_any_placed, is_any_past, AreCornersOf}
use Rattle.snap_setup.proofs.KeptPieces.{held, part_none, part_whole, whole_in_reach}
use Rattle.snap_setup.proofs.ValidPieces.{snapped_is}

not_past : (b : Bool) → not b ≡ true → b ≡ false
not_past true e = absurd (cc)
not_past false e = refl

behind : (front past : Bool) → past ≡ false → (front && not past) ≡ false → front ≡ false
behind true true e h = absurd (cc)
behind true false e h = h
behind false past e h = refl

-- a vertex on the screen as the code makes it
pub made_of : (v : ClipVertex) (top near : ℕ) (size : Dimensions) (at : Snapped) (placed past : Bool) → placed ≡ is_placed v near → past ≡ is_past_guard v near
    → at ≡ cond placed (snapped (whole v) top near size Occluder) nowhere → let s : ScreenVertex = record { at = at; placed = placed; past = past } in s ≡ screen_vertex v top near size
unfolding screen_vertex
made_of v top near size at placed past ep eq ea = rw (ea, ep, eq) refl

-- a vertex that has a place
pub record IsPlaced (v : ClipVertex) (top near : ℕ) (size : Dimensions) (s : ScreenVertex) : Type 0 where
  pub front : is_in_front v near ≡ true
  pub guarded : is_past_guard v near ≡ false
  pub place : s.at ≡ snapped (whole v) top near size Occluder
  pub within : IsSnapped s.at

module _ (v : ClipVertex) (grade : Grade) (near : ℕ) (size : Dimensions) (s : ScreenVertex) (is : s ≡ screen_vertex v (top_of grade) near size) where
  placed_is : s.placed ≡ is_placed v near
  unfolding screen_vertex
  placed_is = ap (λ (x : ScreenVertex). x.placed) is

  past_is : s.past ≡ is_past_guard v near
  unfolding screen_vertex
  past_is = ap (λ (x : ScreenVertex). x.past) is

  place_is : is_placed v near ≡ true → s.at ≡ snapped (whole v) (top_of grade) near size Occluder
  unfolding screen_vertex
  place_is e = ap (λ (x : ScreenVertex). x.at) is ∙ rw e refl

  is_there : IsSize size.width size.height → 1 ≤ near → near ≤ 1024 → s.placed ≡ true → IsPlaced v (top_of grade) near size s
  is_there valid least most e =
      let p = sym placed_is ∙ e in
      let (front, inside) = and_parts (is_in_front v near) (not (is_past_guard v near)) p in
      let guarded = not_past (is_past_guard v near) inside in
      let reach = whole_in_reach near v (whole v) refl guarded front in
      record {
        front = front;
        guarded = guarded;
        place = place_is p;
        within = rw (place_is p) (snapped_is (whole v) grade near size Occluder valid least most reach);
      }

  is_behind : s.past ≡ false → s.placed ≡ false → is_in_front v near ≡ false
  is_behind e h = behind (is_in_front v near) (is_past_guard v near) (sym past_is ∙ e) (sym placed_is ∙ h)

-- all have one
pub record ArePlaced (t : Corners) (top near : ℕ) (size : Dimensions) (c : ScreenCorners) : Type 0 where
  pub first : IsPlaced t.v0.now top near size c.v0.now
  pub second : IsPlaced t.v1.now top near size c.v1.now
  pub third : IsPlaced t.v2.now top near size c.v2.now

module _ (t : Corners) (grade : Grade) (near : ℕ) (size : Dimensions) (winding : Winding) (c : ScreenCorners) (of : AreCornersOf t (top_of grade) near size c) where
  pub are_placed : IsSize size.width size.height → 1 ≤ near → near ≤ 1024 → are_all_placed c ≡ true → ArePlaced t (top_of grade) near size c
  are_placed valid least most e =
      let (a, rest) = and_parts c.v0.now.placed (c.v1.now.placed && c.v2.now.placed) e in
      let (b, d) = and_parts c.v1.now.placed c.v2.now.placed rest in
      record {
        first = is_there t.v0.now grade near size c.v0.now of.first valid least most a;
        second = is_there t.v1.now grade near size c.v1.now of.second valid least most b;
        third = is_there t.v2.now grade near size c.v2.now of.third valid least most d;
      }

  pub past_guard_is : is_any_past c ≡ is_any_past_guard t.v0.now t.v1.now t.v2.now near
  past_guard_is =
      let a = past_is t.v0.now grade near size c.v0.now of.first in
      let b = past_is t.v1.now grade near size c.v1.now of.second in
      let d = past_is t.v2.now grade near size c.v2.now of.third in
      rw (a, b, d) refl

  -- such a triangle is its own polygon
  pub whole_of : (first : Option Piece) → ArePlaced t (top_of grade) near size c → first ≡ piece_if winding (triangle c.v0.now.at c.v1.now.at c.v2.now.at) → option_to_list first ≡ pieces_of_corners t (top_of grade) near size winding
  whole_of first p is =
      let a = p.first.front in let b = p.second.front in let d = p.third.front in
      let e = p.first.guarded in let f = p.second.guarded in let g = p.third.guarded in
      let fronts : is_all_in_front t.v0.now t.v1.now t.v2.now near ≡ true = rw (a, b, d) refl in
      let none_past : is_any_past_guard t.v0.now t.v1.now t.v2.now near ≡ false = rw (e, f, g) refl in
      held t.v0.now t.v1.now t.v2.now (top_of grade) near size winding Occluder (option_to_list first) none_past
      (part_whole t.v0.now t.v1.now t.v2.now (top_of grade) near size winding Occluder (whole t.v0.now) (whole t.v1.now) (whole t.v2.now) c.v0.now.at c.v1.now.at c.v2.now.at first
      fronts refl refl refl p.first.place p.second.place p.third.place is)

  -- one behind the near plane has none
  pub none_behind : is_any_past c ≡ false → is_any_placed c ≡ false → [] ≡ pieces_of_corners t (top_of grade) near size winding
  none_behind e h =
      let (a, ab) = or_parts c.v0.now.past (c.v1.now.past || c.v2.now.past) e in let (b, d) = or_parts c.v1.now.past c.v2.now.past ab in
      let (p, pq) = or_parts c.v0.now.placed (c.v1.now.placed || c.v2.now.placed) h in let (q, r) = or_parts c.v1.now.placed c.v2.now.placed pq in
      let outside = near_part-outside t.v0.now t.v1.now t.v2.now near (is_behind t.v0.now grade near size c.v0.now of.first a p) (is_behind t.v1.now grade near size c.v1.now of.second b q)
      (is_behind t.v2.now grade near size c.v2.now of.third d r) in
      held t.v0.now t.v1.now t.v2.now (top_of grade) near size winding Occluder [] (sym past_guard_is ∙ e)
      (part_none t.v0.now t.v1.now t.v2.now (top_of grade) near size winding Occluder [] (sym outside) refl)

-- a vertex looked up among all of a frame's
looked_up : (o : Occluders) (t : Tri) (k : ℕ) → slice_index t.0 k < length o.clips.now → vertex_at (screen_vertices o.clips.now (top_of o.grade) o.near.distance o.size) t k ≡ screen_vertex (clip_at o.clips.now t k) (top_of o.grade) o.near.distance o.size
looked_up o t k lt = get_or-map (λ v. screen_vertex v (top_of o.grade) o.near.distance o.size) o.clips.now (slice_index t.0 k) (record { x = pos 0; y = pos 0; w = pos 0 }) (record { at = nowhere; placed = false; past = false }) lt

-- the vertices that the code looked up are those of the corners that it looked up
pub corners_of : (o : Occluders) (t : Tri) (vertices : List ScreenVertex) (r : Corners) (c : ScreenCorners) → vertices ≡ screen_vertices o.clips.now (top_of o.grade) o.near.distance o.size → length t.0 ≡ 3 → HasClips (length o.clips.now) t
    → r.v0.now ≡ clip_at o.clips.now t 0 → r.v1.now ≡ clip_at o.clips.now t 1 → r.v2.now ≡ clip_at o.clips.now t 2
    → c.v0.now ≡ vertex_at vertices t 0 → c.v1.now ≡ vertex_at vertices t 1 → c.v2.now ≡ vertex_at vertices t 2 → AreCornersOf r (top_of o.grade) o.near.distance o.size c
corners_of o t vertices r c all three has e0 e1 e2 f0 f1 f2 =
    record {
      first = one 0 (omega (arith, three)) c.v0.now r.v0.now e0 f0;
      second = one 1 (omega (arith, three)) c.v1.now r.v1.now e1 f1;
      third = one 2 (omega (arith, three)) c.v2.now r.v2.now e2 f2;
    }
  where
    one : (k : ℕ) → k < length t.0 → (s : ScreenVertex) (v : ClipVertex) → v ≡ clip_at o.clips.now t k → s ≡ vertex_at vertices t k → s ≡ screen_vertex v (top_of o.grade) o.near.distance o.size
    one k lt s v e f = f ∙ ap (λ (vs : List ScreenVertex). vertex_at vs t k) all ∙ looked_up o t k (has k 0 lt) ∙ ap (λ (u : ClipVertex). screen_vertex u (top_of o.grade) o.near.distance o.size) (sym e)
