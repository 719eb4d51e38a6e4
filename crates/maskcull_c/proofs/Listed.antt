-- Pieces that are written into room of the caller's: none, one, some and then others, and those of one triangle more.
use Rattle.std.proofs.Common.{◌≡◌, inl, inr, ℕ, ◌+◌, ◌-◌, ◌*◌, ◌<◌, ◌≤◌, List, [], ◌∷◌, ◌++◌, length, get_or, map, set, take, arith, refl, ap, ◌∙◌, sym}
use Rattle.std.proofs.lemmas.Bool.{cases_lt}
use Rattle.std.proofs.lemmas.List.{get_or-append_right, get_or-map, get_or-set_other, get_or-set_same, get_or_append_left, length-append, length-map, length-set, length-take-le}
use Rattle.cull_base.specs.declared.clip.ClipVertex.{ClipVertex}
use Rattle.cull_base.specs.declared.scene_types.Tri.{Tri}
use Rattle.cull_base.specs.declared.triangle.Side.TheVariants.{Occluder}
use Rattle.cull_base.specs.declared.triangle.Winding.{Winding}
use Rattle.cull_base.specs.Piece.{Piece, IsPiece}
use Rattle.cull_base.specs.Screen.{Dimensions}
use Rattle.near_clip.specs.NearPart.{corner}
use Rattle.masked_update.proofs.Best.{pieces_more}
use Rattle.snap_setup.specs.Pieces.{clip_at, list_of_clips, pieces_at, pieces_of}
use Rattle.snap_setup.proofs.FrameLists.{by_corners, list_more, list_most}
use Rattle.maskcull_c.specs.declared.given.Triangle.{Triangle}
use Rattle.maskcull_c.specs.declared.pieces.PieceRoom.{PieceRoom}
use Rattle.maskcull_c.specs.Given.{tri_of}
use Rattle.maskcull_c.specs.Pieces.{AreListed, no_piece, no_room, piece_at, piece_in, room_at}
use Rattle.maskcull_c.proofs.Merged.{pieces_both}

-- no piece is written
pub listed_none : (at : ℕ) (rooms : List PieceRoom) → at ≤ length rooms → AreListed at [] rooms rooms
listed_none at rooms le = record {
  whole = refl;
  within = omega (arith, le);
  listed = λ k lt. absurd (omega (arith, lt));
  before = λ i below. refl;
  behind = λ i past. refl;
  valid = λ t m. absurd (let lt = m.1 in omega (arith, lt));
}

-- one is
pub listed_one : (at : ℕ) (x : Piece) (r : PieceRoom) (rooms : List PieceRoom) → at < length rooms → piece_in r ≡ x → IsPiece x → AreListed at (x ∷ []) rooms (set rooms at r)
listed_one at x r rooms lt is piece = record {
  whole = length-set rooms at r;
  within = omega (arith, lt);
  listed = λ k one.
      let here : at + k ≡ at = omega (arith, one) in
      let first : k ≡ 0 = omega (arith, one) in
      ap (λ n. piece_in (room_at (set rooms at r) n)) here ∙ ap piece_in (get_or-set_same rooms at r no_room lt) ∙ is ∙ ap (piece_at (x ∷ [])) (sym first);
  before = λ i below. get_or-set_other rooms at i r no_room (λ e. omega (arith, e, below));
  behind = λ i past. get_or-set_other rooms at i r no_room (λ e. omega (arith, e, past));
  valid = pieces_more [] x (λ t m. absurd (let lt = m.1 in omega (arith, lt))) piece;
}

-- some are, and then others behind them
pub listed_then : (at : ℕ) (ps qs : List Piece) (old mid new : List PieceRoom) → AreListed at ps old mid → AreListed (at + length ps) qs mid new → AreListed at (ps ++ qs) old new
listed_then at ps qs old mid new a b = record {
  whole = b.whole ∙ a.whole;
  within = let w = b.within in let same = a.whole in let both = length-append ps qs in omega (arith, w, same, both);
  listed = λ k lt. elim (cases_lt k (length ps)) [
    | inl first ↦ ap piece_in (b.before (at + k) (omega (arith, first))) ∙ a.listed k first ∙ sym (get_or_append_left ps qs no_piece k first)
    | inr past ↦
        let place : at + k ≡ at + length ps + (k - length ps) = omega (arith, past) in
        let both = length-append ps qs in
        ap (λ n. piece_in (room_at new n)) place ∙ b.listed (k - length ps) (omega (arith, past, lt, both)) ∙ sym (get_or-append_right ps qs (length ps) k no_piece refl past)
  ];
  before = λ i below. b.before i (omega (arith, below)) ∙ a.before i below;
  behind = λ i past. let both = length-append ps qs in b.behind i (omega (arith, past, both)) ∙ a.behind i (omega (arith, past, both));
  valid = pieces_both ps qs a.valid b.valid;
}

-- the pieces of one triangle more, by the vertices that were looked up
pub more_pieces : (clips : List ClipVertex) (triangles : List Triangle) (top near : ℕ) (size : Dimensions) (winding : Winding) (i : ℕ) (d : Triangle) (v : List ClipVertex) (ps : List Piece) → i < length triangles
    → corner v 0 ≡ clip_at clips (tri_of (get_or triangles i d)) 0 → corner v 1 ≡ clip_at clips (tri_of (get_or triangles i d)) 1 → corner v 2 ≡ clip_at clips (tri_of (get_or triangles i d)) 2
    → ps ≡ pieces_of (corner v 0) (corner v 1) (corner v 2) top near size winding Occluder
    → list_of_clips clips (take i (map tri_of triangles)) top near size winding ++ ps ≡ list_of_clips clips (take (i + 1) (map tri_of triangles)) top near size winding
more_pieces clips triangles top near size winding i d v ps below e0 e1 e2 is =
    let tris = map tri_of triangles in
    let none : Tri = record { 0 = [] } in
    let lt : i < length tris = omega (arith, below, length-map triangles tri_of) in
    let at : get_or tris i none ≡ tri_of (get_or triangles i d) = get_or-map tri_of triangles i d none below in
    let these : ps ≡ pieces_at clips top near size winding (get_or tris i none)
    = is ∙ by_corners clips (corner v 0) (corner v 1) (corner v 2) top near size winding (tri_of (get_or triangles i d)) e0 e1 e2
    ∙ ap (λ (t : Tri). pieces_at clips top near size winding t) (sym at) in
    list_more clips tris top near size winding i none (list_of_clips clips (take i tris) top near size winding) ps lt refl these

-- so many triangles have at most two pieces each
pub most_pieces : (clips : List ClipVertex) (triangles : List Triangle) (top near : ℕ) (size : Dimensions) (winding : Winding) (n : ℕ) → n ≤ length triangles → length (list_of_clips clips (take n (map tri_of triangles)) top near size winding) ≤ 2 * n
most_pieces clips triangles top near size winding n le =
    let tris = map tri_of triangles in
    let long : length (take n tris) ≡ n = length-take-le n tris (omega (arith, le, length-map triangles tri_of)) in
    let most = list_most clips (take n tris) top near size winding in
    omega (arith, long, most)

-- the pieces under other names of the top, the screen, the near distance and the winding
pub pieces_as : (clips : List ClipVertex) (tris : List Tri) (top top' : ℕ) (size size' : Dimensions) (near near' : ℕ) (winding winding' : Winding) → top ≡ top' → size ≡ size' → near ≡ near' → winding ≡ winding'
    → list_of_clips clips tris top near size winding ≡ list_of_clips clips tris top' near' size' winding'
pieces_as clips tris top top' size size' near near' winding winding' tops sizes nears windings = rw (tops, sizes, nears, windings) refl
