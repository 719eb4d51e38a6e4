-- The pieces that a snapped polygon keeps.
use Rattle.std.proofs.Common.{◌≡◌, ◌≤◌, ℕ, suc, List, [], ◌∷◌, ◌++◌, map, filter, length, get_or, Bool, true, false, not, cond, ◌&&◌, ◌||◌, Option, Some, None, option_to_list, inl, inr, ◌↔◌, append-nil, arith, refl, sym, ◌∙◌}
use Rattle.std.specs.List.{All}
use Rattle.std.proofs.lemmas.Bool.{and_parts}
use Rattle.std.proofs.lemmas.List.Elements.{All-nil, All-cons}
use Rattle.cull_base.specs.declared.clip.ClipVertex.{ClipVertex}
use Rattle.cull_base.specs.declared.triangle.Side.{Side}
use Rattle.cull_base.specs.declared.triangle.Winding.{Winding}
use Rattle.cull_base.specs.Screen.{Dimensions}
use Rattle.cull_base.specs.Guard.{is_past_guard}
use Rattle.cull_base.specs.Piece.{Piece}
use Rattle.near_clip.specs.declared.hom_point.HomPoint.{HomPoint}
use Rattle.near_clip.specs.NearPart.{near_part, is_in_front, whole}
use Rattle.near_clip.specs.Reach.{IsInReach}
use Rattle.near_clip.proofs.Guarded.{guarded}
use Rattle.near_clip.proofs.Reaches.{all_corners, near_part-outside, whole_reaches}
use Rattle.snap_setup.specs.declared.snapping.Snapped.{Snapped}
use Rattle.snap_setup.specs.Snapping.{snapped}
use Rattle.snap_setup.specs.Pieces.{triangle, triangles_of, piece_if, is_left_out, turned, kept_of, snapped_part, is_any_past_guard, is_all_in_front, pieces_of, GivesNone}

abbrev pub kept_from : Winding → List Piece → List Piece
kept_from winding ts = map turned (filter (λ t. not (is_left_out winding t)) ts)

pub kept_cons : (winding : Winding) (t : Piece) (ts : List Piece) → kept_from winding (t ∷ ts) ≡ option_to_list (piece_if winding t) ++ kept_from winding ts
kept_cons winding t ts =
    by_test (is_left_out winding t)
  where
    by_test : (b : Bool) → map turned (cond (not b) (t ∷ filter (λ t. not (is_left_out winding t)) ts) (filter (λ t. not (is_left_out winding t)) ts)) ≡ option_to_list (cond b None (Some (turned t))) ++ kept_from winding ts
    by_test true = refl
    by_test false = refl

-- lists by their length
pub list_none : {X : Type 0} (xs : List X) → length xs ≡ 0 → xs ≡ []
list_none [] e = refl
list_none (x ∷ xs) e = absurd (omega arith)

pub list_three : {X : Type 0} (xs : List X) (a b c : X) → length xs ≡ 3 → a ≡ get_or xs 0 a → b ≡ get_or xs 1 b → c ≡ get_or xs 2 c → xs ≡ a ∷ b ∷ c ∷ []
list_three [] a b c e ea eb ec = absurd (omega arith)
list_three (x ∷ []) a b c e ea eb ec = absurd (omega arith)
list_three (x ∷ y ∷ []) a b c e ea eb ec = absurd (omega arith)
list_three (x ∷ y ∷ z ∷ []) a b c e ea eb ec = cc
list_three (x ∷ y ∷ z ∷ w ∷ xs) a b c e ea eb ec = absurd (omega arith)

pub list_four : {X : Type 0} (xs : List X) (a b c d : X) → length xs ≡ 4 → a ≡ get_or xs 0 a → b ≡ get_or xs 1 b → c ≡ get_or xs 2 c → d ≡ get_or xs 3 d → xs ≡ a ∷ b ∷ c ∷ d ∷ []
list_four [] a b c d e ea eb ec ed = absurd (omega arith)
list_four (x ∷ []) a b c d e ea eb ec ed = absurd (omega arith)
list_four (x ∷ y ∷ []) a b c d e ea eb ec ed = absurd (omega arith)
list_four (x ∷ y ∷ z ∷ []) a b c d e ea eb ec ed = absurd (omega arith)
list_four (x ∷ y ∷ z ∷ w ∷ []) a b c d e ea eb ec ed = cc
list_four (x ∷ y ∷ z ∷ w ∷ v ∷ xs) a b c d e ea eb ec ed = absurd (omega arith)

pub part_none : (v0 v1 v2 : ClipVertex) (top near : ℕ) (size : Dimensions) (winding : Winding) (side : Side) (ps : List HomPoint) → ps ≡ near_part v0 v1 v2 near → length ps ≡ 0 →
    [] ≡ kept_of (snapped_part v0 v1 v2 top near size side) winding
unfolding kept_of snapped_part
part_none v0 v1 v2 top near size winding side ps e h = let n : near_part v0 v1 v2 near ≡ [] = sym e ∙ list_none ps h in rw n refl

pub part_three : (v0 v1 v2 : ClipVertex) (top near : ℕ) (size : Dimensions) (winding : Winding) (side : Side) (ps : List HomPoint) (p0 p1 p2 : HomPoint) (s0 s1 s2 : Snapped) (first : Option Piece) (r : List Piece) →
    ps ≡ near_part v0 v1 v2 near → length ps ≡ 3 → p0 ≡ get_or ps 0 p0 → p1 ≡ get_or ps 1 p1 → p2 ≡ get_or ps 2 p2 →
    s0 ≡ snapped p0 top near size side → s1 ≡ snapped p1 top near size side → s2 ≡ snapped p2 top near size side →
    first ≡ piece_if winding (triangle s0 s1 s2) → r ≡ option_to_list first ++ [] → r ≡ kept_of (snapped_part v0 v1 v2 top near size side) winding
unfolding kept_of snapped_part
part_three v0 v1 v2 top near size winding side ps p0 p1 p2 s0 s1 s2 first r e h e0 e1 e2 f0 f1 f2 ef er =
    let n : near_part v0 v1 v2 near ≡ p0 ∷ p1 ∷ p2 ∷ [] = sym e ∙ list_three ps p0 p1 p2 h e0 e1 e2 in
    let k = kept_cons winding (triangle s0 s1 s2) [] in
    rw (n, ← f0, ← f1, ← f2, k, er, ef) refl

pub part_four : (v0 v1 v2 : ClipVertex) (top near : ℕ) (size : Dimensions) (winding : Winding) (side : Side) (ps : List HomPoint) (p0 p1 p2 p3 : HomPoint) (s0 s1 s2 s3 : Snapped) (first second : Option Piece) (r : List Piece) →
    ps ≡ near_part v0 v1 v2 near → length ps ≡ 4 → p0 ≡ get_or ps 0 p0 → p1 ≡ get_or ps 1 p1 → p2 ≡ get_or ps 2 p2 → p3 ≡ get_or ps 3 p3 →
    s0 ≡ snapped p0 top near size side → s1 ≡ snapped p1 top near size side → s2 ≡ snapped p2 top near size side → s3 ≡ snapped p3 top near size side →
    first ≡ piece_if winding (triangle s0 s1 s2) → second ≡ piece_if winding (triangle s0 s2 s3) → r ≡ option_to_list first ++ option_to_list second → r ≡ kept_of (snapped_part v0 v1 v2 top near size side) winding
unfolding kept_of snapped_part
part_four v0 v1 v2 top near size winding side ps p0 p1 p2 p3 s0 s1 s2 s3 first second r e h e0 e1 e2 e3 f0 f1 f2 f3 ef es er =
    let n : near_part v0 v1 v2 near ≡ p0 ∷ p1 ∷ p2 ∷ p3 ∷ [] = sym e ∙ list_four ps p0 p1 p2 p3 h e0 e1 e2 e3 in
    let k = kept_cons winding (triangle s0 s1 s2) (triangle s0 s2 s3 ∷ []) in
    let l = kept_cons winding (triangle s0 s2 s3) [] in
    let z = append-nil (option_to_list (piece_if winding (triangle s0 s2 s3))) in
    rw (n, ← f0, ← f1, ← f2, ← f3, k, l, z, er, ef, es) refl

-- a triangle of which all vertices are in front
pub fronts : (v0 v1 v2 : ClipVertex) (near : ℕ) → is_all_in_front v0 v1 v2 near ≡ true → (is_in_front v0 near ≡ true) × (is_in_front v1 near ≡ true) × (is_in_front v2 near ≡ true)
fronts v0 v1 v2 near e =
    let (a, rest) = and_parts (is_in_front v0 near) (is_in_front v1 near && is_in_front v2 near) e in
    let (b, c) = and_parts (is_in_front v1 near) (is_in_front v2 near) rest in
    (a, b, c)

pub whole_in_reach : (near : ℕ) (v : ClipVertex) (p : HomPoint) → p ≡ whole v → is_past_guard v near ≡ false → is_in_front v near ≡ true → IsInReach near p
whole_in_reach near v p e g f = rw e (whole_reaches v near (guarded v near g) f)

pub part_whole : (v0 v1 v2 : ClipVertex) (top near : ℕ) (size : Dimensions) (winding : Winding) (side : Side) (p0 p1 p2 : HomPoint) (s0 s1 s2 : Snapped) (first : Option Piece) →
    is_all_in_front v0 v1 v2 near ≡ true → p0 ≡ whole v0 → p1 ≡ whole v1 → p2 ≡ whole v2 →
    s0 ≡ snapped p0 top near size side → s1 ≡ snapped p1 top near size side → s2 ≡ snapped p2 top near size side →
    first ≡ piece_if winding (triangle s0 s1 s2) → option_to_list first ≡ kept_of (snapped_part v0 v1 v2 top near size side) winding
unfolding near_part
part_whole v0 v1 v2 top near size winding side p0 p1 p2 s0 s1 s2 first e g0 g1 g2 f0 f1 f2 ef =
    let (a, b, c) = fronts v0 v1 v2 near e in
    let ps : p0 ∷ p1 ∷ p2 ∷ [] ≡ near_part v0 v1 v2 near = rw (a, b, c, g0, g1, g2) refl in
    sym (append-nil (option_to_list first)) ∙ part_three v0 v1 v2 top near size winding side (p0 ∷ p1 ∷ p2 ∷ []) p0 p1 p2 s0 s1 s2 first (option_to_list first ++ []) ps refl refl refl refl f0 f1 f2 ef refl

-- nothing is kept exactly where each triangle is left out
kept_nothing : (winding : Winding) (ts : List Piece) → kept_from winding ts ≡ [] → All (λ t. is_left_out winding t ≡ true) ts
kept_nothing winding [] e = All-nil _
kept_nothing winding (t ∷ ts) e = by_test (λ k. kept_nothing winding ts k) (is_left_out winding t) refl (sym (kept_cons winding t ts) ∙ e)
  where
    by_test : (kept_from winding ts ≡ [] → All (λ u. is_left_out winding u ≡ true) ts) → (b : Bool) → is_left_out winding t ≡ b → option_to_list (cond b None (Some (turned t))) ++ kept_from winding ts ≡ [] →
        All (λ u. is_left_out winding u ≡ true) (t ∷ ts)
    by_test rest true h k = All-cons (λ u. is_left_out winding u ≡ true) t ts h (rest k)
    by_test rest false h k = absurd (cc)

none_kept : (winding : Winding) (ts : List Piece) → All (λ t. is_left_out winding t ≡ true) ts → kept_from winding ts ≡ []
none_kept winding [] h = refl
none_kept winding (t ∷ ts) h =
    let l : is_left_out winding t ≡ true = h 0 t (omega arith) in
    kept_cons winding t ts ∙ rw l (none_kept winding ts (λ k d lt. h (suc k) d (omega arith)))

-- why a triangle gives no piece
gives_none : (v0 v1 v2 : ClipVertex) (top near : ℕ) (size : Dimensions) (winding : Winding) (side : Side) → (pieces_of v0 v1 v2 top near size winding side ≡ []) ↔ GivesNone v0 v1 v2 top near size winding side
unfolding pieces_of kept_of snapped_part
gives_none v0 v1 v2 top near size winding side = (to (is_any_past_guard v0 v1 v2 near) refl, from)
  where
    points : List Snapped
    points = map (λ p. snapped p top near size side) (near_part v0 v1 v2 near)

    to : (b : Bool) → is_any_past_guard v0 v1 v2 near ≡ b → cond b [] (kept_from winding (triangles_of points)) ≡ [] → GivesNone v0 v1 v2 top near size winding side
    to true h e = inl h
    to false h e = inr (inr (kept_nothing winding (triangles_of points) e))

    same : (b : Bool) (ts : List Piece) → ts ≡ [] → cond b [] ts ≡ []
    same true ts e = refl
    same false ts e = e

    from : GivesNone v0 v1 v2 top near size winding side → pieces_of v0 v1 v2 top near size winding side ≡ []
    from (inl h) = rw h refl
    from (inr (inl h)) = let e = near_part-outside v0 v1 v2 near h.0 h.1 h.2 in let ts : kept_from winding (triangles_of points) ≡ [] = rw e refl in same (is_any_past_guard v0 v1 v2 near) (kept_from winding (triangles_of points)) ts
    from (inr (inr h)) = same (is_any_past_guard v0 v1 v2 near) (kept_from winding (triangles_of points)) (none_kept winding (triangles_of points) h)

pub none_by : (v0 v1 v2 : ClipVertex) (top near : ℕ) (size : Dimensions) (winding : Winding) (side : Side) (r : List Piece) → r ≡ pieces_of v0 v1 v2 top near size winding side → (r ≡ []) ↔ GivesNone v0 v1 v2 top near size winding side
none_by v0 v1 v2 top near size winding side r e = let g = gives_none v0 v1 v2 top near size winding side in (λ h. g.0 (sym e ∙ h), λ h. e ∙ g.1 h)

-- what the two ways through `set_up` give
pub past : (v0 v1 v2 : ClipVertex) (top near : ℕ) (size : Dimensions) (winding : Winding) (side : Side) → is_any_past_guard v0 v1 v2 near ≡ true → [] ≡ pieces_of v0 v1 v2 top near size winding side
unfolding pieces_of
past v0 v1 v2 top near size winding side e = rw e refl

pub held : (v0 v1 v2 : ClipVertex) (top near : ℕ) (size : Dimensions) (winding : Winding) (side : Side) (r : List Piece) → is_any_past_guard v0 v1 v2 near ≡ false → r ≡ kept_of (snapped_part v0 v1 v2 top near size side) winding → r ≡ pieces_of v0 v1 v2 top near size winding side
unfolding pieces_of
held v0 v1 v2 top near size winding side r e h = rw e h

-- they are few
pub few : (r ps : List Piece) → r ≡ ps → length r ≤ 2 → length ps ≤ 2
few r ps e h = rw (← e) h

pub few_by_option : (first : Option Piece) → length (option_to_list first) ≤ 2
few_by_option None = omega arith
few_by_option (Some t) = omega arith

-- a triangle of which no vertex is past the guard
pub guards : (v0 v1 v2 : ClipVertex) (near : ℕ) → is_any_past_guard v0 v1 v2 near ≡ false → (is_past_guard v0 near ≡ false) × (is_past_guard v1 near ≡ false) × (is_past_guard v2 near ≡ false)
guards v0 v1 v2 near = none_of (is_past_guard v0 near) (is_past_guard v1 near) (is_past_guard v2 near)
  where
    none_of : (x y z : Bool) → (x || (y || z)) ≡ false → (x ≡ false) × (y ≡ false) × (z ≡ false)
    none_of true y z e = absurd (cc)
    none_of false true z e = absurd (cc)
    none_of false false true e = absurd (cc)
    none_of false false false e = (refl, refl, refl)

pub all_within_guard : (v0 v1 v2 : ClipVertex) (near : ℕ) → is_any_past_guard v0 v1 v2 near ≡ false → All (λ v. is_past_guard v near ≡ false) (v0 ∷ v1 ∷ v2 ∷ [])
all_within_guard v0 v1 v2 near h = let (a, b, c) = guards v0 v1 v2 near h in all_corners (λ v. is_past_guard v near ≡ false) (v0 ∷ v1 ∷ v2 ∷ []) refl a b c
