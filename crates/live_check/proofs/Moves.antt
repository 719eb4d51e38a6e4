-- Tiles that move forward along a frame's list.
use Rattle.std.proofs.Common.{◌≡◌, ℕ, suc, ◌+◌, ◌<◌, ◌≤◌, Bool, true, false, cond, List, [], ◌∷◌, ◌++◌, length, take, get_or, filter, arith, refl, sym, ap, ◌∙◌}
use Rattle.std.proofs.Math.Seq.{take-length}
use Rattle.std.proofs.lemmas.List.{length-append, take_more}
use Rattle.std.proofs.lemmas.List.Elements.{filter-append}
use Rattle.cull_base.specs.Piece.{Piece, box_of}
use Rattle.cull_base.specs.Rectangle.{meets}
use Rattle.cull_base.specs.Screen.{tile_rect_of}
use Rattle.cull_base.specs.Tiles.{PieceList, tile_list}
use Rattle.masked_update.specs.Taken.{standing_at}
use Rattle.masked_update.specs.TileOf.{empty_tile}
use Rattle.masked_update.proofs.TileLists.{none_taken}
use Rattle.live_check.specs.Standing.{StandsBehind, met_before}

-- some members fewer are kept
kept_within : (p : Piece → Bool) (xs : List Piece) → length (filter p xs) ≤ length xs
kept_within p [] = omega arith
kept_within p (x ∷ xs) = by (kept_within p xs) (p x) refl
  where
    by : length (filter p xs) ≤ length xs → (b : Bool) → p x ≡ b → length (cond (p x) (x ∷ filter p xs) (filter p xs)) ≤ suc (length xs)
    by rest true e = rw e (omega (arith, rest))
    by rest false e = rw e (omega (arith, rest))

pub own_within : (t : ℕ) (list : PieceList) → length (tile_list t list) ≤ length list.members
unfolding tile_list
own_within t list = kept_within (λ (x : Piece). meets (box_of x) (tile_rect_of list.size t)) list.members

-- ---- how many of the first members meet a tile

-- one member more, if it meets the tile
pub met_more : (list : PieceList) (t place : ℕ) (x : Piece) → place < length list.members → get_or list.members place x ≡ x
    → met_before list t (place + 1) ≡ met_before list t place + cond (meets (box_of x) (tile_rect_of list.size t)) 1 0
unfolding tile_list
met_more list t place x lt is =
    let p : Piece → Bool = λ (y : Piece). meets (box_of y) (tile_rect_of list.size t) in
    let more : take (place + 1) list.members ≡ take place list.members ++ x ∷ [] = take_more list.members place x lt ∙ ap (λ (y : Piece). take place list.members ++ y ∷ []) is in
    ap (λ (ys : List Piece). length (filter p ys)) more ∙ ap length (filter-append p (take place list.members) (x ∷ []))
    ∙ length-append (filter p (take place list.members)) (filter p (x ∷ [])) ∙ ap (λ (n : ℕ). length (filter p (take place list.members)) + n) (one (p x) refl)
  where
    one : (b : Bool) → meets (box_of x) (tile_rect_of list.size t) ≡ b
        → length (cond (meets (box_of x) (tile_rect_of list.size t)) (x ∷ []) []) ≡ cond (meets (box_of x) (tile_rect_of list.size t)) 1 0
    one true e = rw e refl
    one false e = rw e refl

pub met_none : (list : PieceList) (t : ℕ) → met_before list t 0 ≡ 0
unfolding tile_list
met_none list t = refl

pub met_all : (list : PieceList) (t : ℕ) → met_before list t (length list.members) ≡ length (tile_list t list)
met_all list t = ap (λ (ms : List Piece). length (tile_list t (record { size = list.size; members = ms }))) (take-length list.members)

-- ---- an empty tile stands before all members

pub stands_none : (list : PieceList) (t : ℕ) → StandsBehind list t 0 empty_tile
stands_none list t = record {
  within = omega arith;
  state = sym (none_taken list.size t) ∙ ap (λ (n : ℕ). standing_at t n list) (sym (met_none list t));
}
