-- The members of a tile's list among the first of a frame's.
use Rattle.std.proofs.Common.{◌≡◌, ℕ, zero, suc, ◌+◌, ◌<◌, List, [], ◌∷◌, ◌++◌, Bool, true, false, cond, take, get_or, length, refl, ap, ◌∙◌, arith, append-nil, length-append}
use Rattle.std.specs.List.{filter}
use Rattle.std.proofs.lemmas.List.Elements.{filter_more}
use Rattle.cull_base.specs.Piece.{Piece, box_of}
use Rattle.cull_base.specs.Rectangle.{meets}
use Rattle.cull_base.specs.Screen.{tile_rect_of}
use Rattle.cull_base.specs.Tiles.{PieceList, tile_list}
use Rattle.masked_update.specs.Taken.{IsMember}
use Rattle.tile_cells.specs.Standing.{rank}

-- the member of a filtered list that stands where so many were before it
filter_at : (p : Piece → Bool) (xs : List Piece) (i : ℕ) (x : Piece) → i < length xs → get_or xs i x ≡ x → p x ≡ true
    → (length (filter p (take i xs)) < length (filter p xs)) × (get_or (filter p xs) (length (filter p (take i xs))) x ≡ x)
filter_at p [] i x lt is met = absurd (omega arith)
filter_at p (y ∷ ys) zero x lt is met = rw (is, met) (omega arith, refl)
filter_at p (y ∷ ys) (suc i) x lt is met = by (p y) refl (filter_at p ys i x (omega arith) is met)
  where
    by : (b : Bool) → p y ≡ b → (length (filter p (take i ys)) < length (filter p ys)) × (get_or (filter p ys) (length (filter p (take i ys))) x ≡ x)
        → (length (filter p (take (suc i) (y ∷ ys))) < length (filter p (y ∷ ys))) × (get_or (filter p (y ∷ ys)) (length (filter p (take (suc i) (y ∷ ys)))) x ≡ x)
    by true e r = rw e (let lt = r.0 in omega arith, r.1)
    by false e r = rw e r

module _ (tile : ℕ) (list : PieceList) (i : ℕ) (x : Piece) (lt : i < length list.members) (is : get_or list.members i x ≡ x) where
  pub is_member : meets (box_of x) (tile_rect_of list.size tile) ≡ true → IsMember tile (rank tile list i) list x
  unfolding tile_list
  is_member met = let f = filter_at (λ t. meets (box_of t) (tile_rect_of list.size tile)) list.members i x lt is met in record { within = f.0; is = f.1 }

  pub rank_met : meets (box_of x) (tile_rect_of list.size tile) ≡ true → rank tile list (i + 1) ≡ rank tile list i + 1
  unfolding tile_list
  rank_met met =
      let p : Piece → Bool = λ t. meets (box_of t) (tile_rect_of list.size tile) in
      let more = filter_more p list.members i x lt in
      ap length (more ∙ ap (λ y. filter p (take i list.members) ++ cond (p y) (y ∷ []) []) is ∙ ap (λ b. filter p (take i list.members) ++ cond b (x ∷ []) []) met) ∙ length-append (filter p (take i list.members)) (x ∷ [])

  pub rank_missed : meets (box_of x) (tile_rect_of list.size tile) ≡ false → rank tile list (i + 1) ≡ rank tile list i
  unfolding tile_list
  rank_missed missed =
      let p : Piece → Bool = λ t. meets (box_of t) (tile_rect_of list.size tile) in
      let more = filter_more p list.members i x lt in
      ap length (more ∙ ap (λ y. filter p (take i list.members) ++ cond (p y) (y ∷ []) []) is ∙ ap (λ b. filter p (take i list.members) ++ cond b (x ∷ []) []) missed ∙ append-nil (filter p (take i list.members)))
