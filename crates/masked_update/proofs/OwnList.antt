-- A tile's own list gives the same states as the whole list.
use Rattle.std.proofs.Common.{◌≡◌, ◌<◌, ℕ, List, [], ◌∷◌, Bool, true, false, refl, ap, ◌∙◌, sym, length, arith}
use Rattle.std.specs.List.{fold, filter, Contains}
use Rattle.cull_base.specs.Piece.{Piece, box_of}
use Rattle.cull_base.specs.Rectangle.{meets}
use Rattle.cull_base.specs.Screen.{IsSize, tile_rect_of, tile_sub, is_on_screen}
use Rattle.cull_base.specs.State.{State, empty_state}
use Rattle.cull_base.specs.Fold.{step, after}
use Rattle.cull_base.specs.Tiles.{PieceList, ArePieces, tile_list}
use Rattle.masked_update.proofs.Best.{at_head, in_tail}
use Rattle.masked_update.proofs.Boxes.{step_outside}

pub fold-filter : (f : State → Piece → State) (p : Piece → Bool) (xs : List Piece) (s : State) → ((r : State) (t : Piece) → Contains xs t → p t ≡ false → f r t ≡ r) → fold f s (filter p xs) ≡ fold f s xs
fold-filter f p [] s stays = refl
fold-filter f p (x ∷ xs) s stays =
    let rest = λ (r : State). fold-filter f p xs r (λ q t m. stays q t (in_tail x t xs m)) in
    by (p x) refl (rest s) (rest (f s x))
  where
    by : (b : Bool) → p x ≡ b → fold f s (filter p xs) ≡ fold f s xs → fold f (f s x) (filter p xs) ≡ fold f (f s x) xs → fold f s (filter p (x ∷ xs)) ≡ fold f (f s x) xs
    by true e left taken = rw e taken
    by false e left taken = rw e (left ∙ ap (λ r. fold f r xs) (sym (stays s x (at_head x xs) e)))

pub after-tile_list : (list : PieceList) (tile j : ℕ) → (0 < length list.members → IsSize list.size.width list.size.height) → ArePieces list.members → j < 8
    → is_on_screen list.size (tile_sub list.size tile j) ≡ true → after (tile_sub list.size tile j) (tile_list tile list) ≡ after (tile_sub list.size tile j) list.members
unfolding after tile_list
after-tile_list list tile j sized all hj on =
    fold-filter (step (tile_sub list.size tile j)) (λ t. meets (box_of t) (tile_rect_of list.size tile)) list.members empty_state
    (λ s t m off. step_outside list.size tile j s t (sized (let lt = m.1 in omega (arith, lt))) (all t m) off hj on)
