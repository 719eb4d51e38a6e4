-- A tile after a list, one piece more at a time.
use Rattle.std.proofs.Common.{◌≡◌, ℕ, ◌+◌, ◌<◌, ◌≤◌, List, [], ◌∷◌, ◌++◌, length, take, get_or, Bool, true, false, not, cond, arith, refl, ap, ◌∙◌, sym, subst, replicate, add-one}
use Rattle.std.specs.List.{filter}
use Rattle.std.proofs.Math.Seq.{take-suc}
use Rattle.std.proofs.lemmas.List.{length-take-le, length_push, get_or-replicate, append-nil}
use Rattle.std.proofs.lemmas.List.Elements.{filter_more}
use Rattle.std.proofs.lemmas.List.Filters.{length-filter_both}
use Rattle.std.proofs.lemmas.List.FromFn.{length-map-range_with_len}
use Rattle.cull_base.specs.Piece.{Piece, IsPiece, box_of}
use Rattle.cull_base.specs.Rectangle.{meets}
use Rattle.cull_base.specs.Screen.{Dimensions, IsSize, tile_place, tile_rect_of, tile_sub, is_on_screen}
use Rattle.cull_base.specs.State.{State, empty_state}
use Rattle.cull_base.specs.Fold.{step, after, IsSound, IsLayered}
use Rattle.cull_base.specs.Tiles.{PieceList, ArePieces, tile_list, tile_after}
use Rattle.cull_base.specs.declared.place.Sub.{Sub}
use Rattle.masked_update.specs.TileOf.{TileOf, sub_at, empty_tile}
use Rattle.masked_update.specs.Merged.{merged_at, merged_by}
use Rattle.masked_update.specs.Taken.{taken_by, taken_where, tile_of, IsMember, MovesOn}
use Rattle.masked_update.specs.Drawn.{IsDrawn}
use Rattle.masked_update.specs.Canvas.{first_of, own_tile}
use Rattle.masked_update.proofs.Best.{pieces_more, reached_is_layered}
use Rattle.masked_update.proofs.Drawing.{after-none, after-more, after_is_reached, after_is_sound}
use Rattle.masked_update.proofs.Merging.{eight_of, one_of_eight}
use Rattle.masked_update.proofs.OwnList.{after-tile_list}

abbrev pub tile_with : List State → ℕ → TileOf
tile_with subs count = record { subs = subs; count = count }

-- a subtile after some pieces, which stays empty off the screen
state_at : Dimensions → ℕ → List Piece → ℕ → State
state_at size tile pieces j = cond (is_on_screen size (tile_sub size tile j)) (after (tile_sub size tile j) pieces) empty_state

pub none_taken : (size : Dimensions) (tile : ℕ) → tile_of size tile [] ≡ empty_tile
unfolding state_at
none_taken size tile = ap (λ s. tile_with s 0) (sym (eight_of (state_at size tile []) (replicate 8 empty_state) refl
    (λ j h. get_or-replicate 8 j empty_state empty_state h ∙ empty (is_on_screen size (tile_sub size tile j)) (tile_sub size tile j))))
  where
    empty : (b : Bool) (u : Sub) → empty_state ≡ cond b (after u []) empty_state
    empty true u = sym (after-none u)
    empty false u = refl

-- a tile that took some pieces takes one more
pub one_taken : (size : Dimensions) (tile : ℕ) (pieces : List Piece) (x : Piece) → taken_by size tile x (tile_of size tile pieces) ≡ tile_of size tile (pieces ++ x ∷ [])
unfolding merged_by state_at
one_taken size tile pieces x =
    ap (λ n. tile_with (merged_by size (tile_place size tile) x subs) n) (sym (length_push pieces x))
    ∙ ap (λ s. tile_with s (length (pieces ++ x ∷ []))) (eight_of (state_at size tile (pieces ++ x ∷ [])) (merged_by size (tile_place size tile) x subs) (length-map-range_with_len (merged_at size (tile_place size tile) x subs) 0 8)
    (λ j h. one_of_eight (merged_at size (tile_place size tile) x subs) j h ∙ ap (λ s. cond (is_on_screen size (tile_sub size tile j)) (step (tile_sub size tile j) s x) s) (one_of_eight (state_at size tile pieces) j h) ∙ more (is_on_screen size (tile_sub size tile j)) (tile_sub size tile j)))
  where
    subs : List State
    subs = tile_after size tile pieces

    more : (b : Bool) (u : Sub) → let s = cond b (after u pieces) empty_state in cond b (step u s x) s ≡ cond b (after u (pieces ++ x ∷ [])) empty_state
    more true u = sym (after-more u pieces x)
    more false u = refl

-- the next member of a tile's list
pub next_taken : (tile k : ℕ) (list : PieceList) (x : Piece) → IsMember tile k list x → MovesOn tile k list x
next_taken tile k list x m =
    let own = tile_list tile list in
    let lt = m.within in
    let now : length (take k own) ≡ k = length-take-le k own (omega arith) in
    let more : take k own ++ x ∷ [] ≡ take (k + 1) own = ap (λ y. take k own ++ y ∷ []) (sym m.is) ∙ sym (take-suc own k x lt) ∙ ap (λ n. take n own) (sym (add-one k)) in
    let counted : length (take (k + 1) own) ≡ k + 1 = length-take-le (k + 1) own (omega arith) in
    ap (λ n. taken_by list.size tile x (tile_with (tile_after list.size tile (take k own)) n)) (sym now)
    ∙ one_taken list.size tile (take k own) x ∙ ap (tile_of list.size tile) more ∙ ap (tile_with (tile_after list.size tile (take (k + 1) own))) counted

pub none_listed : (list : PieceList) (tile : ℕ) → own_tile (first_of 0 list) tile ≡ empty_tile
unfolding tile_list
none_listed list tile = none_taken list.size tile

-- a tile counts at most the pieces that came
pub few : (list : PieceList) (tile i : ℕ) → i ≤ length list.members → (own_tile (first_of i list) tile).count ≤ i
unfolding tile_list
few list tile i le =
    let p : Piece → Bool = λ t. meets (box_of t) (tile_rect_of list.size tile) in
    let parts = length-filter_both p (λ t. not (p t)) (λ t. refl) (take i list.members) in
    let len = length-take-le i list.members le in
    omega (arith, parts, len)

-- one more piece, which the tile takes where its box meets the tile
pub list_more : (list : PieceList) (tile i : ℕ) (x : Piece) → i < length list.members → get_or list.members i x ≡ x
    → own_tile (first_of (i + 1) list) tile ≡ taken_where (meets (box_of x) (tile_rect_of list.size tile)) list.size tile x (own_tile (first_of i list) tile)
unfolding tile_list
list_more list tile i x lt is =
    let p : Piece → Bool = λ t. meets (box_of t) (tile_rect_of list.size tile) in
    let more = filter_more p list.members i x lt ∙ ap (λ y. filter p (take i list.members) ++ cond (p y) (y ∷ []) []) is in
    ap (tile_of list.size tile) more ∙ by (p x) (filter p (take i list.members))
  where
    by : (b : Bool) (pieces : List Piece) → tile_of list.size tile (pieces ++ cond b (x ∷ []) []) ≡ taken_where b list.size tile x (tile_of list.size tile pieces)
    by true pieces = sym (one_taken list.size tile pieces x)
    by false pieces = ap (tile_of list.size tile) (append-nil pieces)

-- the first members are pieces, one more at a time
pub pieces_next : (list : PieceList) (i : ℕ) (x : Piece) → i < length list.members → get_or list.members i x ≡ x → IsPiece x → ArePieces (take i list.members) → ArePieces (take (i + 1) list.members)
pieces_next list i x lt is piece all =
    let more : take (i + 1) list.members ≡ take i list.members ++ x ∷ [] = ap (λ n. take n list.members) (add-one i) ∙ take-suc list.members i x lt ∙ ap (λ y. take i list.members ++ y ∷ []) is in
    subst ArePieces (sym more) (pieces_more (take i list.members) x all piece)

-- all members are the list's
pub own_whole : (list : PieceList) (tile i : ℕ) → take i list.members ≡ list.members → own_tile (first_of i list) tile ≡ own_tile list tile
own_whole list tile i whole = ap (λ (pieces : List Piece). own_tile (record { size = list.size; members = pieces }) tile) whole

-- a tile that took its own list is drawn
pub drawn_of : (list : PieceList) (tile : ℕ) (t : TileOf) → t ≡ own_tile list tile → ArePieces list.members → (0 < length list.members → IsSize list.size.width list.size.height) → IsDrawn list tile t
unfolding state_at
drawn_of list tile t e all sized = subst (IsDrawn list tile) (sym e) (record {
  states = eight_of (state_at list.size tile list.members) (own_tile list tile).subs (length-map-range_with_len (state_at list.size tile (tile_list tile list)) 0 8)
      (λ j h. one_of_eight (state_at list.size tile (tile_list tile list)) j h ∙ same (is_on_screen list.size (tile_sub list.size tile j)) j h refl);
  count = refl;
  sound = λ j h on. subst (IsSound (tile_sub list.size tile j) list.members) (sym (at_on j h on)) (after_is_sound (tile_sub list.size tile j) list.members all);
  layered = λ j h on. subst IsLayered (sym (at_on j h on)) (reached_is_layered (tile_sub list.size tile j) list.members (after (tile_sub list.size tile j) list.members) (after_is_reached (tile_sub list.size tile j) list.members all));
  own_list = λ j h on. after-tile_list list tile j sized all h on;
})
  where
    same : (b : Bool) (j : ℕ) → j < 8 → is_on_screen list.size (tile_sub list.size tile j) ≡ b
        → cond b (after (tile_sub list.size tile j) (tile_list tile list)) empty_state ≡ cond b (after (tile_sub list.size tile j) list.members) empty_state
    same true j h on = after-tile_list list tile j sized all h on
    same false j h off = refl

    at_on : (j : ℕ) → j < 8 → is_on_screen list.size (tile_sub list.size tile j) ≡ true → sub_at (own_tile list tile) j ≡ after (tile_sub list.size tile j) list.members
    at_on j h on = one_of_eight (state_at list.size tile (tile_list tile list)) j h ∙ ap (λ b. cond b (after (tile_sub list.size tile j) (tile_list tile list)) empty_state) on ∙ after-tile_list list tile j sized all h on
