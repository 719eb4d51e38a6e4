-- The state of a pixel's subtile among those of tiles that took pieces.
use Rattle.std.proofs.Common.{◌≡◌, ℕ, ◌/◌, ◌<◌, cond, arith, refl, ap, ◌∙◌, subst, List, get_or}
use Rattle.std.proofs.lemmas.List.FromFn.{get_or-map-range_with_len}
use Rattle.cull_base.specs.declared.place.Sub.{Sub}
use Rattle.cull_base.specs.Screen.{Dimensions, IsSize, tile_columns_of, tile_count_of, tile_sub, is_on_screen}
use Rattle.cull_base.specs.Piece.{Piece}
use Rattle.cull_base.specs.State.{State, empty_state}
use Rattle.cull_base.specs.Fold.{after}
use Rattle.cull_base.specs.Tiles.{PieceList, ArePieces, tile_list, tile_after}
use Rattle.cull_base.specs.Pixels.{sub_of_pixel, tile_of_pixel}
use Rattle.cull_base.proofs.Pixels.{on_screen, place_in_tile, sub_is, tile_is, tile_of_pixel-is}
use Rattle.masked_update.proofs.OwnList.{after-tile_list}
use Rattle.masked_update.specs.TileOf.{TileOf, sub_at}
use Rattle.masked_update.specs.Views.{state_in}
use Rattle.cull_report.proofs.Agreement.{Agrees}

-- after the list of a pixel's tile its subtile is as after the whole list
pub own_list_at : (list : PieceList) (px py : ℕ) → IsSize list.size.width list.size.height → ArePieces list.members → px < list.size.width → py < list.size.height
    → after (sub_of_pixel px py) (tile_list (tile_of_pixel list.size px py) list) ≡ after (sub_of_pixel px py) list.members
own_list_at list px py sized all x y =
    let t = tile_of_pixel list.size px py in
    let is = sub_is list.size px py x y in
    subst (λ (u : Sub). after u (tile_list t list) ≡ after u list.members) is
    (after-tile_list list t (place_in_tile px py) (λ some. sized) all (omega arith) (ap (is_on_screen list.size) is ∙ on_screen list.size px py x y))

pub state_after : (size : Dimensions) (tile_of : ℕ → TileOf) (pieces : List Piece) (px py : ℕ) → px < size.width → py < size.height
    → (tile_of (tile_of_pixel size px py)).subs ≡ tile_after size (tile_of_pixel size px py) pieces → state_in size tile_of (sub_of_pixel px py) ≡ after (sub_of_pixel px py) pieces
state_after size tile_of pieces px py x y drawn =
    let t = tile_of_pixel size px py in let j = place_in_tile px py in
    let number = tile_is px py (py / 8) (px / 32) (tile_columns_of size) (tile_columns_of size) refl refl refl in
    let one = get_or-map-range_with_len (λ k. let u = tile_sub size t k in cond (is_on_screen size u) (after u pieces) empty_state) 0 8 j j empty_state (omega arith) (omega arith) in
    let sub = sub_is size px py x y in let on = on_screen size px py x y in
    ap (λ (n : ℕ). sub_at (tile_of n) j) number ∙ ap (λ (subs : List State). get_or subs j empty_state) drawn ∙ one
    ∙ ap (λ (u : Sub). cond (is_on_screen size u) (after u pieces) empty_state) sub ∙ ap (λ b. cond b (after (sub_of_pixel px py) pieces) empty_state) on

-- tiles that took a list hold at each pixel of the screen the state after it
pub drawn_agrees : (size : Dimensions) (pieces : List Piece) (tile_of : ℕ → TileOf) → ((t : ℕ) → t < tile_count_of size → (tile_of t).subs ≡ tile_after size t pieces) → Agrees size (state_in size tile_of) (λ u. after u pieces)
drawn_agrees size pieces tile_of drawn px py x y = state_after size tile_of pieces px py x y (drawn (tile_of_pixel size px py) (tile_of_pixel-is size px py x y).within)
