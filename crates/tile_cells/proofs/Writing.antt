-- A writer before its first member, and after one member more, with the words that it stores.
use Rattle.std.proofs.Common.{◌≡◌, ℕ, ◌+◌, ◌<◌, ◌≤◌, List, length, not, refl, sym, ap, ◌∙◌, subst, arith}
use Rattle.std.proofs.lemmas.List.Filters.{length-filter_both}
use Rattle.crossbeam_utils.specs.Seq.{cell_view}
use Rattle.cull_base.specs.Piece.{Piece, box_of}
use Rattle.cull_base.specs.Rectangle.{meets}
use Rattle.cull_base.specs.Screen.{Dimensions, tile_count_of, tile_place, tile_rect_of}
use Rattle.cull_base.specs.Tiles.{PieceList, tile_list}
use Rattle.cull_base.specs.declared.place.Tile.{Tile}
use Rattle.masked_update.specs.TileOf.{TileOf, empty_tile}
use Rattle.masked_update.specs.Taken.{IsMember, standing_at, taken_at}
use Rattle.masked_update.proofs.TileLists.{next_taken}
use Rattle.tile_cells.specs.declared.rule.View.{View}
use Rattle.tile_cells.specs.Words.{HoldsAt, IsTile, words_of}
use Rattle.tile_cells.specs.Rule.{writer}
use Rattle.tile_cells.specs.Passes.{Token, IsWriting, list_at, number_at, heard_at}
use Rattle.tile_cells.proofs.Opening.{holds_none, stands_at_none}

pub first_is : (tile : ℕ) (place : Tile) (size : Dimensions) (state : TileOf) (p : Token) (list : PieceList) → cell_view p ≡ writer list tile 0 0 → size ≡ list.size → tile < tile_count_of list.size
    → place ≡ tile_place size tile → length list.members ≤ 131072 → state ≡ empty_tile → IsWriting tile place size state p
first_is tile place size state p list is size_is on place_is few state_is =
    let l : list ≡ list_at p = sym (ap (λ (v : View). v.list) is) in
    let n : 0 ≡ number_at p = sym (ap (λ (v : View). v.number) is) in
    let h : 0 ≡ heard_at p = sym (ap (λ (v : View). v.heard) is) in
    let empty : state ≡ standing_at tile 0 list = state_is ∙ sym (stands_at_none tile list) in
    record {
      view = is ∙ (λ i. writer (l i) tile (n i) (h i));
      size_is = size_is ∙ ap (λ (z : PieceList). z.size) l;
      on_screen = subst (λ (z : Dimensions). tile < tile_count_of z) (sym size_is) on;
      place_is = place_is;
      few = subst (λ (z : PieceList). length z.members ≤ 131072) l few;
      within = omega (arith, n);
      state_is = empty ∙ (λ i. standing_at tile (n i) (l i));
      possible = subst IsTile (sym empty) (holds_none tile list).possible;
    }

-- a tile's list is no longer than the whole
own_few : (tile : ℕ) (list : PieceList) → length (tile_list tile list) ≤ length list.members
unfolding tile_list
own_few tile list =
    let parts = length-filter_both (λ (t : Piece). meets (box_of t) (tile_rect_of list.size tile)) (λ t. not (meets (box_of t) (tile_rect_of list.size tile))) (λ t. refl) list.members in
    omega (arith, parts)

module _ (tile : ℕ) (place : Tile) (size : Dimensions) (state : TileOf) (p : Token) (x : Piece) (w : IsWriting tile place size state p) (m : IsMember tile (number_at p) (list_at p) x) where
  pub few_taken : state.count < 131072
  few_taken =
      let lt = m.within in
      let own = own_few tile (list_at p) in
      let few = w.few in
      let count = ap (λ (t : TileOf). t.count) w.state_is in
      omega (arith, lt, own, few, count)

  pub next_state : (new : TileOf) → new ≡ taken_at size place x state → new ≡ standing_at tile (number_at p + 1) (list_at p)
  next_state new is =
      is
      ∙ (λ i. taken_at (w.size_is i) ((w.place_is ∙ ap (λ s. tile_place s tile) w.size_is) i) x (w.state_is i))
      ∙ next_taken tile (number_at p) (list_at p) x m

  pub next_holds : (new : TileOf) (stored : List ℕ) → new ≡ taken_at size place x state → stored ≡ words_of new → IsTile new → HoldsAt stored (cell_view p).tile (number_at p + 1) (list_at p)
  next_holds new stored is words_are possible =
      let lt = m.within in
      subst (λ t. HoldsAt stored t (number_at p + 1) (list_at p)) (sym (ap (λ (v : View). v.tile) w.view))
      (record { within = omega arith; possible = subst IsTile (next_state new is) possible; words_are = words_are ∙ ap words_of (next_state new is) })

  pub next_is : (new : TileOf) (q : Token) → new ≡ taken_at size place x state → IsTile new
      → cell_view q ≡ writer (list_at p) (cell_view p).tile (number_at p + 1) (heard_at p) → IsWriting tile place size new q
  next_is new q is possible stored =
      let l : list_at p ≡ list_at q = sym (ap (λ (v : View). v.list) stored) in
      let n : number_at p + 1 ≡ number_at q = sym (ap (λ (v : View). v.number) stored) in
      let h : heard_at p ≡ heard_at q = sym (ap (λ (v : View). v.heard) stored) in
      let lt = m.within in
      let same = ap (λ (v : View). v.tile) w.view in
      record {
        view = stored ∙ (λ i. writer (l i) (same i) (n i) (h i));
        size_is = w.size_is ∙ ap (λ (z : PieceList). z.size) l;
        on_screen = w.on_screen;
        place_is = w.place_is;
        few = subst (λ (z : PieceList). length z.members ≤ 131072) l w.few;
        within = subst (λ (z : PieceList × ℕ). z.1 ≤ length (tile_list tile z.0)) (λ i. (l i, n i)) (let le : number_at p + 1 ≤ length (tile_list tile (list_at p)) = omega arith in le);
        state_is = next_state new is ∙ (λ i. standing_at tile (n i) (l i));
        possible = possible;
      }
