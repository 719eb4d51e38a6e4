-- An empty tile, and its words.
use Rattle.std.proofs.Common.{◌≡◌, ℕ, ◌+◌, ◌*◌, ◌^◌, [], ◌∷◌, refl, sym, ap, ◌∙◌, subst, arith}
use Rattle.std.proofs.lemmas.List.{get_or-replicate}
use Rattle.cull_base.specs.State.{empty_state}
use Rattle.cull_base.specs.Tiles.{PieceList}
use Rattle.masked_update.specs.Packing.{IsSubTile, packed, packed_layers, packed_mask}
use Rattle.masked_update.specs.TileOf.{empty_tile}
use Rattle.masked_update.specs.Taken.{standing_at}
use Rattle.masked_update.proofs.Packed.{layers_are, packed_seen}
use Rattle.masked_update.proofs.Steps.{filled_layers}
use Rattle.masked_update.proofs.TileLists.{none_taken}
use Rattle.tile_cells.specs.Words.{IsTile, words_of, no_words, HoldsAt}

pub stands_at_none : (tile : ℕ) (list : PieceList) → standing_at tile 0 list ≡ empty_tile
stands_at_none tile list = none_taken list.size tile

empty_subtile : IsSubTile empty_state
empty_subtile = layers_are 0 0 0 empty_state refl (filled_layers 0 (omega arith))

empty_packed : packed empty_state ≡ (0, 0)
empty_packed = packed_seen 0 0 0 (omega arith)

empty_is : IsTile empty_tile
empty_is = record { eight = refl; subtiles = λ j h. subst IsSubTile (sym (get_or-replicate 8 j empty_state empty_state h)) empty_subtile; count = omega arith }

empty_words : words_of empty_tile ≡ no_words
empty_words =
    let l : packed_layers empty_state ≡ 0 = ap (λ (p : ℕ × ℕ). p.0) empty_packed in
    let m : packed_mask empty_state + 2 ^ 32 * packed_mask empty_state ≡ 0 = ap (λ (p : ℕ × ℕ). p.1 + 2 ^ 32 * p.1) empty_packed in
    λ i. 0 ∷ l i ∷ l i ∷ l i ∷ l i ∷ l i ∷ l i ∷ l i ∷ l i ∷ m i ∷ m i ∷ m i ∷ m i ∷ []

-- a cell of zeros holds what there is before the first member
pub holds_none : (tile : ℕ) (list : PieceList) → HoldsAt no_words tile 0 list
holds_none tile list = record {
  within = omega arith;
  possible = subst IsTile (sym (stands_at_none tile list)) empty_is;
  words_are = sym empty_words ∙ ap words_of (sym (stands_at_none tile list));
}
