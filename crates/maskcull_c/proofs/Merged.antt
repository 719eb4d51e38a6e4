-- Tiles into which some pieces are merged: one list and then another, the tiles that are after their own lists, and counts.
use Rattle.std.proofs.Common.{◌≡◌, inl, inr, ℕ, ◌+◌, ◌<◌, Bool, true, false, cond, List, [], ◌∷◌, ◌++◌, length, append-nil, append_assoc, slice_index_or, arith, refl, ap, ◌∙◌, sym}
use Rattle.std.proofs.lemmas.List.{ext_get_or}
use Rattle.std.proofs.lemmas.List.Elements.{Contains-append_cases}
use Rattle.std.proofs.lemmas.List.FromFn.{length-map-range_with_len}
use Rattle.std.proofs.lemmas.List.Sums.{fold-append}
use Rattle.cull_base.specs.Fold.{after, step}
use Rattle.cull_base.specs.Piece.{Piece, IsPiece, box_of}
use Rattle.cull_base.specs.Rectangle.{meets}
use Rattle.cull_base.specs.Screen.{Dimensions, IsSize, is_on_screen, tile_place, tile_rect_of, tile_sub}
use Rattle.cull_base.specs.State.{State, empty_state}
use Rattle.cull_base.specs.Tiles.{ArePieces, tile_after}
use Rattle.masked_update.specs.Merged.{merged_at, merged_by}
use Rattle.masked_update.specs.Taken.{merged_where}
use Rattle.masked_update.specs.TileOf.{TileOf, no_tile, tile_at}
use Rattle.masked_update.proofs.Best.{at_head, in_tail}
use Rattle.masked_update.proofs.Boxes.{step_outside}
use Rattle.masked_update.proofs.Merging.{eight_of}
use Rattle.masked_update.proofs.TileLists.{one_taken}
use Rattle.maskcull_c.specs.Bands.{Adds, AreMerged, merged_if_met, merged_with}

-- a piece whose box doesn't meet a tile changes none of its subtiles
missed : (size : Dimensions) (tile : ℕ) (x : Piece) (subs : List State) → IsSize size.width size.height → IsPiece x → meets (box_of x) (tile_rect_of size tile) ≡ false → length subs ≡ 8 → merged_by size (tile_place size tile) x subs ≡ subs
unfolding merged_by
missed size tile x subs sized piece off eight = sym (eight_of (merged_at size (tile_place size tile) x subs) subs eight (λ j h. stays (is_on_screen size (tile_sub size tile j)) j h refl))
  where
    stays : (on : Bool) (j : ℕ) → j < 8 → is_on_screen size (tile_sub size tile j) ≡ on → let s = slice_index_or subs j empty_state in s ≡ cond on (step (tile_sub size tile j) s x) s
    stays true j h on = sym (step_outside size tile j (slice_index_or subs j empty_state) x sized piece off h on)
    stays false j h on = refl

-- the subtiles of a tile after some pieces are those after one more, where it is merged if its box meets the tile
subs_more : (b : Bool) (size : Dimensions) (tile : ℕ) (pieces : List Piece) (x : Piece) (t : TileOf) → IsSize size.width size.height → IsPiece x → meets (box_of x) (tile_rect_of size tile) ≡ b
    → t.subs ≡ tile_after size tile pieces → (merged_where b size tile x t).subs ≡ tile_after size tile (pieces ++ x ∷ [])
subs_more true size tile pieces x t sized piece on e = ap (merged_by size (tile_place size tile) x) e ∙ ap (λ (s : TileOf). s.subs) (one_taken size tile pieces x)
subs_more false size tile pieces x t sized piece off e =
    let eight = length-map-range_with_len (λ j. let u = tile_sub size tile j in cond (is_on_screen size u) (after u pieces) empty_state) 0 8 in
    e ∙ sym (missed size tile x (tile_after size tile pieces) sized piece off eight) ∙ ap (λ (s : TileOf). s.subs) (one_taken size tile pieces x)

-- two lists of pieces, one behind the other
pub pieces_both : (ps qs : List Piece) → ArePieces ps → ArePieces qs → ArePieces (ps ++ qs)
pieces_both ps qs p q t m = elim (Contains-append_cases ps qs t m) [ inl h ↦ p t h | inr h ↦ q t h ]

-- no piece is merged
pub merged_none : (size : Dimensions) (first : ℕ) (tiles : List TileOf) → AreMerged size first [] tiles tiles
merged_none size first tiles = record { whole = refl; tiles = λ t lt. refl; valid = λ t m. absurd (let lt = m.1 in omega (arith, lt)) }

-- some pieces are merged, and then others
pub merged_then : (size : Dimensions) (first : ℕ) (ps qs : List Piece) (old mid new : List TileOf) → AreMerged size first ps old mid → AreMerged size first qs mid new → AreMerged size first (ps ++ qs) old new
merged_then size first ps qs old mid new a b = record {
  whole = b.whole ∙ a.whole;
  tiles = λ t lt.
      let below : t < length mid = let same = a.whole in omega (arith, lt, same) in
      b.tiles t below ∙ ap (merged_with size (first + t) qs) (a.tiles t lt) ∙ sym (fold-append (merged_if_met size (first + t)) (tile_at old t) ps qs);
  valid = pieces_both ps qs a.valid b.valid;
}

-- a tile that is after some pieces is after these and those that are merged into it
after_merged : (size : Dimensions) (n : ℕ) (before pieces : List Piece) (t : TileOf) → IsSize size.width size.height → ArePieces pieces
    → t.subs ≡ tile_after size n before → (merged_with size n pieces t).subs ≡ tile_after size n (before ++ pieces)
after_merged size n before [] t sized all e = e ∙ ap (λ (ps : List Piece). tile_after size n ps) (sym (append-nil before))
after_merged size n before (x ∷ xs) t sized all e =
    let one = subs_more (meets (box_of x) (tile_rect_of size n)) size n before x t sized (all x (at_head x xs)) refl e in
    after_merged size n (before ++ x ∷ []) xs (merged_if_met size n t x) sized (λ y m. all y (in_tail x y xs m)) one
    ∙ ap (λ (ps : List Piece). tile_after size n ps) (append_assoc before (x ∷ []) xs)

-- tiles into which pieces are merged are after these too
pub merged_adds : (size : Dimensions) (first : ℕ) (pieces : List Piece) (old new : List TileOf) → IsSize size.width size.height → AreMerged size first pieces old new → Adds size first pieces old new
merged_adds size first pieces old new sized m lists was = record {
  states = λ t lt.
      let below : t < length old = let same = m.whole in omega (arith, lt, same) in
      ap (λ (s : TileOf). s.subs) (m.tiles t below) ∙ after_merged size (first + t) (lists (first + t)) pieces (tile_at old t) sized m.valid (was.states t below);
  valid = λ t lt.
      let below : t < length old = let same = m.whole in omega (arith, lt, same) in
      pieces_both (lists (first + t)) pieces (was.valid t below) m.valid;
}

-- a merge leaves the count
one_count : (b : Bool) (size : Dimensions) (n : ℕ) (x : Piece) (t : TileOf) → (merged_where b size n x t).count ≡ t.count
one_count true size n x t = refl
one_count false size n x t = refl

same_count : (size : Dimensions) (n : ℕ) (pieces : List Piece) (t : TileOf) → (merged_with size n pieces t).count ≡ t.count
same_count size n [] t = refl
same_count size n (x ∷ xs) t = same_count size n xs (merged_if_met size n t x) ∙ one_count (meets (box_of x) (tile_rect_of size n)) size n x t

pub merged_counts : (size : Dimensions) (first : ℕ) (pieces : List Piece) (old new : List TileOf) → AreMerged size first pieces old new → (t : ℕ) → t < length old → (tile_at new t).count ≡ (tile_at old t).count
merged_counts size first pieces old new m t lt = ap (λ (s : TileOf). s.count) (m.tiles t lt) ∙ same_count size (first + t) pieces (tile_at old t)

-- what is merged into tiles tells what they hold
pub merged_once : (size : Dimensions) (first : ℕ) (pieces : List Piece) (old x y : List TileOf) → AreMerged size first pieces old x → AreMerged size first pieces old y → x ≡ y
merged_once size first pieces old x y a b = ext_get_or no_tile x y (a.whole ∙ sym b.whole)
    (λ t lt. let below : t < length old = let same = a.whole in omega (arith, lt, same) in a.tiles t below ∙ sym (b.tiles t below))
