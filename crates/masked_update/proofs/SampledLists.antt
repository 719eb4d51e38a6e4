-- Pieces that may cover no sample of the screen change nothing there, so the others give the same states.
use Rattle.std.proofs.Common.{◌≡◌, ℕ, pos, ◌+◌, ◌*◌, ◌<◌, ◌/◌, ◌%◌, Bool, true, false, nat_lt, cond, List, map, arith, refl}
use Rattle.std.specs.List.{range_with_len}
use Rattle.std.proofs.lemmas.Bool.{and_parts, both_ways, ltb-true}
use Rattle.std.proofs.lemmas.Int.{ints}
use Rattle.cull_base.specs.declared.place.Sub.{Sub}
use Rattle.cull_base.specs.Fold.{after, step}
use Rattle.cull_base.specs.Piece.{Piece, IsPiece}
use Rattle.cull_base.specs.Rectangle.{HasPixel}
use Rattle.cull_base.specs.Sampled.{is_sampled, sampled_among, sampled_list, samples_between}
use Rattle.cull_base.specs.Screen.{Dimensions, IsSize, is_on_screen, screen_of, tile_sub}
use Rattle.cull_base.specs.State.{State, empty_state}
use Rattle.cull_base.specs.Tiles.{PieceList, ArePieces, tile_after}
use Rattle.cull_base.proofs.Rectangles.{meets_pixel}
use Rattle.masked_update.proofs.OwnList.{fold-filter}
use Rattle.masked_update.proofs.SampleBoxes.{holds_covered}
use Rattle.masked_update.proofs.Unchanged.{step_unless_covered}

-- the samples of a subtile on the screen are pixels of the screen
on_screen : (size : Dimensions) (u : Sub) (k : ℕ) → IsSize size.width size.height → k < 32 → is_on_screen size u ≡ true → HasPixel (screen_of size) (pos (8 * u.column + k % 8)) (pos (4 * u.row + k / 8))
on_screen size u k valid below on =
    let lt = and_parts (nat_lt (8 * u.column) size.width) (nat_lt (4 * u.row) size.height) on in
    let x = across u.column size.width k valid.whole_columns (ltb-true _ _ lt.0) in
    let y = down u.row size.height k below valid.whole_rows (ltb-true _ _ lt.1) in
    (omega (arith, ints), omega (arith, ints, x), omega (arith, ints), omega (arith, ints, y))
  where
    across : (c w k : ℕ) → w % 8 ≡ 0 → 8 * c < w → 8 * c + k % 8 < w
    across c w k e lt = omega arith

    down : (r h k : ℕ) → k < 32 → h % 4 ≡ 0 → 4 * r < h → 4 * r + k / 8 < h
    down r h k below e lt = omega arith

step_unsampled : (size : Dimensions) (u : Sub) (s : State) (t : Piece) → IsSize size.width size.height → IsPiece t → is_sampled size t ≡ false → is_on_screen size u ≡ true → step u s t ≡ s
step_unsampled size u s t valid piece off on = step_unless_covered u s t (λ k below c.
    let r = samples_between t.xs t.ys in
    let holds = holds_covered t r piece refl refl refl refl in
    absurd (both_ways (is_sampled size t) off ((meets_pixel r (screen_of size)).1 (pos (8 * u.column + k % 8), pos (4 * u.row + k / 8), holds (8 * u.column + k % 8) (4 * u.row + k / 8) c, on_screen size u k valid below on))))

-- the state of a subtile of the screen
pub after-sampled : (size : Dimensions) (u : Sub) (pieces : List Piece) → IsSize size.width size.height → ArePieces pieces → is_on_screen size u ≡ true → after u (sampled_among size pieces) ≡ after u pieces
unfolding after
after-sampled size u pieces valid all on =
    fold-filter (step u) (is_sampled size) pieces empty_state (λ s t has off. step_unsampled size u s t valid (all t has) off on)

-- the states of a tile
pub tile_after-sampled : (list : PieceList) (tile : ℕ) → IsSize list.size.width list.size.height → ArePieces list.members → tile_after list.size tile (sampled_list list).members ≡ tile_after list.size tile list.members
tile_after-sampled list tile valid all = λ i. map (λ j. each j i) (range_with_len 0 8)
  where
    either : (b : Bool) (u : Sub) → is_on_screen list.size u ≡ b → cond b (after u (sampled_among list.size list.members)) empty_state ≡ cond b (after u list.members) empty_state
    either true u on = after-sampled list.size u list.members valid all on
    either false u off = refl

    each : (j : ℕ) → let u = tile_sub list.size tile j in cond (is_on_screen list.size u) (after u (sampled_among list.size list.members)) empty_state ≡ cond (is_on_screen list.size u) (after u list.members) empty_state
    each j = either (is_on_screen list.size (tile_sub list.size tile j)) (tile_sub list.size tile j) refl
