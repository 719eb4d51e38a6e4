-- Canvases that stand at the first members of a list.
use Rattle.std.proofs.Common.{◌≡◌, ℕ, suc, zero, ◌+◌, ◌-◌, ◌<◌, ◌≤◌, Bool, true, false, refl, inl, inr, List, [], length, get_or, slice_index_or, arith, ap, ◌∙◌, sym, subst}
use Rattle.std.proofs.Math.Seq.{take-length}
use Rattle.std.proofs.lemmas.Bool.{cases_lt}
use Rattle.std.proofs.lemmas.List.{get_or-replicate, get_or_default, take_all}
use Rattle.cull_base.specs.Piece.{Piece, box_of}
use Rattle.cull_base.specs.Rectangle.{meets}
use Rattle.cull_base.specs.Screen.{Dimensions, IsSize, tile_place, tile_rect_of, tile_sub}
use Rattle.cull_base.specs.State.{State, empty_state}
use Rattle.cull_base.specs.Fold.{IsSound, IsLayered}
use Rattle.cull_base.specs.Span.{number_in, tiles_in}
use Rattle.cull_base.specs.Tiles.{PieceList, ArePieces}
use Rattle.cull_base.specs.declared.tile_span.TileSpan.{TileSpan}
use Rattle.masked_update.specs.TileOf.{TileOf, no_tile, empty_tile}
use Rattle.masked_update.specs.Merged.{merged_by}
use Rattle.masked_update.specs.Taken.{counted_where, merged_where, taken_where}
use Rattle.masked_update.specs.Drawn.{IsDrawn}
use Rattle.masked_update.specs.Canvas.{AreDrawnIn, CanvasOf, CountedMet, CountsAt, IsInWindow, MergedMet, MissBetween, StandsAt, empty_canvas, first_of, own_tile, tile_in}
use Rattle.masked_update.proofs.Tiles.{number_within}
use Rattle.masked_update.proofs.TileLists.{drawn_of, few, list_more, none_listed, own_whole, tile_with}

empty_in : (list : PieceList) (window : TileSpan) (t : ℕ) → IsInWindow list.size window t → tile_in list.size (empty_canvas window) t ≡ empty_tile
empty_in list window t within =
    get_or-replicate (tiles_in window) (number_in window (tile_place list.size t)) empty_tile no_tile (number_within window (tile_place list.size t) within.within)

pub stands_at_none : (list : PieceList) (window : TileSpan) → StandsAt list 0 (empty_canvas window)
stands_at_none list window = record {
  tiles = λ t within. ap (λ (s : TileOf). s.subs) (empty_in list window t within ∙ sym (none_listed list t));
}

pub counts_at_none : (list : PieceList) (window : TileSpan) → CountsAt list 0 (empty_canvas window)
counts_at_none list window = record {
  tiles = λ t within. ap (λ (s : TileOf). s.count) (empty_in list window t within ∙ sym (none_listed list t));
}

-- a canvas that counts k members counts no more in a tile
pub counts_few : (list : PieceList) (k t : ℕ) (c : CanvasOf) → CountsAt list k c → k ≤ length list.members → IsInWindow list.size c.window t → (tile_in list.size c t).count ≤ k
counts_few list k t c counts le within = subst (λ n. n ≤ k) (sym (counts.tiles t within)) (few list t k le)

-- what is merged depends on no count, and changes none
merged_subs : (b : Bool) (size : Dimensions) (t : ℕ) (x : Piece) (s own : TileOf) → s.subs ≡ own.subs → (merged_where b size t x s).subs ≡ (taken_where b size t x own).subs
merged_subs true size t x s own e = ap (merged_by size (tile_place size t) x) e
merged_subs false size t x s own e = e

merged_count : (b : Bool) (size : Dimensions) (t : ℕ) (x : Piece) (s : TileOf) → (merged_where b size t x s).count ≡ s.count
merged_count true size t x s = refl
merged_count false size t x s = refl

-- what is counted depends on no subtile, and changes none
counted_count : (b : Bool) (size : Dimensions) (t : ℕ) (x : Piece) (s own : TileOf) → s.count ≡ own.count → (counted_where b s).count ≡ (taken_where b size t x own).count
counted_count true size t x s own e = ap (λ n. n + 1) e
counted_count false size t x s own e = e

counted_subs : (b : Bool) (s : TileOf) → (counted_where b s).subs ≡ s.subs
counted_subs true s = refl
counted_subs false s = refl

-- what the next member changes of each tile is what it changes of the tile that takes its own list
part_more : {T : Type 0} (part : TileOf → T) (change : Bool → ℕ → TileOf → TileOf) (list : PieceList) (k : ℕ) (x : Piece) (old new : CanvasOf) → k < length list.members → get_or list.members k x ≡ x → new.window ≡ old.window
    → ((t : ℕ) → IsInWindow list.size old.window t → tile_in list.size new t ≡ change (meets (box_of x) (tile_rect_of list.size t)) t (tile_in list.size old t))
    → ((b : Bool) (t : ℕ) (s own : TileOf) → part s ≡ part own → part (change b t s) ≡ part (taken_where b list.size t x own))
    → ((t : ℕ) → IsInWindow list.size old.window t → part (tile_in list.size old t) ≡ part (own_tile (first_of k list) t))
    → (t : ℕ) → IsInWindow list.size new.window t → part (tile_in list.size new t) ≡ part (own_tile (first_of (k + 1) list) t)
part_more part change list k x old new lt is window tiles agree was t within =
    let within_old = subst (λ (w : TileSpan). IsInWindow list.size w t) window within in
    ap part (tiles t within_old) ∙ agree (meets (box_of x) (tile_rect_of list.size t)) t (tile_in list.size old t) (own_tile (first_of k list) t) (was t within_old) ∙ sym (ap part (list_more list t k x lt is))

-- a canvas into which the next member is merged stands at one more
pub stands_more : (list : PieceList) (k : ℕ) (x : Piece) (old new : CanvasOf) → k < length list.members → get_or list.members k x ≡ x → StandsAt list k old → MergedMet list.size x old new → StandsAt list (k + 1) new
stands_more list k x old new lt is stands merged =
    record { tiles = part_more (λ (s : TileOf). s.subs) (λ b t s. merged_where b list.size t x s) list k x old new lt is merged.window merged.tiles (λ b t s own e. merged_subs b list.size t x s own e) stands.tiles }

-- and counts what it counted
pub counts_stay : (list : PieceList) (k : ℕ) (x : Piece) (old new : CanvasOf) → MergedMet list.size x old new → CountsAt list k old → CountsAt list k new
counts_stay list k x old new merged counts = record {
  tiles = λ t within.
      let within_old = subst (λ (w : TileSpan). IsInWindow list.size w t) merged.window within in
      ap (λ (s : TileOf). s.count) (merged.tiles t within_old) ∙ merged_count (meets (box_of x) (tile_rect_of list.size t)) list.size t x (tile_in list.size old t) ∙ counts.tiles t within_old;
}

-- a canvas that counted the next member counts one more
pub counts_more : (list : PieceList) (k : ℕ) (x : Piece) (old new : CanvasOf) → k < length list.members → get_or list.members k x ≡ x → CountsAt list k old → CountedMet list.size x old new → CountsAt list (k + 1) new
counts_more list k x old new lt is counts counted =
    record { tiles = part_more (λ (s : TileOf). s.count) (λ b t s. counted_where b s) list k x old new lt is counted.window counted.tiles (λ b t s own e. counted_count b list.size t x s own e) counts.tiles }

-- and stands where it stood
pub stands_still : (list : PieceList) (k : ℕ) (x : Piece) (old new : CanvasOf) → CountedMet list.size x old new → StandsAt list k old → StandsAt list k new
stands_still list k x old new counted stands = record {
  tiles = λ t within.
      let within_old = subst (λ (w : TileSpan). IsInWindow list.size w t) counted.window within in
      ap (λ (s : TileOf). s.subs) (counted.tiles t within_old) ∙ counted_subs (meets (box_of x) (tile_rect_of list.size t)) (tile_in list.size old t) ∙ stands.tiles t within_old;
}

-- a tile that the members between miss has the same own list
missed : (list : PieceList) (t k : ℕ) (x : Piece) → k < length list.members → get_or list.members k x ≡ x → meets (box_of x) (tile_rect_of list.size t) ≡ false → own_tile (first_of (k + 1) list) t ≡ own_tile (first_of k list) t
missed list t k x lt is off = list_more list t k x lt is ∙ ap (λ b. taken_where b list.size t x (own_tile (first_of k list) t)) off

no_piece : Piece
no_piece = record { xs = []; ys = []; qs = [] }

pub stands_on : (list : PieceList) (a b : ℕ) (c : CanvasOf) → MissBetween list c.window a b → StandsAt list a c → StandsAt list b c
stands_on list a b c miss stands =
    let e : a + (b - a) ≡ b = (let le = miss.ordered in omega (arith, le)) in
    subst (λ k. StandsAt list k c) e (by (b - a) (omega (arith, e)))
  where
    passed : (t k : ℕ) → IsInWindow list.size c.window t → a ≤ k → k < b → own_tile (first_of (k + 1) list) t ≡ own_tile (first_of k list) t
    passed t k within le lt = elim (cases_lt k (length list.members)) [
      | inl below ↦
          let x = get_or list.members k no_piece in
          let is : get_or list.members k x ≡ x = get_or_default list.members k x no_piece below in
          missed list t k x below is (miss.members k x le lt below is t within)
      | inr past ↦ ap (λ (members : List Piece). own_tile (record { size = list.size; members = members }) t) (take_all (k + 1) list.members (omega (arith, past)) ∙ sym (take_all k list.members past))
    ]

    by : (n : ℕ) → a + n ≤ b → StandsAt list (a + n) c
    by zero le = subst (λ k. StandsAt list k c) (omega arith) stands
    by (suc n) le =
        let before = by n (omega (arith, le)) in
        let e : a + n + 1 ≡ a + suc n = omega arith in
        subst (λ k. StandsAt list k c) e (record { tiles = λ t within. before.tiles t within ∙ sym (ap (λ (s : TileOf). s.subs) (passed t (a + n) within (omega arith) (omega (arith, le)))) })

-- in the end each tile of the window has the states after the whole list
pub drawn_in : (list : PieceList) (c : CanvasOf) → IsSize list.size.width list.size.height → ArePieces list.members → StandsAt list (length list.members) c → AreDrawnIn list c
drawn_in list c sized all stands t within =
    let own = own_tile list t in
    let d = drawn_of list t own refl all (λ some. sized) in
    let e : (tile_in list.size c t).subs ≡ own.subs = stands.tiles t within ∙ ap (λ (s : TileOf). s.subs) (own_whole list t (length list.members) (take-length list.members)) in
    record {
      states = e ∙ d.states;
      sound = λ j h on. subst (λ (subs : List State). IsSound (tile_sub list.size t j) list.members (slice_index_or subs j empty_state)) (sym e) (d.sound j h on);
      layered = λ j h on. subst (λ (subs : List State). IsLayered (slice_index_or subs j empty_state)) (sym e) (d.layered j h on);
    }

-- and is drawn where it counts them all too
pub counted_and_drawn : (list : PieceList) (c : CanvasOf) → IsSize list.size.width list.size.height → ArePieces list.members → StandsAt list (length list.members) c → CountsAt list (length list.members) c
    → (t : ℕ) → IsInWindow list.size c.window t → IsDrawn list t (tile_in list.size c t)
counted_and_drawn list c sized all stands counts t within =
    let whole = own_whole list t (length list.members) (take-length list.members) in
    let subs = stands.tiles t within in
    let count = counts.tiles t within in
    drawn_of list t (tile_in list.size c t)
    (ap (λ s. tile_with s (tile_in list.size c t).count) subs ∙ ap (tile_with (own_tile (first_of (length list.members) list) t).subs) count ∙ whole) all (λ some. sized)
