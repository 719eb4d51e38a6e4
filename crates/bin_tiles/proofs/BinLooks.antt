-- Tiles that are looked up in their bins.
use Rattle.std.proofs.Common.{◌≡◌, ℕ, ◌%◌, ◌/◌, ◌<◌, List, length, get_or, true, arith, refl, sym, subst}
use Rattle.std.proofs.lemmas.Bool.{and_from, lt-ltb}
use Rattle.std.proofs.lemmas.Nat.{mod_below, mul-add-lt}
use Rattle.binning.specs.Axis.{bin_along}
use Rattle.binning.specs.Bins.{bin_of, bin_span_of}
use Rattle.binning.specs.Cut.{CutOf, IsCut, bin_count_of}
use Rattle.binning.proofs.Axes.{bin_below}
use Rattle.binning.proofs.BinSpans.{in_span, some_tile_columns, some_tile_rows}
use Rattle.cull_base.proofs.Places.{row_below}
use Rattle.cull_base.specs.Screen.{Dimensions, IsSize, tile_columns_of, tile_count_of, tile_place, tile_rows_of}
use Rattle.cull_base.specs.Span.{has_tile}
use Rattle.cull_base.specs.Tiles.{ArePieces, PieceList, tile_after}
use Rattle.masked_update.specs.Canvas.{CanvasOf, tile_in}
use Rattle.masked_update.proofs.Canvases.{drawn_in}
use Rattle.bin_tiles.specs.Bins.{AreBinsAt}
use Rattle.bin_tiles.specs.BinViews.{TableOf, holds_in, no_canvas, table_of, tile_in_bins}
use Rattle.bin_tiles.specs.Plain.{IsPlainAt, StandsPlain}

-- a tile stands in a canvas and has the states after the whole list there
pub record Held (list : PieceList) (tile : ℕ) (c : CanvasOf) : Type 0 where
  pub within : has_tile c.window (tile_place list.size tile) ≡ true
  pub states : (tile_in list.size c tile).subs ≡ tile_after list.size tile list.members

-- so does one in the canvas of its bin, at the whole list
pub held_at : (list : PieceList) (cut : CutOf) (tile bin : ℕ) (c : CanvasOf) → IsSize list.size.width list.size.height → IsCut cut.columns cut.rows → tile < tile_count_of list.size → bin ≡ bin_of list.size cut tile → ArePieces list.members
    → IsPlainAt list (bin_span_of list.size cut bin) (length list.members) c → Held list tile c
held_at list cut tile bin c sized valid lt is pieces k =
    let on : has_tile c.window (tile_place list.size tile) ≡ true = subst (λ win. has_tile win (tile_place list.size tile) ≡ true) (sym k.window_is) (in_span list.size cut bin tile sized valid lt (sym is)) in
    record {
      within = on;
      states = (drawn_in list c sized pieces k.stands tile (record { on_screen = lt; within = on })).states;
    }

-- the bin of a tile is one of the cut's
pub below_bins : (size : Dimensions) (cut : CutOf) (t : ℕ) → IsSize size.width size.height → IsCut cut.columns cut.rows → t < tile_count_of size → bin_of size cut t < bin_count_of cut
unfolding bin_of
below_bins size cut t sized valid lt =
    let columns = tile_columns_of size in let rows = tile_rows_of size in
    let some = some_tile_columns size sized in
    let across = bin_below cut.columns columns (t % columns) some (mod_below t columns some) (omega (arith, valid.some_columns)) in
    let down = bin_below cut.rows rows (t / columns) (some_tile_rows size sized) (row_below t columns rows some lt) (omega (arith, valid.some_rows)) in
    mul-add-lt (bin_along cut.rows rows (t / columns)) cut.columns (bin_along cut.columns columns (t % columns)) cut.rows down across

-- a tile is held, and has the states after the whole list
pub record IsShown (list : PieceList) (table : TableOf) (bins : List CanvasOf) (t : ℕ) : Type 0 where
  pub holds : holds_in table bins t ≡ true
  pub states : (tile_in_bins table bins t).subs ≡ tile_after list.size t list.members

shown_of : (list : PieceList) (cut : CutOf) (bins : List CanvasOf) (t : ℕ) → IsSize list.size.width list.size.height → IsCut cut.columns cut.rows → ArePieces list.members → AreBinsAt StandsPlain (tt {0}) list cut (length list.members) bins → t < tile_count_of list.size → IsShown list (table_of list.size cut) bins t
shown_of list cut bins t sized valid pieces at lt =
    let b = bin_of list.size cut t in
    let below = below_bins list.size cut t sized valid lt in
    let count = at.count in
    let there : b < length bins = omega (arith, below, count) in
    let h = held_at list cut t b (get_or bins b no_canvas) sized valid lt refl pieces (at.each b no_canvas there) in
    record {
      holds = and_from _ _ (lt-ltb _ _ lt) (and_from _ _ (lt-ltb _ _ there) h.within);
      states = h.states;
    }

-- so is each tile of the screen in the bins of a frame that is drawn
pub shown : (list : PieceList) (table : TableOf) (bins : List CanvasOf) (t : ℕ) → IsSize list.size.width list.size.height → IsCut table.cut.columns table.cut.rows → ArePieces list.members → table.size ≡ list.size → AreBinsAt StandsPlain (tt {0}) list table.cut (length list.members) bins → t < tile_count_of list.size → IsShown list table bins t
shown list table bins t sized valid pieces same at lt =
    subst (λ (s : Dimensions). IsShown list (table_of s table.cut) bins t) (sym same) (shown_of list table.cut bins t sized valid pieces at lt)
