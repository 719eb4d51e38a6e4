-- A bin's writers are taken from the slots of its tiles.
use Rattle.std.proofs.Common.{◌≡◌, ⊎_elim, inl, inr, ℕ, ◌+◌, ◌*◌, ◌<◌, ◌≤◌, min, List, Some, None, length, set, arith, refl, ap, ◌∙◌, sym, subst}
use Rattle.std.specs.Prelude.{slice_index_or, IsSome, MatchOption}
use Rattle.std.specs.declared.option.Option.{Option}
use Rattle.std.proofs.lemmas.List.{get_or-set_other}
use Rattle.binning.specs.Bins.{bin_of, bin_span_of}
use Rattle.binning.specs.Cut.{IsCut}
use Rattle.binning.proofs.BinSpans.{in_bin}
use Rattle.cull_base.specs.Screen.{IsSize, tile_place}
use Rattle.cull_base.specs.Span.{IsSpan, number_in, tiles_in}
use Rattle.cull_base.specs.declared.tile_span.TileSpan.{TileSpan}
use Rattle.tile_cells.specs.Cells.{Writing}
use Rattle.tile_cells.specs.Standing.{StandsAt}
use Rattle.tile_queues.specs.declared.cell_bin.CellBin.{CellBin}
use Rattle.tile_queues.specs.CellBins.{AreWritersAt, tile_numbered, HoldsBin}
use Rattle.tile_queues.specs.Owners.{AreLeft, IsFull}
use Rattle.bin_queues.specs.QueueParts.{BatchedFrame, places_before}
use Rattle.bin_queues.specs.Tasks.{Tasking}
use Rattle.tile_queues.proofs.Slotting.{by_tile, numbered}

full_some : (frame : BatchedFrame) (t : ℕ) (o : Option Writing) → IsFull frame t o → IsSome o
full_some frame t None h = absurd h
full_some frame t (Some w) h = refl

full_is : (frame : BatchedFrame) (t : ℕ) (o : Option Writing) (w : Writing) → IsFull frame t o → o ≡ Some w → StandsAt frame.cells frame.list 0 t w
full_is frame t o w h e = subst (λ (x : Option Writing). MatchOption x ⊥ (λ v. StandsAt frame.cells frame.list 0 t v)) e h

module _ (frame : BatchedFrame) (bin : ℕ) (sized : IsSize frame.list.size.width frame.list.size.height) (valid : IsCut frame.cut.columns frame.cut.rows)
    (span : IsSpan frame.list.size (bin_span_of frame.list.size frame.cut bin)) (n : ℕ) (lt : n < tiles_in (bin_span_of frame.list.size frame.cut bin)) (slots : List (Option Writing)) (left : AreLeft frame bin n slots) where
  at_number : bin_of frame.list.size frame.cut (tile_numbered frame.list.size (bin_span_of frame.list.size frame.cut bin) n) ≡ bin
  at_number =
      let at = numbered frame.list.size (bin_span_of frame.list.size frame.cut bin) n span lt in
      in_bin frame.list.size frame.cut bin (tile_numbered frame.list.size (bin_span_of frame.list.size frame.cut bin) n) sized valid at.within.on_screen at.within.within

  full_there : (d : Option Writing) → IsFull frame (tile_numbered frame.list.size (bin_span_of frame.list.size frame.cut bin) n) (slice_index_or slots (tile_numbered frame.list.size (bin_span_of frame.list.size frame.cut bin) n) d)
  full_there d =
      let at = numbered frame.list.size (bin_span_of frame.list.size frame.cut bin) n span lt in
      let number = at.number in
      left (tile_numbered frame.list.size (bin_span_of frame.list.size frame.cut bin) n) d at.within.on_screen (inr (at_number, omega (arith, number)))

  pub slot_is_full : (tile : ℕ) → tile ≡ tile_numbered frame.list.size (bin_span_of frame.list.size frame.cut bin) n → IsSome (slice_index_or slots tile None)
  slot_is_full tile is = full_some frame (tile_numbered frame.list.size (bin_span_of frame.list.size frame.cut bin) n) (slice_index_or slots tile None)
      (subst (λ t. IsFull frame (tile_numbered frame.list.size (bin_span_of frame.list.size frame.cut bin) n) (slice_index_or slots t None)) (sym is) (full_there None))

  pub writer_is : (tile : ℕ) (w : Writing) → tile ≡ tile_numbered frame.list.size (bin_span_of frame.list.size frame.cut bin) n → slice_index_or slots tile None ≡ Some w
      → StandsAt frame.cells frame.list 0 (tile_numbered frame.list.size (bin_span_of frame.list.size frame.cut bin) n) w
  writer_is tile w is e = full_is frame (tile_numbered frame.list.size (bin_span_of frame.list.size frame.cut bin) n) (slice_index_or slots tile None) w
      (subst (λ t. IsFull frame (tile_numbered frame.list.size (bin_span_of frame.list.size frame.cut bin) n) (slice_index_or slots t None)) (sym is) (full_there None)) e

  pub one_less : (tile : ℕ) → tile ≡ tile_numbered frame.list.size (bin_span_of frame.list.size frame.cut bin) n → AreLeft frame bin (n + 1) (set slots tile None)
  one_less tile is t d below there =
      let at = numbered frame.list.size (bin_span_of frame.list.size frame.cut bin) n span lt in
      let other : t ≡ tile → ⊥ = λ e.
      let same : t ≡ tile_numbered frame.list.size (bin_span_of frame.list.size frame.cut bin) n = e ∙ is in
      let binned : bin_of frame.list.size frame.cut t ≡ bin = ap (bin_of frame.list.size frame.cut) same ∙ at_number in
      let number : number_in (bin_span_of frame.list.size frame.cut bin) (tile_place frame.list.size t) ≡ n = ap (λ u. number_in (bin_span_of frame.list.size frame.cut bin) (tile_place frame.list.size u)) same ∙ at.number in
      ⊎_elim (λ (behind : bin < bin_of frame.list.size frame.cut t). absurd (omega (arith, behind, binned)))
      (λ (here : (bin_of frame.list.size frame.cut t ≡ bin) × (n + 1 ≤ number_in (bin_span_of frame.list.size frame.cut bin) (tile_place frame.list.size t))). let le = here.1 in absurd (omega (arith, le, number))) there in
      subst (IsFull frame t) (sym (get_or-set_other slots tile t None d other))
      (left t d below (⊎_elim (λ (behind : bin < bin_of frame.list.size frame.cut t). inl behind)
      (λ (here : (bin_of frame.list.size frame.cut t ≡ bin) × (n + 1 ≤ number_in (bin_span_of frame.list.size frame.cut bin) (tile_place frame.list.size t))). let le = here.1 in inr (here.0, omega (arith, le))) there))

-- the next bin's turn
pub next_bin : (frame : BatchedFrame) (bin n : ℕ) (slots : List (Option Writing)) → AreLeft frame bin n slots → AreLeft frame (bin + 1) 0 slots
next_bin frame bin n slots left t d below there =
    left t d below (inl (⊎_elim (λ (behind : bin + 1 < bin_of frame.list.size frame.cut t). let h : bin < bin_of frame.list.size frame.cut t = omega (arith, behind) in h)
    (λ (here : (bin_of frame.list.size frame.cut t ≡ bin + 1) × (0 ≤ number_in (bin_span_of frame.list.size frame.cut (bin + 1)) (tile_place frame.list.size t))). let e = here.0 in let h : bin < bin_of frame.list.size frame.cut t = omega (arith, e) in h) there))

-- the bin's writers stand before the first batch
pub holds_first : (t : Tasking) (window : TileSpan) (ws : List Writing) (bin : CellBin) → t.batches ≡ 0 → window ≡ bin_span_of t.of.frame.list.size t.of.frame.cut t.of.bin → IsSpan t.of.frame.list.size window → bin.window ≡ window → bin.writers.items ≡ ws
    → length ws ≡ tiles_in window → ((n : ℕ) (d : Writing) → n < tiles_in window → StandsAt t.of.frame.cells t.of.frame.list 0 (tile_numbered t.of.frame.list.size window n) (slice_index_or ws n d)) → HoldsBin t bin
holds_first t window ws bin none is span windowed items whole each =
    let f = t.of.frame in
    let zero_is : places_before f t.batches ≡ 0 = ap (places_before f) none ∙ (let e : min (0 * f.size) (length f.list.members) ≡ 0 = omega arith in e) in
    let at : AreWritersAt f.cells f.list window 0 bin = record {
      window_is = windowed;
      whole = ap length items ∙ whole;
      each = subst (λ (l : List Writing). (u : ℕ) (d : Writing) → Rattle.masked_update.specs.Canvas.IsInWindow f.list.size window u → StandsAt f.cells f.list 0 u (slice_index_or l (number_in window (tile_place f.list.size u)) d)) (sym items)
          (by_tile f.cells f.list window 0 ws span each);
    } in
    subst (λ (z : TileSpan × ℕ). AreWritersAt f.cells f.list z.0 z.1 bin) (λ i. (is i, sym zero_is i)) at
