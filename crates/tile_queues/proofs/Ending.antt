-- Writers of a frame whose tasks drew all batches.
use Rattle.std.proofs.Common.{◌≡◌, ⊎_elim, inl, inr, ℕ, ◌+◌, ◌*◌, ◌/◌, ◌%◌, ◌<◌, List, None, Some, length, option_map, arith, ap, ◌∙◌, sym, subst}
use Rattle.std.specs.Prelude.{slice_index_or}
use Rattle.std.specs.declared.option.Option.{Option}
use Rattle.std.proofs.lemmas.Bool.{cases_lt}
use Rattle.std.proofs.lemmas.List.{length-map}
use Rattle.std.proofs.lemmas.Nat.{div-add-mod'}
use Rattle.std.proofs.lemmas.Option.{slice_get-get_or, slice_get-map}
use Rattle.atomic_table.specs.Seated.{TableId}
use Rattle.binning.specs.Bins.{bin_of}
use Rattle.binning.specs.Cut.{bin_count_of}
use Rattle.cull_base.specs.Screen.{tile_count_of}
use Rattle.cull_base.specs.Tiles.{PieceList}
use Rattle.tile_cells.proofs.Lists.{same_lists}
use Rattle.tile_cells.specs.Cells.{AreFresh, Writing}
use Rattle.tile_cells.specs.Standing.{StandsAt}
use Rattle.tile_queues.specs.Owners.{AreBinsOf, ArePutBack, IsBack, IsHandedBack, IsSlotAt, cells_of}
use Rattle.bin_queues.specs.QueueParts.{BatchedFrame, BinOfFrame, IsBatched, places_before}
use Rattle.tile_queues.specs.Shares.{bins_owned, IsDrawnAt, IsShare}
use Rattle.bin_queues.specs.Tasks.{QueuesOf, Tasking}
use Rattle.bin_queues.proofs.Intaking.{places_end}
use Rattle.tile_queues.proofs.Dealing.{one_of}
use Rattle.tile_queues.proofs.Owning.{belongs}
use Rattle.tile_queues.proofs.Returning.{bin_within}

-- the slots of the tiles of the first workers' bins have writers at the whole list
abbrev pub AreBackBelow : BatchedFrame → ℕ → ℕ → List (Option Writing) → Type 0
AreBackBelow frame workers n slots =
    (t : ℕ) (d : Option Writing) → t < tile_count_of frame.list.size → bin_of frame.list.size frame.cut t % workers < n → IsSlotAt frame (length frame.list.members) t (slice_index_or slots t d)

-- the cells of new writers
pub fresh_cells : (cells : List TableId) (list : PieceList) (ws : List Writing) → AreFresh cells list (length cells) ws → cells_of ws ≡ cells
fresh_cells cells list ws fresh =
    let whole = fresh.whole in
    let ids : length (cells_of ws) ≡ length ws = length-map ws (λ (w : Writing). w.cell) in
    same_lists (cells_of ws) cells (ids ∙ whole) (λ t lt.
    let below : t < length ws = omega (arith, lt, whole) in
    let d = one_of ws t below in
    slice_get-map (λ (w : Writing). w.cell) ws t ∙ ap (option_map (λ (w : Writing). w.cell)) (slice_get-get_or ws t d below) ∙ sym (fresh.at t d lt))

-- what a worker's tasks hand back stands at the whole list, where they drew all batches
module _ (queues : QueuesOf) (frame : BatchedFrame) (batched : IsBatched frame) (workers worker : ℕ) (tasks : List Tasking)
    (share : IsShare (IsDrawnAt queues frame) workers (bin_count_of frame.cut) worker tasks) where
  whole_writer : (t : ℕ) (w : Writing) → IsHandedBack frame tasks t w → StandsAt frame.cells frame.list (length frame.list.members) t w
  whole_writer t w back =
      let e = one_of tasks back.0 back.1 in
      subst (λ n. StandsAt frame.cells frame.list n t w) (ap (places_before frame) (share.each back.0 e back.1).whole ∙ places_end frame batched.some) (back.2 e).1

  whole_slot : (t : ℕ) (o : Option Writing) → IsBack frame tasks t o → IsSlotAt frame (length frame.list.members) t o
  whole_slot t None back = absurd back
  whole_slot t (Some w) back = whole_writer t w back

  pub share_bins : AreBinsOf frame tasks
  share_bins = record { batched = batched; frame_is = λ i d lt. ap (λ (b : BinOfFrame). b.frame) (share.each i d lt).at.of_is }

  pub share_back : (old new : List (Option Writing)) → 0 < workers → ArePutBack frame tasks (length tasks) old new → AreBackBelow frame workers worker old → AreBackBelow frame workers (worker + 1) new
  share_back old new some put back t d tl below =
      let bin = bin_of frame.list.size frame.cut t in
      let is = div-add-mod' bin workers in
      elim (cases_lt (bin % workers) worker) [
        | inl before ↦ ⊎_elim
            (λ (same : slice_index_or new t d ≡ slice_index_or old t d). subst (IsSlotAt frame (length frame.list.members) t) (sym same) (back t d tl before))
            (λ (mine : IsBack frame tasks t (slice_index_or new t d)). whole_slot t (slice_index_or new t d) mine)
            (put.kept t d tl)
        | inr after ↦
            let mine : bin % workers ≡ worker = omega (arith, below, after) in
            let owned : bin / workers < bins_owned (bin_count_of frame.cut) workers worker = subst (λ w. bin / workers < bins_owned (bin_count_of frame.cut) workers w) mine (belongs (bin_count_of frame.cut) workers bin some (bin_within frame.list.size frame.cut t batched.sized batched.is_cut tl)) in
            let lt : bin / workers < length tasks = (let count = share.count in omega (arith, owned, count)) in
            whole_slot t (slice_index_or new t d) (put.back t d (bin / workers) tl lt (λ e. ap (λ (b : BinOfFrame). b.bin) (share.each (bin / workers) e lt).at.of_is ∙ ap (λ w. bin / workers * workers + w) (sym mine) ∙ is))
      ]
