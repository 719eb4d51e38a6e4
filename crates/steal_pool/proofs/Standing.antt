-- Writers that come back from tasks which drew all batches.
use Rattle.std.proofs.Common.{◌≡◌, ℕ, ◌≤◌, List, length, arith, ap, sym, ◌∙◌, subst}
use Rattle.std.specs.Prelude.{slice_index_or}
use Rattle.cull_base.specs.Screen.{tile_count_of}
use Rattle.tile_cells.specs.Cells.{Writing}
use Rattle.tile_cells.specs.Standing.{AreStanding, StandsAt}
use Rattle.bin_queues.specs.QueueParts.{BatchedFrame, places_before}
use Rattle.bin_queues.specs.Tasks.{QueuesOf, Tasking}
use Rattle.bin_queues.proofs.Intaking.{places_end}
use Rattle.tile_queues.specs.Owners.{AreHandedBack, IsHandedBack}
use Rattle.tile_queues.specs.Shares.{AreWhole}
use Rattle.tile_queues.proofs.Dealing.{one_of}

module _ (queues : QueuesOf) (frame : BatchedFrame) (tasks : List Tasking) where
  stands_at_end : (t : ℕ) (w : Writing) → 1 ≤ frame.size → AreWhole queues frame tasks → IsHandedBack frame tasks t w → StandsAt frame.cells frame.list (length frame.list.members) t w
  stands_at_end t w some whole back =
      let e = one_of tasks back.0 back.1 in
      subst (λ n. StandsAt frame.cells frame.list n t w) (ap (places_before frame) (whole.drawn back.0 e back.1) ∙ places_end frame some) (back.2 e).1

  pub stand_at_end : (ws : List Writing) → 1 ≤ frame.size → length frame.cells ≡ tile_count_of frame.list.size → AreWhole queues frame tasks → AreHandedBack frame tasks ws → AreStanding frame.cells frame.list (length frame.list.members) ws
  stand_at_end ws some cells whole back = record {
    whole = back.whole ∙ sym cells;
    each = λ t d lt. stands_at_end t (slice_index_or ws t d) some whole (back.each t d (omega (arith, lt, cells)));
  }
