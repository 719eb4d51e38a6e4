-- How passes stand for a task.
use Rattle.std.specs.Prelude.{◌≡◌, ℕ, ◌<◌, ◌≤◌, List, []}
use Rattle.atomic_table.specs.declared.shared.Seat.{Seat}
use Rattle.crossbeam_queue.specs.Passes.{Pass, view}
use Rattle.crossbeam_utils.specs.Seq.{cell_view}
use Rattle.crossbeam_utils.specs.declared.atomic.seq_cell.Doing.{Doing}
use Rattle.binning.specs.Cut.{CutOf, bin_count_of}
use Rattle.binning.specs.Parts.{PartOf}
use Rattle.bin_queues.specs.declared.number_rule.NumberView.{NumberView}
use Rattle.bin_queues.specs.declared.queue_rule.View.{View}
use Rattle.bin_queues.specs.NumberRule.{IsListener}
use Rattle.bin_queues.specs.QueueParts.{IsBatched, batches_in, taken_before}
use Rattle.bin_queues.specs.QueueRule.{IsTaker}
use Rattle.bin_queues.specs.Tasks.{Tasking}

abbrev pub QueueToken : Type 0
QueueToken = Pass PartOf View

abbrev pub NumberToken : Type 0
NumberToken = Seat (List ℕ) (Doing (List ℕ) NumberView)

-- what contracts see of a task's passes, and of the members that it took
abbrev pub tasking : ℕ → QueueToken → NumberToken → Tasking
tasking taken p n = record {
  queue = p.table_id;
  number = n.table_id;
  of = (view p).of;
  batches = (view p).number;
  taken = taken;
  told = (view p).told;
  heard = (cell_view n).number;
  looks = (cell_view n).looks;
}

-- the passes are those of a task, and the numbers beside them are what its view says
pub record IsIntake (cut : CutOf) (size bin batches taken : ℕ) (p : QueueToken) (n : NumberToken) : Type 0 where
  pub takes : IsTaker (view p)
  pub free : p.me.1 ≡ []
  pub listens : IsListener (cell_view n)
  pub batched : IsBatched (view p).of.frame
  pub real : (view p).of.bin < bin_count_of (view p).of.frame.cut
  pub cut_is : cut ≡ (view p).of.frame.cut
  pub size_is : size ≡ (view p).of.frame.size
  pub bin_is : bin ≡ (view p).of.bin
  pub batches_is : batches ≡ (view p).number
  pub within : batches ≤ batches_in (view p).of.frame
  pub taken_is : taken ≡ taken_before (view p).of batches
