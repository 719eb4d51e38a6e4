-- The rule of a bin's queue: what it holds, and what each view of it knows.
use Rattle.std.specs.Prelude.{◌≡◌, ◌⊎◌, ℕ, ◌+◌, ◌≤◌, ◌<◌, max, List, [], ◌∷◌, length}
use mathlib.Core.Option.{some}
use lib.ListN.{get_elem?}
use Rattle.cull_base.specs.Screen.{dimensions}
use Rattle.binning.specs.Cut.{cut_into}
use Rattle.binning.specs.Parts.{PartOf}
use Rattle.bin_queues.specs.QueueParts.{BinOfFrame, batched, bin_of_frame, batches_in, nth_part, parts_from}
use Rattle.bin_queues.specs.declared.queue_rule.Role.{Role}
use Rattle.bin_queues.specs.declared.queue_rule.Role.TheVariants.{Unnamed, Submits, Takes, Notes, Spent}
use Rattle.bin_queues.specs.declared.queue_rule.View.{View}

abbrev pub no_bin : BinOfFrame
no_bin = bin_of_frame (batched (record { size = dimensions 0 0; members = [] }) (cut_into 0 0) 0 []) 0

-- the one view of a new queue: it names nothing
abbrev pub nameless : View
nameless = record { role = Unnamed; of = no_bin; number = 0; told = 0 }

-- the submitter pushed p parts
abbrev pub submitter : BinOfFrame → ℕ → View
submitter b p = record { role = Submits; of = b; number = p; told = 0 }

-- the bin's task popped q parts, and was told that so many were pushed
abbrev pub taker : BinOfFrame → ℕ → ℕ → View
taker b q told = record { role = Takes; of = b; number = q; told = told }

-- a note that p parts were pushed
abbrev pub note : BinOfFrame → ℕ → View
note b p = record { role = Notes; of = b; number = p; told = 0 }

-- a view that a join has ended, and of which nothing is said
abbrev pub spent : View
spent = record { role = Spent; of = no_bin; number = 0; told = 0 }

abbrev pub FitsAs : Role → BinOfFrame → ℕ → ℕ → ℕ → View → Type 0
FitsAs Unnamed b q n by v = ⊥
FitsAs Submits b q n by v = (by ≡ 0) × (v ≡ submitter b (q + n))
FitsAs Takes b q n by v = (by ≡ 1) × (v ≡ taker b q v.told) × (v.told ≤ q + n)
FitsAs Notes b q n by v = (v ≡ note b v.number) × (v.number ≤ q + n)
FitsAs Spent b q n by v = Unit {0}

-- What the rule says of view number `by`, where q parts were popped and n are there. The submitter's is number 0, and it
-- pushed them all; the task's is number 1, and popped q. What the task was told, and what a note says, is at most what
-- was pushed.
abbrev pub Fits : BinOfFrame → ℕ → ℕ → ℕ → View → Type 0
Fits b q n by v = FitsAs v.role b q n by v

-- the queue holds the n parts from the q-th on, in order and no more than there are, and each view fits
pub record Running (items : List PartOf) (views : List View) (b : BinOfFrame) (q n : ℕ) : Type 0 where
  pub within : q + n ≤ batches_in b.frame
  pub holds : items ≡ parts_from b q n
  pub fit : (by : ℕ) (v : View) → get_elem? views by ≡ some v → Fits b q n by v

-- Until it is named a queue has one view, and is empty. From then on it holds the parts of one bin that were pushed and
-- not yet popped.
abbrev pub QueueRule : List PartOf → List View → Type 0
QueueRule items views =
    ((items ≡ []) × (views ≡ nameless ∷ []))
    ⊎ ((b : BinOfFrame) × (q : ℕ) × (n : ℕ) × Running items views b q n)

-- a push: the next part, at the back
abbrev pub Pushed : View → PartOf → View → Type 0
Pushed v x w = w ≡ submitter v.of (v.number + 1)

-- what the submitter learns of the queue
abbrev pub AtMost : View → List PartOf → Type 0
AtMost v items = length items ≤ v.number

-- a pop: the next part, from the front
pub record Popped (v : View) (x : PartOf) (w : View) : Type 0 where
  pub view : w ≡ taker v.of (v.number + 1) v.told
  pub next : x ≡ nth_part v.of v.number
  pub short : v.number < batches_in v.of.frame

-- what the task learns of the queue: what it was told is at most what it popped and what is there
abbrev pub Told : View → List PartOf → Type 0
Told v items = v.told ≤ v.number + length items

-- a task that heard a note
abbrev pub told_by : View → View → View
told_by v w = taker v.of v.number (max v.told w.number)

abbrev pub IsSubmitter : View → Type 0
IsSubmitter v = v ≡ submitter v.of v.number

abbrev pub IsTaker : View → Type 0
IsTaker v = v ≡ taker v.of v.number v.told

abbrev pub IsNote : View → Type 0
IsNote v = v ≡ note v.of v.number
