-- Batches that are binned before they are submitted.
use Rattle.std.specs.Prelude.{◌≡◌, ℕ, ◌<◌, List, Option, IfSome, length, slice_index_or}
use Rattle.binning.specs.Parts.{PartOf, parts_of}
use Rattle.bin_queues.specs.declared.batched.Batched.{Batched}

-- the slot has the parts of a batch, if any
abbrev pub IsBinned : {X : Type 0} → (X → List PartOf) → Batched → ℕ → Option X → Type 0
IsBinned {X} items frame batch slot =
    IfSome slot (λ (x : X). items x ≡ parts_of frame.list.now.list frame.cut.now frame.size batch)

-- a slot for each batch, in order
abbrev pub AreBinned : {X : Type 0} → (X → List PartOf) → Batched → List (Option X) → Type 0
AreBinned {X} items frame slots =
    (i : ℕ) (s : Option X) → i < length slots → IsBinned items frame i (slice_index_or slots i s)
