use Rattle.std.proofs.Common.{◌≤◌, length, drop}
use Rattle.snap_setup.specs.Batches.{without}
use Rattle.snap_setup.specs.Occluders.{list_of_some}
use Rattle.snap_setup.proofs.Batches.{HasTaken}
use Rattle.snap_setup.proofs.frame.push_batches.Given as goal

abbrev pub invariant-loop-batch : goal.invariant-loop-batch
invariant-loop-batch l =
    let o = l.fn.occluders in
    record {
      taken : HasTaken o l.keeping l.initial.list l.list l.count (list_of_some o l.tris l.fn.skipped) (length l.tris) (drop l.done l.tris) (without l.before (drop l.batch-index o.batches.now));
      within : l.done ≤ length l.tris;
    }
