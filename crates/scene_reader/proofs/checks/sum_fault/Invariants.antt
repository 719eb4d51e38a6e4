use Rattle.std.proofs.Common.{◌≡◌, ◌≤◌, drop, take, map}
use Rattle.scene_reader.specs.Layout.{raw_batch}
use Rattle.scene_reader.specs.Fault.{first_among, batch_fault, triangles_in}
use Rattle.scene_reader.proofs.checks.sum_fault.Given as goal

abbrev pub invariant-loop-i : goal.invariant-loop-i
invariant-loop-i l =
    record {
      rest : first_among (batch_fault l.tris (map raw_batch l.batches)) l.i (drop l.i (map raw_batch l.batches)) ≡ first_among (batch_fault l.tris (map raw_batch l.batches)) 0 (map raw_batch l.batches);
      counted : l.counted ≡ triangles_in (take l.i (map raw_batch l.batches));
      within : l.counted ≤ l.tris;
    }
