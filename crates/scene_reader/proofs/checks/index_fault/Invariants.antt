use Rattle.std.proofs.Common.{◌≡◌, drop, take}
use Rattle.std.specs.List.{All}
use Rattle.scene_reader.specs.Layout.{IsTri}
use Rattle.scene_reader.specs.Fault.{first_among, index_fault}
use Rattle.scene_reader.proofs.checks.index_fault.Given as goal

abbrev pub invariant-loop-i : goal.invariant-loop-i
invariant-loop-i l =
    record {
      rest : first_among (index_fault l.table l.vertices) l.i (drop l.i l.triangles) ≡ first_among (index_fault l.table l.vertices) 0 l.triangles;
      valid : All (IsTri l.vertices) (take l.i l.triangles);
    }
