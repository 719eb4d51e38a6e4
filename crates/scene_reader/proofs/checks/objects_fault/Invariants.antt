use Rattle.std.proofs.Common.{◌≡◌, drop, take, map}
use Rattle.std.specs.List.{All}
use Rattle.scene_reader.specs.Layout.{IsObject, raw_object}
use Rattle.scene_reader.specs.Fault.{first_among, object_fault}
use Rattle.scene_reader.proofs.checks.objects_fault.Given as goal

abbrev pub invariant-loop-i : goal.invariant-loop-i
invariant-loop-i l =
    record {
      rest : first_among (object_fault l.object_tris) l.i (map raw_object (drop l.i l.objects)) ≡ first_among (object_fault l.object_tris) 0 (map raw_object l.objects);
      valid : All (IsObject l.object_tris) (take l.i l.objects);
    }
