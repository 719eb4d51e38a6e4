use Rattle.std.proofs.Common.{◌≡◌, ◌+◌, ◌*◌, ◌≤◌, length}
use Rattle.scene_reader.specs.Reading.{IsWithin, TakesObjects}
use Rattle.scene_reader.proofs.objects.read_objects.Given as goal

abbrev pub invariant-loop-i : goal.invariant-loop-i
invariant-loop-i g l =
    record {
      buffer : length l.entry ≡ 25;
      within : IsWithin l.fn.part (l.fn.taken + 25 * l.i);
      taken : TakesObjects l.i l.object_tris (g.S.Source.says l.fn.source) (g.S.Source.says l.source) l.objects;
      faults : (g.S.Source.says l.fn.source).faults ≤ (g.S.Source.says l.source).faults;
      turns : (g.S.Source.says l.source).turns ≤ (g.S.Source.says l.fn.source).turns + 25 * l.i;
    }
