use Rattle.std.proofs.Common.{◌≡◌, ◌+◌, ◌*◌, ◌≤◌, length}
use Rattle.scene_reader.specs.Reading.{IsWithin, TakesBatchTable}
use Rattle.scene_reader.proofs.batches.read_batch_table.Given as goal

abbrev pub invariant-loop-i : goal.invariant-loop-i
invariant-loop-i g l =
    record {
      buffer : length l.entry ≡ 5;
      within : IsWithin l.fn.part (l.fn.taken + 5 * l.i);
      taken : TakesBatchTable l.i l.tris (g.S.Source.says l.fn.source) (g.S.Source.says l.source) l.batches;
      faults : (g.S.Source.says l.fn.source).faults ≤ (g.S.Source.says l.source).faults;
      turns : (g.S.Source.says l.source).turns ≤ (g.S.Source.says l.fn.source).turns + 5 * l.i;
    }
