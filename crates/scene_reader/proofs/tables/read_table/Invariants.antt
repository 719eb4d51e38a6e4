use Rattle.std.proofs.Common.{◌≡◌, ◌+◌, ◌*◌, ◌≤◌, length}
use Rattle.scene_reader.specs.Reading.{IsWithin, TakesTable}
use Rattle.scene_reader.proofs.tables.read_table.Given as goal

abbrev pub invariant-loop-i : goal.invariant-loop-i
invariant-loop-i g l =
    record {
      buffer : length l.entry ≡ g.E.Entry.SIZE;
      within : IsWithin l.fn.part (l.fn.taken + g.E.Entry.SIZE * l.i);
      taken : TakesTable g.E.Entry.SIZE l.i g.E.Entry.value (g.S.Source.says l.fn.source) (g.S.Source.says l.source) l.items.items;
      faults : (g.S.Source.says l.fn.source).faults ≤ (g.S.Source.says l.source).faults;
      turns : (g.S.Source.says l.source).turns ≤ (g.S.Source.says l.fn.source).turns + g.E.Entry.SIZE * l.i;
    }
