use Rattle.std.proofs.Common.{◌≡◌, ◌*◌, ◌≤◌, length, take}
use Rattle.std.specs.List.{flat_map}
use Rattle.scene_reader.proofs.writing.piece_of.Given as goal

abbrev pub invariant-loop-entry : goal.invariant-loop-entry
invariant-loop-entry g l = record {
  bytes : l.piece ≡ flat_map g.E.Written.bytes (take l.entry-index l.entries);
  room : length l.piece ≤ 48 * l.entry-index;
}
