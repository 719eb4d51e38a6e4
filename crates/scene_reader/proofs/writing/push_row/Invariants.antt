use Rattle.std.proofs.Common.{◌≡◌, ◌+◌, ◌*◌, ◌++◌, length, take}
use Rattle.scene_reader.specs.Layout.{row_bytes}
use Rattle.scene_reader.proofs.writing.push_row.Given as goal

abbrev pub invariant-loop-number : goal.invariant-loop-number
invariant-loop-number l = record {
  bytes : l.piece ≡ l.fn.piece ++ row_bytes (take l.number-index l.row);
  room : length l.piece ≡ length l.fn.piece + 4 * l.number-index;
}
