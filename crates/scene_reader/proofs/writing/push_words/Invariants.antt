use Rattle.std.proofs.Common.{◌≡◌, ◌+◌, ◌*◌, ◌++◌, length, take}
use Rattle.std.specs.List.{flat_map}
use Rattle.scene_reader.specs.Layout.{word_bytes}
use Rattle.scene_reader.proofs.writing.push_words.Given as goal

abbrev pub invariant-loop-word : goal.invariant-loop-word
invariant-loop-word l = record {
  bytes : l.piece ≡ l.fn.piece ++ flat_map word_bytes (take l.word-index l.words);
  room : length l.piece ≡ length l.fn.piece + 4 * l.word-index;
}
