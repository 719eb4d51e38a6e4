-- Live lines, piece by piece.
use Rattle.std.specs.Prelude.{ℕ, List, [], ◌∷◌, map, filter, codes}
use Rattle.std.specs.Fmt.{decimal}
use Rattle.std.specs.List.{flat_map, join_with_byte, range_with_len}
use Rattle.masked_update.specs.TileOf.{tile_at}
use Rattle.tile_cells.specs.Snapshots.{SnapshotOf, is_held}
use Rattle.cull_report.specs.Live.{LiveLineOf, tile_count, count_text}
use Rattle.cull_report.specs.Text.{verdict_word}
use Rattle.cull_report.specs.declared.live_line.TileCount.{TileCount}

-- of the first n tiles those that a snapshot holds, rising, each with its count
abbrev pub counts_before : SnapshotOf → ℕ → List TileCount
counts_before s n = map (λ t. tile_count t (tile_at s.tiles t).count) (filter (λ t. is_held s t) (range_with_len 0 n))

-- a line's fields before its tiles
unfoldable pub head_text : LiveLineOf → List ℕ
head_text l = join_with_byte 32 (codes "live" ∷ decimal l.frame ∷ decimal l.round ∷ decimal l.object ∷ verdict_word l.verdict ∷ [])

-- tiles with their counts, each after a space
abbrev pub counts_text : List TileCount → List ℕ
counts_text counts = flat_map (λ c. 32 ∷ count_text c) counts
