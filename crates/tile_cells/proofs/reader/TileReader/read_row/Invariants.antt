use Rattle.std.proofs.Common.{◌≡◌, ◌+◌}
use Rattle.cull_base.specs.Screen.{tile_columns_of}
use Rattle.masked_update.specs.Grid.{is_in_rows}
use Rattle.tile_cells.specs.Snapshots.{ReadWhere}
use Rattle.tile_cells.proofs.reader.TileReader.read_row.Given as goal

abbrev pub invariant-loop-column : goal.invariant-loop-column
invariant-loop-column g l =
    ReadWhere (is_in_rows (tile_columns_of l.initial.into.size) l.fn.row (l.fn.row + 1) l.fn.span.first_column l.column) l.initial.self l.self l.initial.into l.into
    × (l.into.span ≡ l.initial.into.span)
