use Rattle.std.proofs.Common.{◌≡◌}
use Rattle.cull_base.specs.Screen.{tile_columns_of}
use Rattle.masked_update.specs.Grid.{is_in_rows}
use Rattle.tile_cells.specs.Snapshots.{ReadWhere}
use Rattle.tile_cells.proofs.reader.TileReader.read_span.Given as goal

abbrev pub invariant-loop-row : goal.invariant-loop-row
invariant-loop-row g l =
    ReadWhere (is_in_rows (tile_columns_of l.initial.into.size) l.fn.span.first_row l.row l.fn.span.first_column l.fn.span.end_column) l.initial.self l.self l.initial.into l.into
    × (l.into.span ≡ l.initial.into.span)
