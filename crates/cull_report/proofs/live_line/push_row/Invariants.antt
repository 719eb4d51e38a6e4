use Rattle.std.proofs.Common.{◌≡◌, ◌+◌, ◌*◌, vec_capacity}
use Rattle.cull_base.specs.Screen.{tile_columns_of}
use Rattle.cull_report.specs.LivePieces.{counts_before}
use Rattle.cull_report.proofs.live_line.push_row.Given as goal

abbrev pub invariant-loop-column : goal.invariant-loop-column
invariant-loop-column l = record {
  counts : l.counts.items ≡ counts_before l.view (l.fn.row * tile_columns_of l.view.size + l.column);
  room : vec_capacity l.counts ≡ vec_capacity l.fn.counts;
}
