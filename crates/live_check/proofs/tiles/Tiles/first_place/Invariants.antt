use Rattle.std.proofs.Common.{◌+◌, ◌*◌, ◌<◌, ◌≤◌}
use Rattle.std.specs.Prelude.{slice_index}
use Rattle.cull_base.specs.Screen.{tile_columns_of}
use Rattle.live_check.specs.Standing.{count_at}
use Rattle.live_check.proofs.Held.{HeldBefore}
use Rattle.live_check.proofs.tiles.Tiles.first_place.Given as goal

abbrev pub invariant-loop-row : goal.invariant-loop-row
invariant-loop-row l =
    let s = l.fn.self in
    record {
      most : l.least ≤ l.fn.len;
      held : HeldBefore (λ t. count_at s t < slice_index s.stated t → slice_index s.behind t < l.fn.len → l.least ≤ slice_index s.behind t) s.size l.fn.span (l.row * tile_columns_of s.size);
    }

abbrev pub invariant-loop-column : goal.invariant-loop-column
invariant-loop-column l =
    let s = l.fn.self in
    record {
      most : l.least ≤ l.fn.len;
      held : HeldBefore (λ t. count_at s t < slice_index s.stated t → slice_index s.behind t < l.fn.len → l.least ≤ slice_index s.behind t) s.size l.fn.span (l.row * tile_columns_of s.size + l.column);
    }
