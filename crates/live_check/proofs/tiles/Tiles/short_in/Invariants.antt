use Rattle.std.proofs.Common.{◌≡◌, ℕ, ◌+◌, ◌*◌, ◌<◌, ◌≤◌, true, false}
use Rattle.cull_base.specs.Screen.{tile_columns_of}
use Rattle.live_check.specs.Moving.{is_short_at}
use Rattle.live_check.specs.Standing.{IsIn}
use Rattle.live_check.proofs.Held.{HeldBefore}
use Rattle.live_check.proofs.tiles.Tiles.short_in.Given as goal

abbrev pub invariant-loop-row : goal.invariant-loop-row
invariant-loop-row l =
    let s = l.fn.self in
    record {
      none : l.short ≡ 0 → HeldBefore (λ t. is_short_at s t l.fn.place ≡ false) s.size l.fn.span (l.row * tile_columns_of s.size);
      some : 0 < l.short → (t : ℕ) × IsIn s l.fn.span t × (is_short_at s t l.fn.place ≡ true);
      few : l.short ≤ l.row * 64;
    }

abbrev pub invariant-loop-column : goal.invariant-loop-column
invariant-loop-column l =
    let s = l.fn.self in
    record {
      none : l.short ≡ 0 → HeldBefore (λ t. is_short_at s t l.fn.place ≡ false) s.size l.fn.span (l.row * tile_columns_of s.size + l.column);
      some : 0 < l.short → (t : ℕ) × IsIn s l.fn.span t × (is_short_at s t l.fn.place ≡ true);
      few : l.short ≤ l.row * 64 + l.column;
    }
