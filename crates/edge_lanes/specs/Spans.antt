-- The columns of samples that are inside, row by row of a row of tiles.
use Rattle.std.specs.Prelude.{ℕ, ◌≡◌, ◌+◌, ◌*◌, ◌/◌, ◌%◌, ◌<◌, ◌≤◌, List, Bool, false, ◌&&◌, nat_le, nat_lt, slice_index_or}
use Rattle.std.specs.Int.{bit_at}
use Rattle.cull_base.specs.Piece.{each_sample}
use Rattle.edge_lanes.specs.declared.spans.Spans.{Spans}

-- column x is in the span of row r, of eight rows
abbrev pub in_span : Spans → ℕ → ℕ → Bool
in_span s r x = nat_le (slice_index_or s.first r 0) x && nat_lt x (slice_index_or s.end r 0)

-- which samples of subtile j of the tile in a column are in the spans
abbrev pub spanned : Spans → ℕ → ℕ → List Bool
spanned s column j = each_sample (λ k. in_span s (4 * (j / 4) + k / 8) (8 * (4 * column + j % 4) + k % 8))

-- bit i is clear only where no row has a column of the tile that lies i tiles to the right
abbrev pub AreMet : Spans → ℕ → ℕ → Type 0
AreMet s column bits = (i : ℕ) → i < 8 → bit_at bits i ≡ 0 → (r x : ℕ) → r < 8 → 32 * (column + i) ≤ x → x < 32 * (column + i) + 32 → in_span s r x ≡ false
