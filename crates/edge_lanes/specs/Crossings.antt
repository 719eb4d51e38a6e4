-- Where the edges of a piece cross the rows of samples of a screen of 2048 by 2048 pixels.
use Rattle.std.specs.Prelude.{ℕ, ℤ, pos, ◌≡◌, ◌+◌, ◌*◌, ◌/◌, ◌%◌, ◌^◌, ◌<◌, ◌*ℤ◌, ◌≤ℤ◌, neg_ℤ, List, Bool, ◌&&◌}
use Rattle.std.specs.Borrow.{Bor}
use Rattle.cull_base.specs.Piece.{each_sample}
use Rattle.cull_base.specs.declared.place.Sub.{Sub}
use Rattle.edge_lanes.specs.Lines.{Line, Lines, counts_at, is_inside}
use Rattle.edge_lanes.specs.Inside.{inside_of}
use Rattle.edge_lanes.specs.Between.{column_at, is_between}
use Rattle.edge_lanes.specs.Spans.{in_span}
use Rattle.cull_base.specs.Bounds.{Bounded}
use Rattle.edge_lanes.specs.declared.turned.Turned.{Turned}
use Rattle.edge_lanes.specs.declared.turned.TurnedEdges.{TurnedEdges}
use Rattle.edge_lanes.specs.declared.crossing.Crossing.{Crossing}
use Rattle.edge_lanes.specs.declared.crossings.Crossings.{Crossings}
use Rattle.edge_lanes.specs.declared.spans.Spans.{Spans}
use Rattle.edge_lanes.specs.declared.row_edges.RowKind.{RowKind}
use Rattle.edge_lanes.specs.declared.row_edges.RowKind.TheVariants.{Crossed, Plain}
use Rattle.edge_lanes.specs.declared.row_edges.RowEdges.{RowEdges}
use Rattle.edge_lanes.specs.declared.row_edges.EdgesView.{EdgesView}
use Rattle.edge_lanes.specs.declared.row_edges.EdgesView.TheVariants as lent

-- the column where an edge crosses a row
abbrev pub crossed_at : Crossing → ℕ → ℤ
crossed_at c y = column_at c.start c.step (pos (2 ^ 32)) y

-- whether a pixel's sample is inside an edge
abbrev pub is_beside : Crossing → ℕ → ℕ → Bool
is_beside c x y = is_between (crossed_at c y) c.limit x

-- and inside three
abbrev pub is_within : Crossings → ℕ → ℕ → Bool
is_within c x y = is_beside c.first x y && (is_beside c.second x y && is_beside c.third x y)

-- on such a screen the turned edge says of each sample what the edge does
abbrev pub IsTurned : Line → Turned → Type 0
IsTurned e t = (x y : ℕ) → x < 2 ^ 11 → y < 2 ^ 11 → is_between (column_at t.start t.row t.size y) t.limit x ≡ counts_at e x y

pub record AreTurned (e : Lines) (t : TurnedEdges) : Type 0 where
  pub first : IsTurned e.first t.first
  pub second : IsTurned e.second t.second
  pub third : IsTurned e.third t.third

-- the crossings of all rows, in parts of 2^-32 of a pixel, fit 64 bits
pub record IsNear (t : Turned) : Type 0 where
  pub start : Bounded (2 ^ 30) t.start
  pub above : t.row ≤ℤ (pos (2 ^ 18) *ℤ t.size)
  pub below : (neg_ℤ (pos (2 ^ 18)) *ℤ t.size) ≤ℤ t.row

pub record AreNear (t : TurnedEdges) : Type 0 where
  pub first : IsNear t.first
  pub second : IsNear t.second
  pub third : IsNear t.third

-- the crossings say of each sample what the edges do
abbrev pub AreCrossings : Lines → Crossings → Type 0
AreCrossings e c = (x y : ℕ) → x < 2 ^ 11 → y < 2 ^ 11 → is_within c x y ≡ is_inside e x y

-- the spans of the rows of a row of tiles
abbrev pub AreSpans : Crossings → ℕ → Spans → Type 0
AreSpans c row s = (r x : ℕ) → r < 8 → x < 2 ^ 11 → in_span s r x ≡ is_within c x (8 * row + r)

-- nothing is said of the spans of plain edges
abbrev pub AreSpansOf : EdgesView → ℕ → Spans → Type 0
AreSpansOf v row s = (c : Bor Crossings) → v ≡ lent.Crossed c → AreSpans c.now row s

-- which samples of a subtile lie inside
abbrev pub crossed_in : Crossings → Sub → List Bool
crossed_in c u = each_sample (λ k. is_within c (8 * u.column + k % 8) (4 * u.row + k / 8))

abbrev pub inside_kind : RowKind → Sub → List Bool
inside_kind (Crossed c) u = crossed_in c u
inside_kind (Plain e) u = inside_of e u

unfoldable pub inside_rows : RowEdges → Sub → List Bool
inside_rows e u = inside_kind e.kind u

-- and of edges that are lent
abbrev pub inside_lent : EdgesView → Sub → List Bool
inside_lent (lent.Crossed c) u = crossed_in c.now u
inside_lent (lent.Plain e) u = inside_of e.now u

unfoldable pub inside_view : EdgesView → Sub → List Bool
inside_view v u = inside_lent v u
