-- Which samples lie inside the three edges of a piece.
use Rattle.std.specs.Prelude.{ℕ, ℤ, pos, ◌≡◌, ◌+◌, ◌*◌, ◌/◌, ◌%◌, ◌^◌, ◌-ℤ◌, ◌*ℤ◌, List, Bool}
use Rattle.cull_base.specs.Bounds.{Bounded}
use Rattle.cull_base.specs.declared.place.Sub.{Sub}
use Rattle.cull_base.specs.declared.place.Tile.{Tile}
use Rattle.edge_lanes.specs.Around.{lane}
use Rattle.edge_lanes.specs.Lines.{Line, Lines, line, clamped, inside_lines, tile_value}
use Rattle.edge_lanes.specs.declared.narrow_edge.NarrowEdge.{NarrowEdge}
use Rattle.edge_lanes.specs.declared.narrow_edges.NarrowEdges.{NarrowEdges}
use Rattle.edge_lanes.specs.declared.wide_edge.WideEdge.{WideEdge}
use Rattle.edge_lanes.specs.declared.wide_edges.WideEdges.{WideEdges}
use Rattle.edge_lanes.specs.declared.edges.Kind.{Kind}
use Rattle.edge_lanes.specs.declared.edges.Kind.TheVariants.{Narrow, Wide}
use Rattle.edge_lanes.specs.declared.edges.Edges.{Edges}
use Rattle.edge_lanes.specs.declared.small_edge.SmallEdge.{SmallEdge}
use Rattle.edge_lanes.specs.declared.small_edges.SmallEdges.{SmallEdges}

abbrev pub narrow_line : NarrowEdge → Line
narrow_line e = line e.start e.column e.row

abbrev pub wide_line : WideEdge → Line
wide_line e = line e.start e.column e.row

abbrev pub narrow_lines : NarrowEdges → Lines
narrow_lines e = record { first = narrow_line e.first; second = narrow_line e.second; third = narrow_line e.third }

abbrev pub wide_lines : WideEdges → Lines
wide_lines e = record { first = wide_line e.first; second = wide_line e.second; third = wide_line e.third }

-- an edge by its steps alone
abbrev pub slope : SmallEdge → Line
slope e = line (pos 0) e.column e.row

abbrev pub slopes : SmallEdges → Lines
slopes e = record { first = slope e.first; second = slope e.second; third = slope e.third }

-- an edge that has this value at the sample of a pixel
abbrev pub small_line : ℤ → ℤ → ℤ → SmallEdge → Line
small_line right below start e = line ((start -ℤ (e.column *ℤ right)) -ℤ (e.row *ℤ below)) e.column e.row

abbrev pub small_lines : SmallEdges → Lines
small_lines e = record {
  first = small_line e.right e.below (lane e.start 0) e.first;
  second = small_line e.right e.below (lane e.start 1) e.second;
  third = small_line e.right e.below (lane e.start 2) e.third;
}

abbrev pub lines_of_kind : Kind → Lines
lines_of_kind (Narrow e) = narrow_lines e
lines_of_kind (Wide e) = wide_lines e

-- which samples of a subtile lie inside all three edges
unfoldable pub inside_of : Edges → Sub → List Bool
inside_of e u = inside_lines (lines_of_kind e.kind) u

unfoldable pub inside_small : SmallEdges → Sub → List Bool
inside_small e u = inside_lines (small_lines e) u

-- subtile j of a tile, of which it has four columns and two rows
abbrev pub sub_of : Tile → ℕ → Sub
sub_of tile j = record { column = 4 * tile.column + j % 4; row = 2 * tile.row + j / 4 }

-- an edge's value at a tile, as it is held, and how far it may lie from 0
abbrev pub held_value : Kind → ℤ → ℤ
held_value (Narrow e) v = clamped v
held_value (Wide e) v = v

abbrev pub held_bound : Kind → ℕ
held_bound (Narrow e) = 2 ^ 30
held_bound (Wide e) = 2 ^ 61 + 2 ^ 47

-- an edge of a piece begins a tile with this value
abbrev pub StartsAt : Kind → Line → Tile → ℤ → Type 0
StartsAt kind e tile v = (v ≡ held_value kind (tile_value e tile)) × Bounded (held_bound kind) v
