-- The values of an edge at the samples of the screen's pixels.
use Rattle.std.specs.Prelude.{ℕ, ℤ, pos, ◌≡◌, ◌+◌, ◌*◌, ◌/◌, ◌%◌, ◌^◌, ◌+ℤ◌, ◌-ℤ◌, ◌*ℤ◌, neg_ℤ, List, Bool, not, ◌&&◌, ◌||◌, bit_and}
use Rattle.std.specs.Int.{int_min, int_max}
use Rattle.std.specs.Simd.Lanes.{mask_l}
use Rattle.cull_base.specs.Bounds.{Bounded}
use Rattle.cull_base.specs.Piece.{Piece, Point, edge_value, middle, is_top_or_left, each_sample, vertex}
use Rattle.cull_base.specs.declared.triangle.Side.{Side}
use Rattle.cull_base.specs.declared.place.Sub.{Sub}
use Rattle.cull_base.specs.declared.place.Tile.{Tile}
use Rattle.edge_lanes.specs.Lanes.{is_not_negative, bias_of, highest_of, lowest_of, subtile_signs, subtile_step}

-- the value at the first pixel's sample, and what a pixel to the right adds to it and one below
pub record Line : Type 0 where
  pub start : ℤ
  pub column : ℤ
  pub row : ℤ

abbrev pub line : ℤ → ℤ → ℤ → Line
line start column row = record { start = start; column = column; row = row }

abbrev pub value_at : Line → ℕ → ℕ → ℤ
value_at e x y = (e.start +ℤ (e.column *ℤ pos x)) +ℤ (e.row *ℤ pos y)

-- a pixel's sample counts where the value isn't negative
abbrev pub counts_at : Line → ℕ → ℕ → Bool
counts_at e x y = is_not_negative (value_at e x y)

-- the edge from a to b, for one side: its values have the signs of the edge's, with the side's bias
abbrev pub IsEdge : Line → Side → Point → Point → Type 0
IsEdge e side a b = (x y : ℕ) → counts_at e x y ≡ is_not_negative (edge_value a b (middle x y) +ℤ bias_of side (is_top_or_left a b))

-- less than 2^20 sixteenths each way
pub record IsShort (a b : Point) : Type 0 where
  pub across : Bounded (2 ^ 20) (b.x -ℤ a.x)
  pub down : Bounded (2 ^ 20) (b.y -ℤ a.y)

pub record IsNarrow (t : Piece) : Type 0 where
  pub first : IsShort (vertex t 0) (vertex t 1)
  pub second : IsShort (vertex t 1) (vertex t 2)
  pub third : IsShort (vertex t 2) (vertex t 0)

-- a value of an edge that passes at most 2^10 sixteenths each way, held in 16 bits, of the same sign
abbrev pub held_few : ℤ → ℤ
held_few v = int_max (neg_ℤ (pos (2 ^ 14))) (int_min v (pos (2 ^ 14)))

-- a value held in 31 bits, of the same sign
abbrev pub clamped : ℤ → ℤ
clamped v = int_max (neg_ℤ (pos (2 ^ 30))) (int_min v (pos (2 ^ 30)))

-- the three edges of a piece
pub record Lines : Type 0 where
  pub first : Line
  pub second : Line
  pub third : Line

-- the edges are those of a piece, for one side
pub record AreEdges (e : Lines) (side : Side) (t : Piece) : Type 0 where
  pub first : IsEdge e.first side (vertex t 0) (vertex t 1)
  pub second : IsEdge e.second side (vertex t 1) (vertex t 2)
  pub third : IsEdge e.third side (vertex t 2) (vertex t 0)

abbrev pub is_inside : Lines → ℕ → ℕ → Bool
is_inside e x y = counts_at e.first x y && (counts_at e.second x y && counts_at e.third x y)

-- which samples of a subtile lie inside all three
unfoldable pub inside_lines : Lines → Sub → List Bool
inside_lines e u = each_sample (λ k. is_inside e (8 * u.column + k % 8) (4 * u.row + k / 8))

-- sample k of a subtile is inside an edge that has this value at the subtile's first sample, and inside three
abbrev pub inside_from : Line → ℤ → ℕ → Bool
inside_from e start k = is_not_negative ((start +ℤ (e.row *ℤ pos (k / 8))) +ℤ (e.column *ℤ pos (k % 8)))

abbrev pub inside_all : Lines → ℤ → ℤ → ℤ → ℕ → Bool
inside_all e s t u k = inside_from e.first s k && (inside_from e.second t k && inside_from e.third u k)

-- outside such an edge, and outside one of three
abbrev pub outside_from : Line → ℤ → ℕ → Bool
outside_from e start k = not (inside_from e start k)

abbrev pub outside_any : Lines → ℤ → ℤ → ℤ → ℕ → Bool
outside_any e s t u k = outside_from e.first s k || (outside_from e.second t k || outside_from e.third u k)

-- at the first sample of a tile
abbrev pub tile_value : Line → Tile → ℤ
tile_value e tile = value_at e (8 * (4 * tile.column)) (4 * (2 * tile.row))

-- at the first sample of a subtile
abbrev pub sub_value : Line → Sub → ℤ
sub_value e u = value_at e (8 * u.column) (4 * u.row)

-- at the first sample of subtile j, in a tile that begins with this value
abbrev pub moved_to : Line → ℤ → ℕ → ℤ
moved_to e start j = start +ℤ subtile_step e.column e.row j

-- bit j is clear where an edge rejects all of subtile j, in a tile that begins with this value; where one of three does
abbrev pub candidates_of : Line → ℤ → ℕ
candidates_of e start = subtile_signs e.column e.row (start +ℤ highest_of e.column e.row)

abbrev pub candidates_of_all : Lines → ℤ → ℤ → ℤ → ℕ
candidates_of_all e s t u = bit_and (bit_and (candidates_of e.first s) (candidates_of e.second t)) (candidates_of e.third u)

-- bit j is set only where an edge accepts all of subtile j, in a tile that begins with this value; where each of three does
abbrev pub whole_of : Line → ℤ → ℕ
whole_of e start = subtile_signs e.column e.row (start +ℤ lowest_of e.column e.row)

abbrev pub whole_of_all : Lines → ℤ → ℤ → ℤ → ℕ
whole_of_all e s t u = bit_and (bit_and (whole_of e.first s) (whole_of e.second t)) (whole_of e.third u)

-- the mask of subtile j in a tile that begins with these values
abbrev pub mask_of_all : Lines → ℤ → ℤ → ℤ → ℕ → ℕ
mask_of_all e s t u j = mask_l (each_sample (inside_all e (moved_to e.first s j) (moved_to e.second t j) (moved_to e.third u j)))
