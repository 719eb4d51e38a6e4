-- The depth of a piece as a plane over the screen.
use Rattle.std.specs.Prelude.{ℕ, ℤ, pos, true, Bool, IsTrue, ◌↔◌, ◌+◌, ◌*◌, ◌/◌, ◌%◌, ◌<◌, ◌≡◌, ◌^◌, ◌+ℤ◌, ◌-ℤ◌, ◌*ℤ◌, ◌≤ℤ◌, ◌<ℤ◌}
use Rattle.cull_base.specs.Bounds.{Bounded}
use Rattle.std.specs.Int.{int_max}
use Rattle.cull_base.specs.Piece.{Piece, Point, point, vertex, nearness, middle, covers, touches, sample, each_sample, least_of}
use Rattle.cull_base.specs.declared.nearness.TheConstants.{HELD_TOP}
use Rattle.cull_base.specs.Depth.{numerator, denominator, floor_of, cut_to_range, DepthAtLeast, DepthLess}
use Rattle.cull_base.specs.declared.place.Sample.{Sample}
use Rattle.cull_base.specs.declared.place.Sub.{Sub}
use Rattle.cull_base.specs.declared.place.Tile.{Tile}
use Rattle.depth_plane.specs.Corner.{least_place}
use Rattle.depth_plane.specs.declared.floor_lanes.FloorLanes.{FloorLanes}

-- the depth at (x, y) is (across * x + down * y + level) / area
pub record Coefficients : Type 0 where
  pub across : ℤ
  pub down : ℤ
  pub level : ℤ
  pub area : ℤ

abbrev pub coefficients : ℤ → ℤ → ℤ → ℤ → Coefficients
coefficients across down level area = record { across = across; down = down; level = level; area = area }

-- the area is positive, and the sizes keep products inside 128 bits
pub record IsPlane (c : Coefficients) : Type 0 where
  pub across : Bounded (2 ^ 56) c.across
  pub down : Bounded (2 ^ 56) c.down
  pub level : Bounded (2 ^ 87) c.level
  pub positive_area : pos 0 <ℤ c.area
  pub area_within : c.area ≤ℤ pos (2 ^ 61)

-- the sum of three terms, each weighted by the nearness of its vertex
abbrev pub weighted : Piece → ℤ → ℤ → ℤ → ℤ
weighted t a b c = ((pos (nearness t 0) *ℤ a) +ℤ (pos (nearness t 1) *ℤ b)) +ℤ (pos (nearness t 2) *ℤ c)

abbrev pub origin : Point
origin = record { x = pos 0; y = pos 0 }

unfoldable pub plane_of : Piece → Coefficients
plane_of t =
    let a = vertex t 0 in let b = vertex t 1 in let c = vertex t 2 in
    record {
      across = weighted t (b.y -ℤ c.y) (c.y -ℤ a.y) (a.y -ℤ b.y);
      down = weighted t (c.x -ℤ b.x) (a.x -ℤ c.x) (b.x -ℤ a.x);
      level = numerator t origin;
      area = denominator t;
    }

abbrev pub numerator_at : Coefficients → Point → ℤ
numerator_at c p = ((c.across *ℤ p.x) +ℤ (c.down *ℤ p.y)) +ℤ c.level

-- At the samples of a screen of 2048 by 2048 pixels the numerators fit 64 bits; this is the least over the first subtile.
pub record IsNarrow (c : Coefficients) (first : ℤ) : Type 0 where
  pub across : Bounded (2 ^ 46) c.across
  pub down : Bounded (2 ^ 46) c.down
  pub value : first ≡ numerator_at c (point (pos (8 + least_place c.across 112)) (pos (8 + least_place c.down 48)))
  pub within : Bounded (2 ^ 61 + 2 ^ 54) first

-- these are what a plane rises by within a tile, over its area
pub record HasLanes (c : Coefficients) (f : FloorLanes) : Type 0 where
  pub right : f.right ≡ c.across *ℤ pos 128
  pub below : f.below ≡ c.down *ℤ pos 64
  pub size : pos f.size ≡ c.area

-- subtile j of a tile, of two rows of four
abbrev pub sub_in : Tile → ℕ → Sub
sub_in tile j = record { column = 4 * tile.column + j % 4; row = 2 * tile.row + j / 4 }

-- the least numerator over a subtile
abbrev pub least_in : Coefficients → Sub → ℤ
least_in c u = least_of (each_sample (λ k. numerator_at c (sample u k)))

-- the low bound of a subtile by a plane, and by a nearness that it isn't below
abbrev pub low_from : Coefficients → ℕ → Sub → ℕ
low_from c nearness u = cut_to_range HELD_TOP (int_max (pos nearness) (floor_of (least_of (each_sample (λ k. numerator_at c (sample u k)))) c.area))

-- the depth of the first at p is strictly greater than that of the second
abbrev pub IsNearer : Coefficients → Coefficients → Point → Type 0
IsNearer c other p = (numerator_at other p *ℤ c.area) <ℤ (numerator_at c p *ℤ other.area)

abbrev pub point_of : Sample → Point
point_of s = middle s.px s.py

-- the depth of a piece at p is at most v
abbrev pub DepthAtMost : Piece → Point → ℕ → Type 0
DepthAtMost t p v = numerator t p ≤ℤ (pos v *ℤ denominator t)

-- no covered sample of a subtile lies below the bound, and no touched one above it
abbrev pub IsLowBound : Piece → Sub → ℕ → Type 0
IsLowBound t u bound = (k : ℕ) → k < 32 → covers t (sample u k) ≡ true → DepthAtLeast t (sample u k) bound

abbrev pub IsHighBound : Piece → Sub → ℕ → Type 0
IsHighBound t u bound = (k : ℕ) → k < 32 → touches t (sample u k) ≡ true → DepthAtMost t (sample u k) bound

-- the answer says of two pieces, by their planes, whether the first has a strictly greater depth at p
abbrev pub TellsNearerPiece : Coefficients → Coefficients → Point → Bool → Type 0
TellsNearerPiece c other p answer = (s t : Piece) → c ≡ plane_of s → other ≡ plane_of t → (IsTrue answer ↔ DepthLess t s p)
