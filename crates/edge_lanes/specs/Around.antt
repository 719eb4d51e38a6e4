-- Values of a piece's three edges side by side, in four lanes.
use Rattle.std.specs.Prelude.{ℕ, ℤ, pos, neg_ℤ, ◌≡◌, ◌^◌, ◌+ℤ◌, ◌-ℤ◌, ◌*ℤ◌, List, [], ◌∷◌, slice_index_or}
use Rattle.std.specs.Int.{int_div_euclid, int_max}
use Rattle.cull_base.specs.Bounds.{Bounded}
use Rattle.cull_base.specs.Piece.{point}
use Rattle.cull_base.specs.declared.place.Sub.{Sub}
use Rattle.cull_base.specs.declared.triangle.Side.TheVariants.{Occluder}
use Rattle.edge_lanes.specs.Lines.{IsEdge, Lines, held_few, sub_value}

-- three values, and the first of them again
abbrev pub around : ℤ → ℤ → ℤ → List ℤ
around a b c = a ∷ b ∷ c ∷ a ∷ []

abbrev pub lane : List ℤ → ℕ → ℤ
lane xs k = slice_index_or xs k (pos 0)

-- such lanes, each of which lies at most so far from 0
pub record AreBounded (n : ℕ) (xs : List ℤ) : Type 0 where
  pub are_three : xs ≡ around (lane xs 0) (lane xs 1) (lane xs 2)
  pub first : Bounded n (lane xs 0)
  pub second : Bounded n (lane xs 1)
  pub third : Bounded n (lane xs 2)

-- three coordinates that lie near the screen and near each other
pub record AreClose (xs : List ℤ) : Type 0 where
  pub near : Bounded (2 ^ 22) (lane xs 0)
  pub first : Bounded (2 ^ 10) (lane xs 1 -ℤ lane xs 0)
  pub second : Bounded (2 ^ 10) (lane xs 2 -ℤ lane xs 1)
  pub third : Bounded (2 ^ 10) (lane xs 0 -ℤ lane xs 2)

-- from each to the next, and back
abbrev pub steps_around : List ℤ → List ℤ
steps_around xs = around (lane xs 1 -ℤ lane xs 0) (lane xs 2 -ℤ lane xs 1) (lane xs 0 -ℤ lane xs 2)

abbrev pub steps_back : List ℤ → List ℤ
steps_back xs = around (lane xs 0 -ℤ lane xs 1) (lane xs 1 -ℤ lane xs 2) (lane xs 2 -ℤ lane xs 0)

-- how far a value lies from 0
abbrev pub size_of : ℤ → ℤ
size_of v = int_max v (neg_ℤ v)

-- the value of edge k at a sample that lies so far past its begin
abbrev pub value_past : List ℤ → List ℤ → List ℤ → List ℤ → ℕ → ℤ
value_past row column right below k = (lane row k *ℤ lane below k) +ℤ (lane column k *ℤ lane right k)

-- the bias of edge k, as a sign
abbrev pub sign_of : List ℤ → List ℤ → ℕ → ℤ
sign_of row column k = int_div_euclid ((lane row k +ℤ (lane column k *ℤ pos 2048)) -ℤ pos 1) (pos (2 ^ 31))

-- the value of edge k so many pixels further
abbrev pub value_from : List ℤ → List ℤ → List ℤ → ℤ → ℤ → ℕ → ℤ
value_from start column row across down k = (lane start k +ℤ (lane column k *ℤ across)) +ℤ (lane row k *ℤ down)

-- the edges of an occluder's piece whose vertices have these coordinates
pub record AreBetween (e : Lines) (x y : List ℤ) : Type 0 where
  pub first : IsEdge e.first Occluder (point (lane x 0) (lane y 0)) (point (lane x 1) (lane y 1))
  pub second : IsEdge e.second Occluder (point (lane x 1) (lane y 1)) (point (lane x 2) (lane y 2))
  pub third : IsEdge e.third Occluder (point (lane x 2) (lane y 2)) (point (lane x 0) (lane y 0))

-- the edges' values at the first sample of a subtile, as they are held in 16 bits
pub record AreStarts (e : Lines) (u : Sub) (xs : List ℤ) : Type 0 where
  pub first : lane xs 0 ≡ held_few (sub_value e.first u)
  pub second : lane xs 1 ≡ held_few (sub_value e.second u)
  pub third : lane xs 2 ≡ held_few (sub_value e.third u)
