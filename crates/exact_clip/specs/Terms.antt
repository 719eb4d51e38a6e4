-- The product of two floats in whole units, rounded down.
use Rattle.std.specs.Prelude.{ℕ, ℤ, pos, ◌≡◌, ◌+◌, ◌-◌, ◌^◌, ◌≤◌, ◌+ℤ◌, ◌*ℤ◌, ◌≤ℤ◌, ◌<ℤ◌, List, slice_index, min}
use Rattle.cull_base.specs.Bounds.{Bounded}
use Rattle.float_bits.specs.Floats.{whole_of, power_of}
use Rattle.float_bits.specs.declared.number.Number.{Number}
use Rattle.exact_clip.specs.Clip.{Clip, number_at}
use Rattle.exact_clip.specs.declared.held.Held.{Held}
use Rattle.exact_clip.specs.declared.term.Factor.{Factor}
use Rattle.exact_clip.specs.declared.column.Column.{Column}

-- the floor of n over d
pub record IsFloor (n : ℤ) (d : ℕ) (floor : ℤ) : Type 0 where
  pub low : (floor *ℤ pos d) ≤ℤ n
  pub high : n <ℤ ((floor *ℤ pos d) +ℤ pos d)

-- A float of a matrix for one unit: 4096 times its mantissa; numbers from this power on have too great a product with it.
pub record IsFactor (exponent bits : ℕ) (f : Factor) : Type 0 where
  pub value : f.mantissa *ℤ pos (2 ^ power_of bits) ≡ whole_of bits *ℤ pos 4096
  pub room : f.room ≡ (exponent + 13) - power_of bits
  pub bounded : Bounded (2 ^ 36) f.mantissa

-- the floats of a matrix by which a coordinate is multiplied: for x, for y and for w
pub record IsColumn (exponent : ℕ) (matrix : List ℕ) (k : ℕ) (c : Column) : Type 0 where
  pub x : IsFactor exponent (slice_index matrix k) c.x
  pub y : IsFactor exponent (slice_index matrix (k + 4)) c.y
  pub w : IsFactor exponent (slice_index matrix (k + 8)) c.w
  pub room : c.room ≡ min (min c.x.room c.y.room) c.w.room

-- the factors are no greater than a float's, and the room is that of each
pub record IsNarrow (c : Column) : Type 0 where
  pub x : Bounded (2 ^ 36) c.x.mantissa
  pub y : Bounded (2 ^ 36) c.y.mantissa
  pub w : Bounded (2 ^ 36) c.w.mantissa
  pub x_room : c.room ≤ c.x.room
  pub y_room : c.room ≤ c.y.room
  pub w_room : c.room ≤ c.w.room

pub record IsTerm (f : Factor) (n : Number) (term : ℤ) : Type 0 where
  pub floor : IsFloor (f.mantissa *ℤ n.mantissa) (2 ^ (f.room - 1 - n.power)) term
  pub bounded : Bounded (2 ^ 60) term

pub record AreTerms (c : Column) (n : Number) (v : Held) : Type 0 where
  pub x : IsTerm c.x n v.x
  pub y : IsTerm c.y n v.y
  pub w : IsTerm c.w n v.w

-- an exact number in whole units, rounded down
pub record IsCut (unit : ℕ) (term exact : ℤ) : Type 0 where
  pub floor : IsFloor exact unit term
  pub bounded : Bounded (2 ^ 60) term

pub record AreSmall (v : Held) : Type 0 where
  pub x : Bounded (2 ^ 60) v.x
  pub y : Bounded (2 ^ 60) v.y
  pub w : Bounded (2 ^ 60) v.w

pub record AreCuts (unit : ℕ) (v : Held) (exact : Clip) : Type 0 where
  pub x : IsCut unit v.x exact.x
  pub y : IsCut unit v.y exact.y
  pub w : IsCut unit v.w exact.w
  pub small : AreSmall v

-- what a coordinate adds to a position's clip coordinates by column k
abbrev pub column_times : List ℕ → ℕ → ℤ → Clip
column_times matrix k v =
    record {
      x = number_at matrix k *ℤ v;
      y = number_at matrix (k + 4) *ℤ v;
      w = number_at matrix (k + 8) *ℤ v;
    }

-- sums of four
pub record IsSum (a b c d sum : Held) : Type 0 where
  pub x : sum.x ≡ ((a.x +ℤ b.x) +ℤ c.x) +ℤ d.x
  pub y : sum.y ≡ ((a.y +ℤ b.y) +ℤ c.y) +ℤ d.y
  pub w : sum.w ≡ ((a.w +ℤ b.w) +ℤ c.w) +ℤ d.w
