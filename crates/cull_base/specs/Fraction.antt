-- Fractions: a numerator over a positive denominator, compared by cross products.
use Rattle.std.specs.Prelude.{ℤ, pos, ◌*ℤ◌, ◌<ℤ◌, List, [], ◌∷◌, cond, int_lt}
use Rattle.std.specs.List.{fold}
use Rattle.cull_base.specs.Piece.{Piece, Point}
use Rattle.cull_base.specs.Depth.{numerator, denominator}

pub record Fraction : Type 0 where
  pub numerator : ℤ
  pub denominator : ℤ

abbrev pub whole_number : ℤ → Fraction
whole_number n = record { numerator = n; denominator = pos 1 }

-- the depth of a piece at a point
abbrev pub depth_at : Piece → Point → Fraction
depth_at t p = record { numerator = numerator t p; denominator = denominator t }

abbrev pub greater : Fraction → Fraction → Fraction
greater a b = cond (int_lt (a.numerator *ℤ b.denominator) (b.numerator *ℤ a.denominator)) b a

-- the greatest of some, 0 of none
abbrev pub greatest_fraction : List Fraction → Fraction
greatest_fraction [] = whole_number (pos 0)
greatest_fraction (x ∷ xs) = fold greater x xs

-- the first is strictly less than the second
abbrev pub IsBelow : Fraction → Fraction → Type 0
IsBelow a b = (a.numerator *ℤ b.denominator) <ℤ (b.numerator *ℤ a.denominator)
