-- The depth of a piece at a sample as a fraction, and its bounds over a subtile.
use Rattle.std.specs.Prelude.{ℕ, ℤ, pos, negsuc, ◌+ℤ◌, ◌*ℤ◌, ◌≤ℤ◌, ◌<ℤ◌, neg_ℤ, min, max}
use Rattle.std.specs.Int.{int_min, int_max, int_div_euclid}
use Rattle.cull_base.specs.Piece.{Piece, Point, vertex, nearness, edge_value, doubled_area, sample, each_sample, least_of, greatest_of}
use Rattle.cull_base.specs.declared.nearness.TheConstants.{HELD_TOP}
use Rattle.cull_base.specs.declared.place.Sub.{Sub}

-- the sum over the vertices of nearness times the value of the opposite edge
abbrev pub numerator : Piece → Point → ℤ
numerator t p =
    ((pos (nearness t 0) *ℤ edge_value (vertex t 1) (vertex t 2) p)
    +ℤ (pos (nearness t 1) *ℤ edge_value (vertex t 2) (vertex t 0) p))
    +ℤ (pos (nearness t 2) *ℤ edge_value (vertex t 0) (vertex t 1) p)

-- the depth is the numerator over the doubled area
abbrev pub denominator : Piece → ℤ
denominator t = doubled_area t

-- the depth at p is at least v
abbrev pub DepthAtLeast : Piece → Point → ℕ → Type 0
DepthAtLeast t p v = (pos v *ℤ denominator t) ≤ℤ numerator t p

-- the depth of s at p is no greater than that of t, and strictly less
abbrev pub DepthNoGreater : Piece → Piece → Point → Type 0
DepthNoGreater s t p = (numerator s p *ℤ denominator t) ≤ℤ (numerator t p *ℤ denominator s)

abbrev pub DepthLess : Piece → Piece → Point → Type 0
DepthLess s t p = (numerator s p *ℤ denominator t) <ℤ (numerator t p *ℤ denominator s)

-- the number from 0 to a top that is closest to z
abbrev pub cut_to_range : ℕ → ℤ → ℕ
cut_to_range top (pos n) = min n top
cut_to_range top (negsuc n) = 0

abbrev pub floor_of : ℤ → ℤ → ℤ
floor_of n d = int_div_euclid n d

abbrev pub ceiling_of : ℤ → ℤ → ℤ
ceiling_of n d = neg_ℤ (int_div_euclid (neg_ℤ n) d)

abbrev pub least_nearness : Piece → ℕ
least_nearness t = min (nearness t 0) (min (nearness t 1) (nearness t 2))

abbrev pub greatest_nearness : Piece → ℕ
greatest_nearness t = max (nearness t 0) (max (nearness t 1) (nearness t 2))

-- Over the 32 samples of the subtile, covered or not; the denominator is the same at each.
abbrev pub low_up_to : ℕ → Piece → Sub → ℕ
low_up_to top t u =
    cut_to_range top (int_max (pos (least_nearness t))
    (floor_of (least_of (each_sample (λ k. numerator t (sample u k)))) (denominator t)))

unfoldable pub low_of : Piece → Sub → ℕ
low_of t u = low_up_to HELD_TOP t u

unfoldable pub high_of : Piece → Sub → ℕ
high_of t u =
    cut_to_range HELD_TOP (int_min (pos (greatest_nearness t))
    (ceiling_of (greatest_of (each_sample (λ k. numerator t (sample u k)))) (denominator t)))
