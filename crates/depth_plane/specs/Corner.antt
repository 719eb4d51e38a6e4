-- The corner of a subtile where a plane is least or greatest.
use Rattle.std.specs.Prelude.{ℕ, ℤ, pos, negsuc, List}
use Rattle.cull_base.specs.Piece.{least_of, greatest_of}
use Rattle.depth_plane.specs.declared.corner.End.{End}
use Rattle.depth_plane.specs.declared.corner.End.TheVariants.{Least, Greatest}

-- where n * x is least over x from 0 to span, and where it is greatest
abbrev pub least_place : ℤ → ℕ → ℕ
least_place (pos n) span = 0
least_place (negsuc n) span = span

abbrev pub greatest_place : ℤ → ℕ → ℕ
greatest_place (pos n) span = span
greatest_place (negsuc n) span = 0

-- either place, and either value of some
abbrev pub end_place : End → ℤ → ℕ → ℕ
end_place Least n span = least_place n span
end_place Greatest n span = greatest_place n span

abbrev pub best_of : End → List ℤ → ℤ
best_of Least vs = least_of vs
best_of Greatest vs = greatest_of vs
