-- Worked values of the near part, each by computing, at near distance 2.
use Rattle.std.proofs.Common.{◌≡◌, ℕ, pos, refl, [], ◌∷◌}
use Rattle.cull_base.specs.declared.clip.ClipVertex.{ClipVertex}
use Rattle.near_clip.specs.declared.hom_point.HomPoint.{HomPoint}
use Rattle.near_clip.specs.NearPart.{near_part}

abbrev at : (x y w : ℕ) → ClipVertex
at x y w = record { x = pos x; y = pos y; w = pos w }

abbrev point : (x y w scale : ℕ) → HomPoint
point x y w scale = record { x = pos x; y = pos y; w = pos w; scale = pos scale }

-- One vertex is behind the near plane, the third, the second or the first: two cuts stand in its place, in the order of the edges.
one_out : (near_part (at 0 0 6) (at 0 4 6) (at 4 0 0) 2 ≡ point 0 0 6 1 ∷ point 0 4 6 1 ∷ point 16 8 12 6 ∷ point 16 0 12 6 ∷ [])
    × (near_part (at 0 4 6) (at 4 0 0) (at 0 0 6) 2 ≡ point 0 4 6 1 ∷ point 16 8 12 6 ∷ point 16 0 12 6 ∷ point 0 0 6 1 ∷ [])
    × (near_part (at 4 0 0) (at 0 0 6) (at 0 4 6) 2 ≡ point 16 0 12 6 ∷ point 0 0 6 1 ∷ point 0 4 6 1 ∷ point 16 8 12 6 ∷ [])
unfolding near_part
one_out = (refl, refl, refl)

-- Two vertices are behind it: the one in front, the third, the first or the second, is left between two cuts.
two_out : (near_part (at 0 0 0) (at 0 4 0) (at 4 0 6) 2 ≡ point 8 0 12 6 ∷ point 8 16 12 6 ∷ point 4 0 6 1 ∷ [])
    × (near_part (at 4 0 6) (at 0 0 0) (at 0 4 0) 2 ≡ point 4 0 6 1 ∷ point 8 0 12 6 ∷ point 8 16 12 6 ∷ [])
    × (near_part (at 0 4 0) (at 4 0 6) (at 0 0 0) 2 ≡ point 8 16 12 6 ∷ point 4 0 6 1 ∷ point 8 0 12 6 ∷ [])
unfolding near_part
two_out = (refl, refl, refl)

-- A vertex on the near plane is inside.
on_plane : near_part (at 0 0 2) (at 0 4 2) (at 4 0 2) 2 ≡ point 0 0 2 1 ∷ point 0 4 2 1 ∷ point 4 0 2 1 ∷ []
unfolding near_part
on_plane = refl

-- Nothing is left of a triangle behind it.
all_out : near_part (at 0 0 0) (at 0 4 0) (at 4 0 1) 2 ≡ []
unfolding near_part
all_out = refl
