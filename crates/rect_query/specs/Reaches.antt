-- How far vertices reach in clip space: the least and the greatest of each coordinate.
use Rattle.std.specs.Prelude.{ℕ, ℤ, pos, neg_ℤ, ◌*◌, List, [], ◌∷◌, Bool, int_lt, ◌||◌}
use Rattle.std.specs.Int.{int_min, int_max}
use Rattle.std.specs.List.{fold}
use Rattle.cull_base.specs.declared.clip.ClipVertex.{ClipVertex}
use Rattle.rect_query.specs.declared.reach.Limits.{Limits}
use Rattle.rect_query.specs.declared.reach.Reach.{Reach}

-- of one number, and of one more
abbrev pub limits_of : ℤ → Limits
limits_of z = record { least = z; greatest = z }

abbrev pub widened : Limits → ℤ → Limits
widened l z = record { least = int_min l.least z; greatest = int_max l.greatest z }

abbrev pub reach_of : ClipVertex → Reach
reach_of v = record { x = limits_of v.x; y = limits_of v.y; w = limits_of v.w }

abbrev pub reach_with : Reach → ClipVertex → Reach
reach_with r v = record { x = widened r.x v.x; y = widened r.y v.y; w = widened r.w v.w }

-- 0 of no vertices
abbrev pub reach_of_all : List ClipVertex → Reach
reach_of_all [] = reach_of (record { x = pos 0; y = pos 0; w = pos 0 })
reach_of_all (v ∷ vs) = fold reach_with (reach_of v) vs

-- some number lies more than n away from 0
abbrev pub are_beyond : ℕ → Limits → Bool
are_beyond n l = int_lt l.least (neg_ℤ (pos n)) || int_lt (pos n) l.greatest

-- some vertex is past the guard, or some is behind the near plane
abbrev pub is_reach_astray : ℕ → Reach → Bool
is_reach_astray near r =
    (are_beyond (16384 * near) r.x || (are_beyond (16384 * near) r.y || are_beyond (16384 * near) r.w))
    || int_lt r.w.least (pos near)
