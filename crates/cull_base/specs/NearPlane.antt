-- The near plane, which lies at the near distance.
use Rattle.std.specs.Prelude.{ℕ, pos, Bool, int_lt}
use Rattle.cull_base.specs.declared.clip.ClipVertex.{ClipVertex}

-- a vertex lies before the near distance
abbrev pub is_behind : ℕ → ClipVertex → Bool
is_behind near v = int_lt v.w (pos near)
