-- The guard: a clip vertex past it is too far out to be held in whole numbers of the stated sizes.
use Rattle.std.specs.Prelude.{ℕ, ℤ, pos, neg_ℤ, ◌*◌, Bool, int_lt, ◌||◌}
use Rattle.cull_base.specs.declared.clip.ClipVertex.{ClipVertex}

-- v lies more than n away from 0
abbrev pub is_beyond : ℕ → ℤ → Bool
is_beyond n v = int_lt v (neg_ℤ (pos n)) || int_lt (pos n) v

abbrev pub is_past_guard : ClipVertex → ℕ → Bool
is_past_guard v near = is_beyond (16384 * near) v.x || (is_beyond (16384 * near) v.y || is_beyond (16384 * near) v.w)
