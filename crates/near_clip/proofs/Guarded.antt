-- What the guard says of a vertex that isn't past it.
use Rattle.std.proofs.Common.{◌≡◌, ℕ, ℤ, pos, neg_ℤ, ◌*◌, ◌^◌, ◌≤◌, false, ◌||◌, int_lt, arith}
use Rattle.std.proofs.lemmas.Int.{ints}
use Rattle.std.proofs.lemmas.Bool.{or_parts}
use Rattle.cull_base.specs.Bounds.{Bounded}
use Rattle.cull_base.specs.Guard.{is_beyond, is_past_guard}
use Rattle.cull_base.specs.declared.clip.ClipVertex.{ClipVertex}

not_beyond : (n : ℕ) (v : ℤ) → is_beyond n v ≡ false → Bounded n v
not_beyond n v e = let (low, high) = or_parts (int_lt v (neg_ℤ (pos n))) (int_lt (pos n) v) e in (grind (arith, ints), grind (arith, ints))

pub record IsGuarded (near : ℕ) (v : ClipVertex) : Type 0 where
  pub x_within : Bounded (16384 * near) v.x
  pub y_within : Bounded (16384 * near) v.y
  pub w_within : Bounded (16384 * near) v.w

pub guarded : (v : ClipVertex) (near : ℕ) → is_past_guard v near ≡ false → IsGuarded near v
guarded v near e =
    let (x, rest) = or_parts (is_beyond (16384 * near) v.x) (is_beyond (16384 * near) v.y || is_beyond (16384 * near) v.w) e in
    let (y, w) = or_parts (is_beyond (16384 * near) v.y) (is_beyond (16384 * near) v.w) rest in
    record { x_within = not_beyond _ v.x x; y_within = not_beyond _ v.y y; w_within = not_beyond _ v.w w }

-- in the code's bounds
pub narrowed : (near : ℕ) (z : ℤ) → near ≤ 1024 → Bounded (16384 * near) z → Bounded (2 ^ 24) z
narrowed near z le h = (omega (arith, ints, h), omega (arith, ints, h))
