-- Shifts of units to steps.
use Rattle.std.proofs.Common.{◌≡◌, ℕ, ℤ, pos, negsuc, neg_ℤ, ◌+◌, ◌*◌, ◌^◌, ◌≤◌, ◌<◌, ◌+ℤ◌, ◌*ℤ◌, ◌≤ℤ◌, ◌<ℤ◌, ◌-◌, FitsSigned, w64, max, arith, refl}
use Rattle.std.specs.Int.{int_div_euclid}
use Rattle.std.specs.Int.RustNames.{unsigned_abs}
use lib.Signed.{shr_z}
use Rattle.std.proofs.lemmas.Int.{ints}
use Rattle.std.proofs.lemmas.Nat.{pow-add}
use Rattle.std.proofs.Math.Pow.{pow_mono}
use Rattle.cull_base.specs.Bounds.{Bounded}
use Rattle.exact_clip.specs.declared.held.Held.{Held}
use Rattle.box_rays.specs.Corners.{IsReach, IsShort}
use Rattle.box_rays.proofs.Orders.{cancel, more_steps, turned_steps}

shift_is : (v : ℤ) (d : ℕ) → 0 < d → shr_z v d ≡ int_div_euclid v (pos d)
shift_is (pos n) d h = refl
shift_is (negsuc n) d h = refl

floor_low : (n : ℤ) (p : ℕ) → 0 < p → (int_div_euclid n (pos p) *ℤ pos p) ≤ℤ n
floor_low (pos a) p h = omega (arith, ints)
floor_low (negsuc a) p h = omega (arith, ints)

floor_high : (n : ℤ) (p : ℕ) → 0 < p → n <ℤ ((int_div_euclid n (pos p) *ℤ pos p) +ℤ pos p)
floor_high (pos a) p h = omega (arith, ints)
floor_high (negsuc a) p h = omega (arith, ints)

pub shift_fits : (v : ℤ) (d : ℕ) → 0 < d → FitsSigned w64 v → FitsSigned w64 (shr_z v d)
shift_fits (pos n) d h f = omega (arith, ints, h, f)
shift_fits (negsuc n) d h f = omega (arith, ints, h, f)

pub shift_low : (v : ℤ) (d : ℕ) → 0 < d → (shr_z v d *ℤ pos d) ≤ℤ v
shift_low v d h = rw (shift_is v d h) (floor_low v d h)

pub shift_high : (v : ℤ) (d : ℕ) → 0 < d → v <ℤ ((shr_z v d +ℤ pos 1) *ℤ pos d)
shift_high v d h = rw (shift_is v d h) (more _ _ (more_steps (int_div_euclid v (pos d)) 1 d) (floor_high v d h))
  where
    more : (a b : ℤ) → a ≡ b +ℤ pos (1 * d) → v <ℤ (b +ℤ pos d) → v <ℤ a
    more a b e k = omega (arith, ints, e, k)

-- steps of a bounded number of units are bounded
pub steps_bounded : (n d : ℕ) (steps units : ℤ) → 0 < d → Bounded (n * d) units → (steps *ℤ pos d) ≤ℤ units → units <ℤ ((steps +ℤ pos 1) *ℤ pos d) → Bounded n steps
steps_bounded n d steps units h bounded low high =
    let up = cancel d steps (pos n +ℤ pos 1) (above _ _ _ (more_steps (pos n) 1 d) refl low) in
    let down = cancel d (neg_ℤ (pos n)) (steps +ℤ pos 1) (below _ _ _ (turned_steps (pos n) d) refl high) in
    (last (neg_ℤ (pos n)) down, last_up up)
  where
    above : (a b c : ℤ) → b ≡ c +ℤ pos (1 * d) → c ≡ pos (n * d) → a ≤ℤ units → a <ℤ b
    above a b c e f k = omega (arith, ints, e, f, k, h, bounded)

    below : (a b c : ℤ) → a ≡ neg_ℤ c → c ≡ pos (n * d) → units <ℤ b → a <ℤ b
    below a b c e f k = omega (arith, ints, e, f, k, bounded)

    last : (m : ℤ) → m <ℤ (steps +ℤ pos 1) → m ≤ℤ steps
    last m k = omega (arith, ints, k)

    last_up : steps <ℤ (pos n +ℤ pos 1) → steps ≤ℤ pos n
    last_up k = omega (arith, ints, k)

-- how far corners reach
pub abs_bounded : (z : ℤ) (n : ℕ) → unsigned_abs z ≤ n → Bounded n z
abs_bounded (pos a) n h = (omega (arith, ints, h), omega (arith, ints, h))
abs_bounded (negsuc a) n h = (omega (arith, ints, h), omega (arith, ints, h))

bounded_more : (m n : ℕ) (z : ℤ) → m ≤ n → Bounded m z → Bounded n z
bounded_more m n z h k = (omega (arith, ints, h, k), omega (arith, ints, h, k))

pub reach_more : (m n : ℕ) → m ≤ n → (v : Held) → IsReach m v → IsReach n v
reach_more m n h v k = record { x = bounded_more m n v.x h k.x; y = bounded_more m n v.y h k.y; w = bounded_more m n v.w h k.w }

-- with as many steps taken together as a number of so many bits needs
enough : (most l shift : ℕ) → most < 2 * 2 ^ l → l + 1 ≤ 47 + shift → most ≤ 2 ^ 47 * 2 ^ shift
enough most l shift h k = let e = pow-add 2 l 1 in let f = pow-add 2 47 shift in let p = pow_mono k in omega (arith, h, e, f, p)

pub short_by : (most l shift : ℕ) → most < 2 * 2 ^ l → shift ≡ max (l - 46) 2 → (v : Held) → IsReach most v → IsShort shift v
short_by most l shift h e = reach_more most (2 ^ 47 * 2 ^ shift) (enough most l shift h (omega (arith, e)))
