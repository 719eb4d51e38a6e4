-- Through the identity camera nothing moves.
use Rattle.std.proofs.Common.{◌≡◌, ℤ, pos, negsuc, ◌+◌, ◌*◌, ◌/◌, ◌+ℤ◌, ◌*ℤ◌, List, arith, refl, ap}
use Rattle.std.proofs.lemmas.Int.{ints}
use Rattle.cull_base.specs.Depth.{floor_of}
use Rattle.camera_path.specs.Clip.{clip_of, as_clip, identity_camera, number}

whole_floor : (n : ℤ) → floor_of (pos 65536 *ℤ n) (pos 65536) ≡ n
whole_floor (pos n) = omega (arith, ints)
whole_floor (negsuc n) =
    let e : pos 65536 *ℤ negsuc n ≡ negsuc (65536 * n + 65535) = omega (arith, ints) in
    let q : (65536 * n + 65535) / 65536 ≡ n = omega arith in
    rw e (ap negsuc q)

x_kept : (x y z : ℤ) → floor_of (((pos 65536 *ℤ x) +ℤ (pos 0 *ℤ y)) +ℤ (pos 0 *ℤ z)) (pos 65536) +ℤ pos 0 ≡ x
x_kept x y z = let e : ((pos 65536 *ℤ x) +ℤ (pos 0 *ℤ y)) +ℤ (pos 0 *ℤ z) ≡ pos 65536 *ℤ x = omega (arith, ints) in rw e (omega (arith, ints, whole_floor x))

y_kept : (x y z : ℤ) → floor_of (((pos 0 *ℤ x) +ℤ (pos 65536 *ℤ y)) +ℤ (pos 0 *ℤ z)) (pos 65536) +ℤ pos 0 ≡ y
y_kept x y z = let e : ((pos 0 *ℤ x) +ℤ (pos 65536 *ℤ y)) +ℤ (pos 0 *ℤ z) ≡ pos 65536 *ℤ y = omega (arith, ints) in rw e (omega (arith, ints, whole_floor y))

w_kept : (x y z : ℤ) → floor_of (((pos 0 *ℤ x) +ℤ (pos 0 *ℤ y)) +ℤ (pos 65536 *ℤ z)) (pos 65536) +ℤ pos 0 ≡ z
w_kept x y z = let e : ((pos 0 *ℤ x) +ℤ (pos 0 *ℤ y)) +ℤ (pos 65536 *ℤ z) ≡ pos 65536 *ℤ z = omega (arith, ints) in rw e (omega (arith, ints, whole_floor z))

pub clip_of-identity : (v : List ℤ) → clip_of identity_camera v ≡ as_clip v
unfolding clip_of
clip_of-identity v =
    let x = x_kept (number v 0) (number v 1) (number v 2) in
    let y = y_kept (number v 0) (number v 1) (number v 2) in
    let w = w_kept (number v 0) (number v 1) (number v 2) in
    rw (x, y, w) refl
