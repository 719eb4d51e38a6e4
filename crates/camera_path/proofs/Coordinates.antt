-- A coordinate by the products that its row adds up.
use Rattle.std.proofs.Common.{◌≡◌, ℤ, ℕ, pos, ◌^◌, ◌+◌, ◌+ℤ◌, ◌*ℤ◌, FitsSigned, w64, List, arith, refl}
use Rattle.std.proofs.lemmas.Int.{ints}
use Rattle.cull_base.specs.Bounds.{Bounded}
use Rattle.cull_base.specs.Depth.{floor_of}
use Rattle.camera_path.specs.Clip.{coordinate_of, number}

pub by_products : (camera v : List ℤ) (r : ℕ) (s x y z : ℤ)
    → s ≡ floor_of ((x +ℤ y) +ℤ z) (pos 65536) +ℤ number camera (r + 3)
    → x ≡ number camera r *ℤ number v 0 → y ≡ number camera (r + 1) *ℤ number v 1 → z ≡ number camera (r + 2) *ℤ number v 2
    → s ≡ coordinate_of camera r v
by_products camera v r s x y z e ex ey ez = rw (e, ex, ey, ez) refl

pub product_fits : (p : ℤ) → Bounded (2 ^ 60) p → FitsSigned w64 p
product_fits p h = omega (arith, ints, h)
