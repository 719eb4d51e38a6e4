-- The products of a row of a camera with a vertex.
use Rattle.std.specs.Prelude.{◌≡◌, ℕ, ℤ, ◌^◌, ◌+◌, ◌*ℤ◌, List}
use Rattle.cull_base.specs.Bounds.{Bounded}
use Rattle.camera_path.specs.Clip.{number}
use Rattle.camera_path.specs.declared.camera.Products.{Products}

-- what the row from number r adds up for a vertex, on each axis
pub record AreProducts (camera : List ℤ) (r : ℕ) (v : List ℤ) (p : Products) : Type 0 where
  pub x : p.x ≡ number camera r *ℤ number v 0
  pub y : p.y ≡ number camera (r + 1) *ℤ number v 1
  pub z : p.z ≡ number camera (r + 2) *ℤ number v 2
  pub x_bounded : Bounded (2 ^ 60) p.x
  pub y_bounded : Bounded (2 ^ 60) p.y
  pub z_bounded : Bounded (2 ^ 60) p.z
