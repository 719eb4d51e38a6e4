-- What of an object is hidden in the picture, in numbers of the floats that were passed.
use Rattle.std.specs.Prelude.{ℕ, ℤ, pos, ◌≡◌, ◌+◌, ◌^◌, ◌<◌, ◌≤◌, ◌*ℤ◌, ◌<ℤ◌, List, [], ◌∷◌}
use Rattle.std.specs.List.{All, Contains}
use Rattle.cull_base.specs.Piece.{Piece}
use Rattle.cull_base.specs.Pixels.{tile_of_pixel}
use Rattle.exact_clip.specs.Clip.{Clip, distance_of}
use Rattle.pixel_forms.specs.Rays.{Place, InSquare, ray_through, Face, Meets, IsUncut, size_of, weight_of}
use Rattle.pixel_forms.specs.Within.{IsWithinFaces}
use Rattle.box_rays.specs.Objects.{Projects, weighted}
use Rattle.masked_update.specs.TileOf.{TileOf, tile_at}
use Rattle.maskcull_c.specs.Floats.{IsOfMesh, screen_of, sight_of}
use Rattle.maskcull_c.specs.Given.{grade_of, size_of as screen_size}
use Rattle.maskcull_c.specs.Tiles.{IsSoundFor}
use Rattle.maskcull_c.specs.declared.given.Setup.{Setup}
use Rattle.maskcull_c.specs.declared.given.Triangle.{Triangle}
use Rattle.maskcull_c.specs.declared.view.View.{View}

-- a mesh, as a call took it
pub record Drawn : Type 0 where
  pub setup : Setup
  pub view : View
  pub positions : List ℕ
  pub triangles : List Triangle

-- one of the triangles of some meshes, of those whose positions are numbers
abbrev pub IsDrawn : List Drawn → Face → Type 0
IsDrawn meshes f = (m : Drawn) × Contains meshes m × IsOfMesh m.view m.positions m.triangles f

-- drawn with the same screen, near distance and grade, and with at least so much reach
pub record IsOfFrame (s : Setup) (v : View) (least : ℕ) (m : Drawn) : Type 0 where
  pub grade : grade_of m.setup ≡ grade_of s
  pub near : m.view.near_distance ≡ v.near_distance
  pub width : m.view.width ≡ v.width
  pub height : m.view.height ≡ v.height
  pub reach : least ≤ m.view.reach

-- Each piece of some lists lies within the triangles of one of the meshes, as each that `maskcull_set_up_floats` writes
-- of it does.
abbrev pub AreOfMeshes : List Drawn → (ℕ → List Piece) → Type 0
AreOfMeshes meshes lists =
    (number : ℕ) (t : Piece) → Contains (lists number) t
    → (m : Drawn) × Contains meshes m × IsWithinFaces (sight_of m.setup m.view) (IsOfMesh m.view m.positions m.triangles) t

-- tiles of a frame: each that has a pixel is sound for a list of pieces of its meshes
pub record IsFrame (s : Setup) (v : View) (least : ℕ) (meshes : List Drawn) (tiles : List TileOf) : Type 0 where
  pub same : (m : Drawn) → Contains meshes m → IsOfFrame s v least m
  pub lists : ℕ → List Piece
  pub sound : (px py : ℕ) → px < s.width → py < s.height
      → let t = tile_of_pixel (screen_size s) px py in IsSoundFor (screen_size s) t (lists t) (tile_at tiles t)
  pub within : AreOfMeshes meshes lists

-- The ray through a place meets a triangle, which isn't cut off, and strictly nearer than each of some points: by more
-- than a share of 2^24.
pub record IsHiddenBy (near : ℤ) (share : ℕ) (points : List Clip) (ray : Clip) (f : Face) : Type 0 where
  pub meets : Meets f ray
  pub uncut : IsUncut near f ray
  pub nearer : All (λ p. (pos (2 ^ 24 + share) *ℤ (ray.w *ℤ size_of f)) <ℤ (pos (2 ^ 24) *ℤ (p.w *ℤ weight_of f ray))) points

-- For each pixel that the object is seen in, and each point of the square around the pixel's middle, one of the
-- triangles hides all of the object there.
abbrev pub IsHiddenInPicture : View → ℕ → (Face → Type 0) → List Clip → Type 0
IsHiddenInPicture v reach faces points =
    (px py : ℕ) → px < v.width → py < v.height
    → (weights : List ℕ) → Projects (screen_of v) px py (weighted weights points)
    → (z : Place) → InSquare reach px py z
    → (f : Face) × faces f × IsHiddenBy (distance_of v.near_distance) v.share points (ray_through (screen_of v) z) f

-- how many points are in a weighted sum, each counted by its weight
abbrev pub count_of : List ℕ → List Clip → ℕ
count_of [] points = 0
count_of (n ∷ ns) [] = 0
count_of (n ∷ ns) (p ∷ ps) = n + count_of ns ps
