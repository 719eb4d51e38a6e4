-- Meshes and boxes of floats, how they are seen, and what is written and answered of them.
use Rattle.std.specs.Prelude.{ℕ, ◌≡◌, ◌+◌, ◌-◌, ◌*◌, ◌/◌, ◌%◌, ◌^◌, ◌≤◌, cond, nat_eq, nat_lt, List, [], ◌∷◌, length, map, slice_index}
use Rattle.std.specs.List.{All, AllZip, Contains, fold, range_with_len}
use Rattle.cull_base.specs.declared.scene_types.Verdict.{Verdict}
use Rattle.cull_base.specs.declared.scene_types.Verdict.TheVariants.{Visible, Occluded, Outside}
use Rattle.cull_base.specs.Grade.{top_of}
use Rattle.cull_base.specs.Piece.{Piece}
use Rattle.cull_base.specs.Screen.{Dimensions, dimensions}
use Rattle.cull_base.specs.Shape.{Shape}
use Rattle.float_bits.specs.Floats.{IsNumber}
use Rattle.exact_clip.specs.Clip.{Clip, clip_of, distance_of}
use Rattle.pixel_forms.specs.Rays.{Face}
use Rattle.pixel_forms.specs.Within.{Sight, IsWithinFaces}
use Rattle.box_rays.specs.Objects.{IsReached, IsBeside, IsNearest}
use Rattle.masked_update.specs.TileOf.{TileOf}
use Rattle.maskcull_c.specs.Asked.{verdict_over}
use Rattle.maskcull_c.specs.Given.{size_of, grade_of, winding_of}
use Rattle.maskcull_c.specs.Pieces.{AreListed}
use Rattle.maskcull_c.specs.Tiles.{Hides, code_of}
use Rattle.maskcull_c.specs.declared.given.Setup.{Setup}
use Rattle.maskcull_c.specs.declared.given.Triangle.{Triangle}
use Rattle.maskcull_c.specs.declared.pieces.PieceRoom.{PieceRoom}
use Rattle.maskcull_c.specs.declared.scratch.Scratch.{Scratch}
use Rattle.maskcull_c.specs.declared.view.View.{View}
use Rattle.maskcull_c.specs.declared.view.Bounds.{Bounds}

-- a view that isn't refused with a setup
pub record IsView (s : Setup) (v : View) : Type 0 where
  pub reach : v.reach ≤ 64
  pub share : v.share ≤ 2 ^ 20
  pub stride : 3 ≤ v.stride
  pub wide : 1 ≤ v.width
  pub within_width : v.width ≤ s.width
  pub high : 1 ≤ v.height
  pub within_height : v.height ≤ s.height

-- the cells of the screen from -1 to 1
abbrev pub screen_of : View → Dimensions
screen_of v = dimensions v.width v.height

abbrev pub sight_of : Setup → View → Sight
sight_of s v =
    record {
      size = screen_of v;
      near = distance_of v.near_distance;
      top = top_of (grade_of s);
      winding = winding_of s.winding;
      reach = v.reach;
    }

-- A position is three floats; the next one begins a stride behind it, and the last needs no more than its three.
abbrev pub position_count : ℕ → ℕ → ℕ
position_count stride floats = cond (nat_lt floats 3) 0 ((floats - 3) / stride + 1)

abbrev pub position_at : ℕ → List ℕ → ℕ → List ℕ
position_at stride floats k =
    slice_index floats (stride * k) ∷ slice_index floats (stride * k + 1) ∷ slice_index floats (stride * k + 2) ∷ []

abbrev pub point_at : View → List ℕ → ℕ → Clip
point_at v floats k = clip_of v.rows (position_at v.stride floats k)

abbrev pub face_of : View → List ℕ → Triangle → Face
face_of v floats t = record { a = point_at v floats t.a; b = point_at v floats t.b; c = point_at v floats t.c }

-- all three positions are numbers
pub record HasNumbers (v : View) (floats : List ℕ) (t : Triangle) : Type 0 where
  pub a : All IsNumber (position_at v.stride floats t.a)
  pub b : All IsNumber (position_at v.stride floats t.b)
  pub c : All IsNumber (position_at v.stride floats t.c)

-- one of a mesh's triangles whose positions are numbers
pub record IsOfMesh (v : View) (floats : List ℕ) (triangles : List Triangle) (f : Face) : Type 0 where
  pub triangle : Triangle
  pub member : Contains triangles triangle
  pub numbers : HasNumbers v floats triangle
  pub is : f ≡ face_of v floats triangle

-- each piece lies within the mesh's triangles
abbrev pub AreWithin : Setup → View → List ℕ → List Triangle → List Piece → Type 0
AreWithin s v floats triangles pieces =
    (t : Piece) → Contains pieces t → IsWithinFaces (sight_of s v) (IsOfMesh v floats triangles) t

-- A shape that may be asked of the tiles for the object between some points: visible whatever they hold, outside where
-- no point of the object is seen on the screen, or a rectangle that all are seen in, with a nearness that none exceeds.
abbrev pub MayStandFor : Setup → View → List Clip → Shape → Type 0
MayStandFor s v points Shape.AlwaysVisible = Unit {0}
MayStandFor s v points Shape.AlwaysOutside = IsBeside (screen_of v) points
MayStandFor s v points (Shape.Flat rect nearness) =
    IsReached (screen_of v) points rect × IsNearest (top_of (grade_of s)) (distance_of v.near_distance) v.share nearness points
MayStandFor s v points (Shape.Pieces pieces hull) = ⊥

-- the answer to such a shape
pub record IsAnswerFor (s : Setup) (v : View) (tiles : List TileOf) (points : List Clip) (code : ℕ) : Type 0 where
  pub shape : Shape
  pub stands : MayStandFor s v points shape
  pub value : code ≡ code_of (verdict_over (size_of s) tiles shape)
  pub hides : Hides (size_of s) tiles shape code

-- corner k of a box: bit 0 of k takes the higher x, bit 1 the higher y, bit 2 the higher z
abbrev pub end_of : Bounds → ℕ → ℕ → ℕ → ℕ
end_of b k bit axis = cond (nat_eq (k / bit % 2) 0) (slice_index b.low axis) (slice_index b.high axis)

abbrev pub corner_of : Bounds → ℕ → List ℕ
corner_of b k = end_of b k 1 0 ∷ end_of b k 2 1 ∷ end_of b k 4 2 ∷ []

abbrev pub corners_of : View → Bounds → List Clip
corners_of v b = map (λ k. clip_of v.rows (corner_of b k)) (range_with_len 0 8)

-- the three points of a triangle
abbrev pub points_of : View → List ℕ → Triangle → List Clip
points_of v floats t = point_at v floats t.a ∷ point_at v floats t.b ∷ point_at v floats t.c ∷ []

-- two verdicts together: outside where both are, occluded where all that isn't outside is, else visible
abbrev pub joined : Verdict → Verdict → Verdict
joined Visible b = Visible
joined Occluded Visible = Visible
joined Occluded Occluded = Occluded
joined Occluded Outside = Occluded
joined Outside b = b

abbrev pub all_joined : List Verdict → Verdict
all_joined verdicts = fold joined Outside verdicts

-- The answer to a shape for each triangle of a mesh: the verdicts on these, together.
pub record IsMeshAnswerFor (s : Setup) (v : View) (tiles : List TileOf) (floats : List ℕ) (triangles : List Triangle) (code : ℕ) : Type 0 where
  pub shapes : List Shape
  pub stand : AllZip (λ t shape. MayStandFor s v (points_of v floats t) shape) triangles shapes
  pub value : code ≡ code_of (all_joined (map (verdict_over (size_of s) tiles) shapes))
  pub hide : All (λ shape. Hides (size_of s) tiles shape code) shapes

-- room for the clip point of each position, and for seven pieces a triangle
pub record HasFloatRoom (v : View) (floats : List ℕ) (triangles : List Triangle) (scratch : List Scratch) (rooms : List PieceRoom) : Type 0 where
  pub scratch_room : position_count v.stride (length floats) ≤ length scratch
  pub piece_room : 7 * length triangles ≤ length rooms

-- pieces of a mesh that are written from the first place on, and how many there are
pub record AreSetUp (s : Setup) (v : View) (floats : List ℕ) (triangles : List Triangle) (old new : List PieceRoom) (count : ℕ) : Type 0 where
  pub pieces : List Piece
  pub listed : AreListed 0 pieces old new
  pub counted : count ≡ length pieces
  pub within : AreWithin s v floats triangles pieces
