-- Clip points of positions, as they are held in units.
use Rattle.std.specs.Prelude.{ℕ, pos, ◌≡◌, ◌+◌, ◌^◌, ◌<◌, ◌≤◌, true, cond, nat_eq, Option, Some, None, IfSome, List, [], length, map, slice_index, slice_index_or}
use Rattle.std.specs.List.{All, AllZip}
use Rattle.cull_base.specs.declared.scene_types.Verdict.{Verdict}
use Rattle.cull_base.specs.Piece.{Piece}
use Rattle.cull_base.specs.Rectangle.{meets}
use Rattle.cull_base.specs.Screen.{Dimensions, screen_of}
use Rattle.cull_base.specs.Shape.{Shape}
use Rattle.float_bits.specs.Floats.{IsNumber}
use Rattle.exact_clip.specs.Held.{Holds}
use Rattle.exact_clip.specs.declared.held.Held.{Held}
use Rattle.box_rays.specs.declared.reached.Reached.{Reached}
use Rattle.box_rays.specs.declared.reached.Reached.TheVariants.{Outside, Visible, At}
use Rattle.masked_update.specs.TileOf.{TileOf}
use Rattle.maskcull_c.specs.Asked.{verdict_over}
use Rattle.maskcull_c.specs.Floats.{AreWithin, MayStandFor, all_joined, point_at, points_of, position_at, position_count}
use Rattle.maskcull_c.specs.Given.{size_of}
use Rattle.maskcull_c.specs.Pieces.{AreListed}
use Rattle.maskcull_c.specs.declared.given.Setup.{Setup}
use Rattle.maskcull_c.specs.declared.given.Triangle.{Triangle}
use Rattle.maskcull_c.specs.declared.lens.Lens.{Lens}
use Rattle.maskcull_c.specs.declared.pieces.PieceRoom.{PieceRoom}
use Rattle.maskcull_c.specs.declared.scratch.Scratch.{Scratch}
use Rattle.maskcull_c.specs.declared.view.View.{View}

abbrev pub unit_of : Lens → ℕ
unit_of lens = 2 ^ lens.rows.exponent

-- what is held of a position, of which each float is a number
pub record IsPoint (lens : Lens) (floats : List ℕ) (k : ℕ) (held : Held) : Type 0 where
  pub numbers : All IsNumber (position_at lens.view.stride floats k)
  pub holds : Holds (unit_of lens) held (point_at lens.view floats k)

abbrev pub no_scratch : Scratch
no_scratch = record { held = []; state = [] }

abbrev pub scratch_at : List Scratch → ℕ → Scratch
scratch_at scratch k = slice_index_or scratch k no_scratch

-- the clip point in a scratch, if it has one
abbrev pub held_in : Scratch → Option Held
held_in s = cond (nat_eq (slice_index s.state 0) 0) None
    (Some (record { x = slice_index_or s.held 0 (pos 0); y = slice_index_or s.held 1 (pos 0); w = slice_index_or s.held 2 (pos 0) }))

-- a scratch for each position, which has its clip point or none
pub record AreHeld (lens : Lens) (floats : List ℕ) (scratch : List Scratch) : Type 0 where
  pub count : length scratch ≡ position_count lens.view.stride (length floats)
  pub each : (k : ℕ) → k < length scratch → IfSome (held_in (scratch_at scratch k)) (IsPoint lens floats k)

-- the shape that is asked of the tiles
abbrev pub shape_of : Reached → Shape
shape_of Outside = Shape.AlwaysOutside
shape_of Visible = Shape.AlwaysVisible
shape_of (At rect nearness) = Shape.Flat rect nearness

-- a rectangle has a pixel on the screen
abbrev pub MeetsScreen : Dimensions → Reached → Type 0
MeetsScreen size Outside = Unit {0}
MeetsScreen size Visible = Unit {0}
MeetsScreen size (At rect nearness) = meets rect (screen_of size) ≡ true

-- the verdict on a mesh: that on a shape for each of its triangles, together
pub record IsMeshVerdict (s : Setup) (v : View) (tiles : List TileOf) (floats : List ℕ) (triangles : List Triangle) (verdict : Verdict) : Type 0 where
  pub shapes : List Shape
  pub stand : AllZip (λ t shape. MayStandFor s v (points_of v floats t) shape) triangles shapes
  pub value : verdict ≡ all_joined (map (verdict_over (size_of s) tiles) shapes)

-- pieces of a mesh, at most so many, that are written from one place to before another
pub record AreAdded (lens : Lens) (floats : List ℕ) (triangles : List Triangle) (most at next : ℕ) (old new : List PieceRoom) : Type 0 where
  pub pieces : List Piece
  pub listed : AreListed at pieces old new
  pub after : next ≡ at + length pieces
  pub within : AreWithin lens.setup lens.view floats triangles pieces
  pub few : length pieces ≤ most
