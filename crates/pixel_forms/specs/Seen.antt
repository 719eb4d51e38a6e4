-- How an eye sees triangles, by an exact unit.
use Rattle.std.specs.Prelude.{ℕ, pos, neg_ℤ, ◌+◌, ◌*◌, max, Bool, true, false, not}
use Rattle.cull_base.specs.Screen.{Dimensions, dimensions}
use Rattle.cull_base.specs.Grade.{top_of}
use Rattle.cull_base.specs.declared.triangle.Winding.{Winding}
use Rattle.cull_base.specs.declared.triangle.Winding.TheVariants.{Both, DropClockwise, DropCounter}
use Rattle.exact_clip.specs.Clip.{Clip}
use Rattle.pixel_forms.specs.declared.eye.Eye.{Eye}
use Rattle.pixel_forms.specs.Within.{Sight}

abbrev pub size_seen : Eye → Dimensions
size_seen eye = dimensions eye.width eye.height

abbrev pub sight_of : Eye → ℕ → Sight
sight_of eye unit =
    record {
      size = size_seen eye;
      near = pos (eye.near * unit);
      top = top_of eye.grade;
      winding = eye.winding;
      reach = eye.reach;
    }

-- the near distance times the top
abbrev pub nearest_of : Eye → ℕ
nearest_of eye = top_of eye.grade * eye.near

-- how long a ray through a pixel is along w, and at most along x and y, for each part of its place
abbrev pub whole_of : Eye → ℕ
whole_of eye = 8 * eye.width * eye.height

abbrev pub span_of : Eye → ℕ
span_of eye = 8 * eye.width * eye.height + eye.reach * max eye.width eye.height

-- whether a triangle counts that runs clockwise on the screen, or doesn't
abbrev pub keeps_turned : Winding → Bool → Bool
keeps_turned Both is_turned = true
keeps_turned DropClockwise is_turned = not is_turned
keeps_turned DropCounter is_turned = is_turned

-- a line, or the same the other way round
abbrev pub turned_line : Bool → Clip → Clip
turned_line false line = line
turned_line true line = record { x = neg_ℤ line.x; y = neg_ℤ line.y; w = neg_ℤ line.w }
